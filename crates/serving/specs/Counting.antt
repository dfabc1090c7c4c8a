-- How the bytes of answers are counted.
use Rattle.std.specs.Prelude.{ℕ, ◌+◌, min}
use Rattle.outside.specs.Faults.{last_count}
use Rattle.outside.specs.declared.question.Answer.{Answer}
use Rattle.serving.specs.Connections.{answer_bytes}

-- so many bytes of answers, and those of one more; the count stands still where counters stop
abbrev pub counted : ℕ → Answer → ℕ
counted bytes answer = min (bytes + answer_bytes answer) last_count
