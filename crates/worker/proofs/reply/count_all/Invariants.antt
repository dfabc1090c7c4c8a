use Rattle.std.proofs.Common.{◌≡◌, ℕ, ◌+◌, take}
use Rattle.std.specs.Prelude.{min}
use Rattle.worker.specs.Items.{bytes_of}
use Rattle.worker.proofs.reply.count_all.Given as goal

abbrev pub invariant-loop-answer : goal.invariant-loop-answer
invariant-loop-answer l = (before : ℕ) → l.answered ≡ min before 18446744073709551615 → l.count ≡ min (before + bytes_of (take l.answer-index l.answer-items)) 18446744073709551615
