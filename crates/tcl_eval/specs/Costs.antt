-- What things cost a run.
use Rattle.std.specs.Prelude.{ℕ, ◌+◌, ◌/◌, length, sum_by}
use Rattle.txt_core.specs.Names.{Bytes, Words}
use Rattle.outside.specs.declared.question.Answer.{Answer}
use Rattle.outside.specs.declared.question.Answer.TheVariants.{Said, Failed, Page, NoPage, PageFault}

-- so many whole bytes cost 1
abbrev pub bytes_for_one : ℕ
bytes_for_one = 1024

-- so many bytes cost 1 for each whole 1,024 of them
abbrev pub bytes_cost : ℕ → ℕ
bytes_cost bytes = bytes / bytes_for_one

-- a command costs 1, and what the bytes of all its words cost, with the name by which it was called
abbrev pub words_cost : ℕ → ℕ
words_cost bytes = 1 + bytes_cost bytes

abbrev pub command_cost : Words → ℕ
command_cost words = words_cost (sum_by length words)

-- a result costs what its bytes do
abbrev pub result_cost : Bytes → ℕ
result_cost result = bytes_cost (length result)

-- an answer costs what the bytes of its text or page do, as it is given
abbrev pub answer_cost : Answer → ℕ
answer_cost (Said said) = bytes_cost (length said)
answer_cost (Failed why) = bytes_cost (length why)
answer_cost (Page page) = bytes_cost (length page)
answer_cost NoPage = 0
answer_cost PageFault = 0

-- a turn of a loop costs 1, before its body
abbrev pub turn_cost : ℕ
turn_cost = 1

-- an evaluation of a text as an expression costs 1, before it is read
abbrev pub evaluation_cost : ℕ
evaluation_cost = 1
