-- The statuses of a run of the server: their numbers, and what each says on errors.
use Rattle.std.specs.Prelude.{◌≡◌, ◌⊎◌, ℕ, [], ◌++◌, codes}
use Rattle.txt_core.specs.Names.{Bytes}
use Rattle.txt_core.specs.ErrorTexts.{no_page, page_fault, page_too_long}
use Rattle.ictl.specs.Replies.{budget_spent, nesting_too_deep}
use Rattle.serve_run.specs.declared.ended.Ended.{Ended}
use Rattle.serve_run.specs.declared.ended.Ended.TheVariants.{Done, BadWords, NoMemory, BadStart, NetFault}
use Rattle.serve_run.specs.declared.ended.StartFault.{StartFault}
use Rattle.serve_run.specs.declared.ended.StartFault.TheVariants as start

-- the number with which the program ends
abbrev pub number_of : Ended → ℕ
number_of Done = 0
number_of BadWords = 2
number_of NoMemory = 5
number_of (BadStart path fault) = 6
number_of NetFault = 7

-- what kept the start script, which stands at this path, from its good end
abbrev pub start_text : Bytes → StartFault → Bytes
start_text path start.NoPage = no_page path
start_text path start.Unreadable = page_fault path
start_text path start.TooLong = page_too_long path
start_text path (start.Error text) = text
start_text path start.Spent = budget_spent
start_text path start.TooDeep = nesting_too_deep

-- the line that is written on errors, with its newline; none where all went well
abbrev pub line_of : Ended → Bytes
line_of Done = []
line_of BadWords = codes "bad words\n"
line_of NoMemory = codes "out of memory\n"
line_of (BadStart path fault) = codes "start: " ++ start_text path fault ++ codes "\n"
line_of NetFault = codes "net fault\n"

-- an end is told as it is; or as want of memory, where there is none for its line
abbrev pub IsTold : Ended → Ended → Type 0
IsTold ended told = (told ≡ ended) ⊎ (told ≡ NoMemory)
