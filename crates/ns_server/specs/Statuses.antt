-- The statuses of the program: their numbers, and what each says on errors.
use Rattle.std.specs.Prelude.{ℕ, [], ◌∷◌, ◌++◌, codes, decimal}
use Rattle.txt_core.specs.Names.{Bytes, Words}
use Rattle.serve_run.specs.Statuses as serving
use Rattle.serve_run.specs.declared.ended.Ended.TheVariants as served
use Rattle.ns_server.specs.declared.status.Status.{Status}
use Rattle.ns_server.specs.declared.status.Status.TheVariants.{Done, BadEvent, BadWords, ReadFault, WriteFault, NoMemory}

-- the number with which the program ends
abbrev pub number_of : Status → ℕ
number_of Done = 0
number_of (BadEvent event) = 1
number_of BadWords = serving.number_of served.BadWords
number_of ReadFault = 3
number_of WriteFault = 4
number_of NoMemory = serving.number_of served.NoMemory

-- the line that is written on errors, with its newline; none where all went well
abbrev pub line_of : Status → Bytes
line_of Done = []
line_of (BadEvent event) = codes "bad event " ++ decimal event ++ codes "\n"
line_of BadWords = serving.line_of served.BadWords
line_of ReadFault = codes "read fault\n"
line_of WriteFault = codes "write fault\n"
line_of NoMemory = serving.line_of served.NoMemory

-- the words of a rehearsal: `rehearse` alone
abbrev pub rehearse_words : Words
rehearse_words = codes "rehearse" ∷ []

-- the words of a load of so many requests: `load` and their number
abbrev pub load_words : ℕ → Words
load_words requests = codes "load" ∷ decimal requests ∷ []
