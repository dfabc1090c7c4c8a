-- An answer that may be cut off where the result is over the limit.
use Rattle.std.specs.Prelude.{◌⊎◌, Result, Ok, Err}
use Rattle.txt_core.specs.Names.{Bytes}
use Rattle.natives.specs.Answers.{Reply, Answers, limited}
use Rattle.natives.specs.declared.fault.Fault.{Fault}
use Rattle.natives.specs.declared.fault.Fault.TheVariants.{Error, NoMemory}

-- The program answers what the command comes to, or says already that it is over the limit.
abbrev pub Comes : Reply → Result Bytes Fault → Type 0
Comes reply (Ok text) = Answers reply (Ok text)
Comes reply (Err (Error text)) = Answers reply (Err (Error text)) ⊎ Answers (limited reply) (Err (Error text))
Comes reply (Err NoMemory) = Unit {0}
