-- The script of definitions.
use Rattle.std.specs.Prelude.{List, [], ◌∷◌, ◌++◌, Bool, true, false, codes}
use Rattle.txt_core.specs.Names.{Bytes, Words}
use Rattle.txt_core.specs.Quoting.{quoting}
use Rattle.cmd_table.specs.declared.definition.Def.{Def}
use Rattle.cmd_table.specs.declared.definition.Def.TheVariants.{Proc, Rename, Route, Filter, Cleanup, Set}
use Rattle.cmd_table.specs.declared.definition.When.{When}
use Rattle.cmd_table.specs.declared.definition.When.TheVariants.{Preauth, Postauth, Trace}

-- the name of a stage
abbrev pub when_name : When → Bytes
when_name Preauth = codes "preauth"
when_name Postauth = codes "postauth"
when_name Trace = codes "trace"

-- a registration that doesn't serve the paths below its URL has an option in front
abbrev pub registering : Bool → Words → Words
registering true words = codes "ns_register_proc" ∷ words
registering false words = codes "ns_register_proc" ∷ codes "-noinherit" ∷ words

-- the words of the command that makes a definition
abbrev pub command_words : Def → Words
command_words (Proc name params body) = codes "proc" ∷ name ∷ params ∷ body ∷ []
command_words (Rename old new) = codes "rename" ∷ old ∷ new ∷ []
command_words (Route method url inherit words) = registering inherit (method ∷ url ∷ words)
command_words (Filter when method pattern words) = codes "ns_register_filter" ∷ when_name when ∷ method ∷ pattern ∷ words
command_words (Cleanup script) = codes "ns_ictl" ∷ codes "oncleanup" ∷ script ∷ []
command_words (Set name value) = codes "set" ∷ name ∷ value ∷ []

-- the line of a definition: its words quoted as a list, and a newline
abbrev pub line_of : Def → Bytes
line_of def = quoting (command_words def) ++ codes "\n"

-- one line for each definition
abbrev pub script_of : List Def → Bytes
script_of [] = []
script_of (def ∷ defs) = line_of def ++ script_of defs
