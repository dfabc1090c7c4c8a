-- How the program does its built-ins.
use Rattle.std.specs.Prelude.{List, [], ◌∷◌, ◌++◌, Option, Some, None}
use Rattle.cmd_table.specs.declared.definition.Def.{Def}
use Rattle.cmd_table.specs.declared.renaming.Renamed.{Renamed}
use Rattle.cmd_table.specs.declared.renaming.Renamed.TheVariants.{Done as Renamed_done, NoOld, NewExists}
use Rattle.tcl_eval.specs.declared.stack.Ended.{Ended}
use Rattle.tcl_eval.specs.declared.verb.Verb.{Verb}
use Rattle.tcl_eval.specs.declared.verb.Verb.TheVariants.{Proc, Return, Error, Break, Continue, Rename, Eval, Catch, Expr, If, While, For, Foreach, Switch, Info, Other}

-- a built-in of this kind may run a text, or is the host's
abbrev pub IsRunning : Verb → Type 0
IsRunning Proc = ⊥
IsRunning Return = ⊥
IsRunning Error = ⊥
IsRunning Break = ⊥
IsRunning Continue = ⊥
IsRunning Rename = ⊥
IsRunning Info = ⊥
IsRunning Eval = Unit {0}
IsRunning Catch = Unit {0}
IsRunning Expr = Unit {0}
IsRunning If = Unit {0}
IsRunning While = Unit {0}
IsRunning For = Unit {0}
IsRunning Foreach = Unit {0}
IsRunning Switch = Unit {0}
IsRunning Other = Unit {0}

-- there is a value, of which this holds, or there is none, and this holds
abbrev pub ValueOf : Option Ended → (Ended → Type 0) → Type 0 → Type 0
ValueOf None some none = none
ValueOf (Some value) some none = some value

-- the list of definitions made, where a rename came to this
abbrev pub made_by : Renamed → List Def → Def → List Def
made_by Renamed_done made def = made ++ def ∷ []
made_by NoOld made def = made
made_by NewExists made def = made
