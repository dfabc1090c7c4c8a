-- The commands that definitions make, from the built-in names on, and the global variables.
use Rattle.std.specs.Prelude.{◌≡◌, ◌⊎◌, ◌++◌, ℕ, List, [], ◌∷◌, codes, Bool, true, false, not, if◌then◌else◌, None, IsSome, fold, sum_by}
use Rattle.std.specs.FinMap as map
use Rattle.txt_core.specs.Names.{Names}
use Rattle.tcl_frame.specs.Names.{named, is_element}
use Rattle.tcl_frame.specs.Variables.{Scalars}
use Rattle.cmd_table.specs.declared.command.Cmd.TheVariants as commands
use Rattle.cmd_table.specs.declared.definition.Def.{Def}
use Rattle.cmd_table.specs.declared.definition.Def.TheVariants.{Proc, Rename, Route, Filter, Cleanup, Set}
use Rattle.cmd_table.specs.Table.{Table, command_of, with_command}
use Rattle.cmd_table.specs.declared.renaming.Renamed.{Renamed}
use Rattle.cmd_table.specs.declared.renaming.Renamed.TheVariants.{Done, NoOld, NewExists}
use Rattle.cmd_table.specs.Renaming.{rename_answer, renamed, rename_writes}

-- the names of the commands of the language that are no natives
unfoldable pub language_names : Names
language_names =
    codes "set" ∷ codes "unset" ∷ codes "incr" ∷ codes "append" ∷ codes "lappend" ∷ codes "global" ∷ codes "array" ∷ codes "info"
    ∷ codes "proc" ∷ codes "rename" ∷ codes "if" ∷ codes "while" ∷ codes "for" ∷ codes "foreach" ∷ codes "switch" ∷ codes "catch"
    ∷ codes "eval" ∷ codes "expr" ∷ codes "return" ∷ codes "break" ∷ codes "continue" ∷ codes "error" ∷ []

-- The names of the commands of the server: of sets and channels, of the connection, of texts and moments, of
-- pages, of definitions, interpreters and the schedule, of shared arrays.
unfoldable pub server_names : Names
server_names =
    codes "ns_set" ∷ codes "open" ∷ codes "gets" ∷ codes "read" ∷ codes "eof" ∷ codes "close"
    ∷ codes "ns_conn" ∷ codes "ns_queryget" ∷ codes "ns_return" ∷ codes "ns_returnredirect" ∷ codes "ns_returnnotfound"
    ∷ codes "ns_urlencode" ∷ codes "ns_urldecode" ∷ codes "ns_time" ∷ codes "ns_httptime"
    ∷ codes "ns_adp_append" ∷ codes "ns_adp_puts" ∷ codes "ns_adp_include" ∷ codes "ns_adp_argc"
    ∷ codes "ns_adp_argv" ∷ codes "ns_adp_return" ∷ codes "ns_adp_break" ∷ codes "ns_adp_abort"
    ∷ codes "ns_register_proc" ∷ codes "ns_register_filter" ∷ codes "ns_ictl" ∷ codes "ns_eval"
    ∷ codes "ns_schedule_proc" ∷ codes "ns_unschedule_proc"
    ∷ codes "nsv_set" ∷ codes "nsv_get" ∷ codes "nsv_exists" ∷ codes "nsv_incr" ∷ codes "nsv_append"
    ∷ codes "nsv_lappend" ∷ codes "nsv_unset" ∷ codes "nsv_names" ∷ codes "nsv_array" ∷ []

-- the names of the built-ins that are no natives
unfoldable pub built_ins : Names
built_ins = language_names ++ server_names

-- a table in which these names have their built-ins, whatever they had before; all other names have theirs
abbrev pub with_built : Table → Names → Table
with_built table names = fold (λ table name. with_command table name (commands.Built name)) table names

-- The table of the built-in names, those of the natives behind the others: each has its built-in, and no other name has a command.
abbrev pub built : Names → Table
built natives = with_built [] (built_ins ++ natives)

-- The table after a definition: `Proc` sets a name, and `Rename` moves or removes one. A rename that
-- doesn't apply changes nothing, and no other definition changes a table.
abbrev pub defined : Table → Def → Table
defined table (Proc name params body) = with_command table name (commands.Proc params body)
defined table (Rename old new) = renamed table old new
defined table (Route method url inherit words) = table
defined table (Filter when method pattern words) = table
defined table (Cleanup script) = table
defined table (Set name value) = table

-- the commands of definitions that were made one after the other on the built-in names, those of the natives behind the others
abbrev pub Commands : Names → List Def → Table
Commands natives defs = fold defined (built natives) defs

-- The global variables after a definition: `Set` gives a name its value. One whose name has the form of
-- an array's element doesn't apply and changes nothing, and no other definition changes them.
abbrev pub with_global : Scalars → Def → Scalars
with_global globals (Set name value) = if is_element (named name) then globals else map.insert globals name value
with_global globals (Proc name params body) = globals
with_global globals (Rename old new) = globals
with_global globals (Route method url inherit words) = globals
with_global globals (Filter when method pattern words) = globals
with_global globals (Cleanup script) = globals

-- the global variables of definitions that were made one after the other, from none on
abbrev pub Globals : List Def → Scalars
Globals defs = fold with_global map.empty defs

-- Whether a definition applies to a table: a rename needs `old` to be a command, and `new` to be
-- empty or no command; a `Set` needs a name that hasn't the form of an array's element. Any other
-- definition always applies.
abbrev pub Applies : Table → Def → Type 0
Applies table (Rename old new) = IsSome (command_of table old) × ((new ≡ []) ⊎ (command_of table new ≡ None))
Applies table (Proc name params body) = Unit {0}
Applies table (Route method url inherit words) = Unit {0}
Applies table (Filter when method pattern words) = Unit {0}
Applies table (Cleanup script) = Unit {0}
Applies table (Set name value) = is_element (named name) ≡ false

-- whether a rename was made
abbrev pub is_done : Renamed → Bool
is_done Done = true
is_done NoOld = false
is_done NewExists = false

-- The same as a truth value: a rename applies where a command table makes it.
abbrev pub fits : Table → Def → Bool
fits table (Rename old new) = is_done (rename_answer table old new)
fits table (Set name value) = not (is_element (named name))
fits table (Proc name params body) = true
fits table (Route method url inherit words) = true
fits table (Filter when method pattern words) = true
fits table (Cleanup script) = true

-- the entries that a definition writes or removes where it applies
abbrev pub writes : Def → ℕ
writes (Proc name params body) = 1
writes (Rename old new) = rename_writes new
writes (Route method url inherit words) = 0
writes (Filter when method pattern words) = 0
writes (Cleanup script) = 0
writes (Set name value) = 0

-- the entries that it writes or removes, where it may not apply
abbrev pub writes_at : Table → Def → ℕ
writes_at table def = if fits table def then writes def else 0

-- the entries that definitions write or remove
abbrev pub Writes : List Def → ℕ
Writes defs = sum_by writes defs
