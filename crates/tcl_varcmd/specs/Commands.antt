-- The variable commands by their names.
use Rattle.std.specs.Prelude.{Bool, true, false, Option, Some, None, if◌then◌else◌, codes, bytes_eq}
use Rattle.txt_core.specs.Names.{Bytes, Words}
use Rattle.tcl_frame.specs.Stack.{Stack}
use Rattle.tcl_varcmd.specs.declared.command.Command.{Command}
use Rattle.tcl_varcmd.specs.declared.command.Command.TheVariants.{Set, Unset, Incr, Append, Lappend, Global, Array, Info}
use Rattle.txt_core.specs.ErrorTexts.{too_long}
use Rattle.tcl_varcmd.specs.Answers.{Came, gives, fails}
use Rattle.txt_core.specs.Limits.{is_long}
use Rattle.natives.specs.Words.{arg}
use Rattle.tcl_varcmd.specs.Scalars.{set_came, unset_came, incr_came, append_came, lappend_came, global_came}
use Rattle.tcl_varcmd.specs.Arrays.{array_came, info_came}

-- the command of this name
abbrev pub command_named : Bytes → Option Command
command_named name =
    if bytes_eq name (codes "set") then Some Set
    else if bytes_eq name (codes "unset") then Some Unset
    else if bytes_eq name (codes "incr") then Some Incr
    else if bytes_eq name (codes "append") then Some Append
    else if bytes_eq name (codes "lappend") then Some Lappend
    else if bytes_eq name (codes "global") then Some Global
    else if bytes_eq name (codes "array") then Some Array
    else if bytes_eq name (codes "info") then Some Info
    else None

-- whether words go on as this command's: of `info` only `info exists` is a variable command
abbrev pub goes_on : Option Command → Words → Bool
goes_on None words = false
goes_on (Some Set) words = true
goes_on (Some Unset) words = true
goes_on (Some Incr) words = true
goes_on (Some Append) words = true
goes_on (Some Lappend) words = true
goes_on (Some Global) words = true
goes_on (Some Array) words = true
goes_on (Some Info) words = bytes_eq (arg words 1) (codes "exists")

-- whether words begin with a variable command
unfoldable pub begins_var_command : Words → Bool
begins_var_command words = goes_on (command_named (arg words 0)) words

-- what each comes to
abbrev pub command_came : Stack → Option Command → Words → Came
command_came stack (Some Set) words = set_came stack words
command_came stack (Some Unset) words = unset_came stack words
command_came stack (Some Incr) words = incr_came stack words
command_came stack (Some Append) words = append_came stack words
command_came stack (Some Lappend) words = lappend_came stack words
command_came stack (Some Global) words = global_came stack words
command_came stack (Some Array) words = array_came stack words
command_came stack (Some Info) words = info_came stack words
command_came stack None words = fails too_long stack

-- a result or an error's text over the limit is an error of its own
abbrev pub bounded : Came → Came
bounded (gives text stack) = if is_long text then fails too_long stack else gives text stack
bounded (fails text stack) = if is_long text then fails too_long stack else fails text stack

-- what words that begin with a variable command come to
abbrev pub var_came : Stack → Words → Came
var_came stack words = bounded (command_came stack (command_named (arg words 0)) words)
