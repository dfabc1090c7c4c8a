-- Which commands leave the variables as they were where their answers are over the limit.
use Rattle.std.specs.Prelude.{◌≡◌, Bool, true, false}
use Rattle.txt_core.specs.Limits.{is_long}
use Rattle.tcl_frame.specs.Stack.{Stack}
use Rattle.tcl_varcmd.specs.declared.command.Command.{Command}
use Rattle.tcl_varcmd.specs.declared.command.Command.TheVariants.{Set, Unset, Incr, Append, Lappend, Global, Array, Info}
use Rattle.tcl_varcmd.specs.Answers.{Came, gives, fails}

-- whether a command is one on a scalar or an element, or `info exists`: each leaves the variables as they were where its answer is
-- over the limit
abbrev pub is_on_one : Command → Bool
is_on_one Set = true
is_on_one Unset = false
is_on_one Incr = true
is_on_one Append = true
is_on_one Lappend = true
is_on_one Global = false
is_on_one Array = false
is_on_one Info = true

-- the frames are as they were where it fails, and where its result is over the limit
abbrev pub LongKeeps : Stack → Came → Type 0
LongKeeps stack (gives text after) = is_long text ≡ true → after ≡ stack
LongKeeps stack (fails text after) = after ≡ stack
