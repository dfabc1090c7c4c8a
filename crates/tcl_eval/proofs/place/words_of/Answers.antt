use Rattle.tcl_eval.proofs.Rows.{no_command, some_command}
use Rattle.tcl_eval.proofs.place.words_of.Goals as goal

pub returns-in-None : goal.returns-in-None
returns-in-None c = no_command c.args.script.now c.args.at (rw c.as_slice.ensures.value at c.in-None.ensures)

pub returns-in-Some : goal.returns-in-Some
returns-in-Some c =
    let e = rw c.as_slice.ensures.value at c.in-Some.ensures in
    rw c.as_slice-in-Some.ensures.value (some_command c.args.script.now c.args.at c.in-Some.command.now e)
