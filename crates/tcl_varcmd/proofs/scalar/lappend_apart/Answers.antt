use Rattle.tcl_varcmd.proofs.Growing.{lappend_grown}
use Rattle.tcl_varcmd.proofs.scalar.lappend_apart.Goals as goal

pub returns-in-Some-clause-came : goal.returns-in-Some-clause-came
returns-in-Some-clause-came c =
    lappend_grown c.args.frames.now c.grow.new.frames c.args.name.now c.in-Some.old.now c.in_ok-more.more c.args.values.now c.grow.result
    c.in-Some.ensures.value.0 c.in-Some.ensures.value.1 c.in_ok-more.ensures.appends c.grow.ensures.came
