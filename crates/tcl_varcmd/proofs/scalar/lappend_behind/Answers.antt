use Rattle.tcl_varcmd.proofs.InPlace.{lappending_behind}
use Rattle.tcl_varcmd.proofs.scalar.lappend_behind.Goals as goal

pub returns-clause-came : goal.returns-clause-came
returns-clause-came c =
    lappending_behind c.args.place.now c.in_ok-more.more c.args.values.now c.grow_at.result c.in_ok-more.ensures.appends c.grow_at.ensures.came
