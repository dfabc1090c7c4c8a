use Rattle.tcl_varcmd.proofs.Growing.{append_grown}
use Rattle.tcl_varcmd.proofs.scalar.append_values.Goals as goal

pub returns-clause-came : goal.returns-clause-came
returns-clause-came c =
    append_grown c.args.frames.now c.grow.new.frames c.args.name.now c.in_ok-more.more c.args.values.now c.grow.result c.in_ok-more.ensures c.grow.ensures.came
