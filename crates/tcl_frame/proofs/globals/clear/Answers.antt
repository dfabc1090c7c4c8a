use Rattle.std.proofs.Common.{ap, ◌∙◌}
use Rattle.tcl_frame.specs.Globals.{together}
use Rattle.tcl_frame.proofs.Bases.{again_values, again_together}
use Rattle.tcl_frame.proofs.globals.clear.Goals as goal

pub returns-clause-table : goal.returns-clause-table
returns-clause-table c =
    ap (together c.stand_again.new.self) c.clear.ensures ∙ again_together c.args.base.now c.stand_again.new.self c.stand_again.ensures

pub returns-clause-values : goal.returns-clause-values
returns-clause-values c = again_values c.args.base.now c.stand_again.new.self c.stand_again.ensures
