use Rattle.std.proofs.Common.{length, ◌-◌}
use Rattle.std.proofs.lemmas.List.{take_rest}
use Rattle.txt_core.proofs.Starting.{too_short, last_is}
use Rattle.txt_core.proofs.pattern.run_behind_star.Goals as goal

pub returns-in-More : goal.returns-in-More
returns-in-More c = too_short c.args.pattern.now c.args.text.now c.in-More.ensures

pub returns-in-One : goal.returns-in-One
returns-in-One c = last_is c.args.pattern.now c.args.text.now c.in-One.count c.run.result c.in-One.ensures.1 c.in-One.ensures.0 (rw (take_rest c.args.text.now (length c.args.text.now - c.in-One.count)) at c.run.ensures)
