use Rattle.tcl_eval.proofs.Looping.{no_truth}
use Rattle.tcl_eval.proofs.engine.Engine.tested.Goals as goal

pub returns-in-None-clause-means : goal.returns-in-None-clause-means
returns-in-None-clause-means g c = λ inner text first second k s b gv.
    no_truth first second k c.args.value c.in_ok-ended-in-None.ended s b gv c.if-value-ne-OK.false c.in-None.ensures c.in_ok-ended-in-None.ensures
