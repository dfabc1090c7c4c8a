use Rattle.natives.specs.Names.{names_of}
use Rattle.tcl_eval.specs.Eval.{nested}
use Rattle.tcl_eval.specs.Loops.{turns}
use Rattle.tcl_eval.specs.Straight.{Alike, Straightly}
use Rattle.tcl_eval.specs.Engine.{Holds}
use Rattle.tcl_eval.proofs.engine.Engine.turns_straight.Given as goal

abbrev pub invariant-turns : goal.invariant-turns
invariant-turns g l =
    let inner = nested (names_of l.natives) g.H.Host.table l.levels in
    record {
      means : Alike l.self l.fn.self (turns inner l.turning l.left) (turns inner l.turning l.fn.left);
      straight : Straightly l.self l.fn.self;
      holds : Holds l.self l.fn.self;
    }

abbrev pub decreases-turns : goal.decreases-turns
decreases-turns g l = l.left
