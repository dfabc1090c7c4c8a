use Rattle.std.proofs.Common.{drop}
use Rattle.natives.specs.Names.{names_of}
use Rattle.tcl_eval.specs.Eval.{nested}
use Rattle.tcl_eval.specs.Loops.{walk_on}
use Rattle.tcl_eval.specs.Straight.{Alike, Straightly}
use Rattle.tcl_eval.specs.Engine.{Holds}
use Rattle.tcl_eval.proofs.engine.Engine.walk_straight.Given as goal

abbrev pub invariant-turns : goal.invariant-turns
invariant-turns g l =
    let inner = nested (names_of l.natives) g.H.Host.table l.levels in
    record {
      means : Alike l.self l.fn.self (walk_on inner l.walk.names l.walk.body l.left (drop l.at l.walk.values)) (walk_on inner l.walk.names l.walk.body l.fn.left (drop l.fn.at l.walk.values));
      straight : Straightly l.self l.fn.self;
      holds : Holds l.self l.fn.self;
    }

abbrev pub decreases-turns : goal.decreases-turns
decreases-turns g l = l.left
