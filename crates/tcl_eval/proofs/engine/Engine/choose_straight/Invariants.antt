use Rattle.std.proofs.Common.{◌-◌, ℕ, drop, length}
use Rattle.txt_core.specs.Names.{Names}
use Rattle.tcl_eval.specs.Eval.{nested}
use Rattle.tcl_eval.specs.Branches.{choose}
use Rattle.tcl_eval.specs.Choices.{PaidAlone}
use Rattle.tcl_eval.specs.Straight.{Alike, Straightly}
use Rattle.tcl_eval.specs.Engine.{Holds}
use Rattle.tcl_eval.proofs.engine.Engine.choose_straight.Given as goal

abbrev pub invariant-conditions : goal.invariant-conditions
invariant-conditions g l =
    let t = g.H.Host.table in
    let all = l.branches in
    record {
      means : (names : Names) (levels : ℕ) → Alike l.self l.fn.self
          (choose (nested names t levels) (drop l.at all.clauses) all.last)
          (choose (nested names t levels) (drop l.fn.at all.clauses) all.last);
      rest : PaidAlone l.self l.fn.self;
      straight : Straightly l.self l.fn.self;
      holds : Holds l.self l.fn.self;
    }

abbrev pub decreases-conditions : goal.decreases-conditions
decreases-conditions g l = length l.branches.clauses - l.at
