use Rattle.std.proofs.Common.{drop}
use Rattle.tcl_eval.specs.State.{Next, Rest}
use Rattle.tcl_eval.specs.Eval.{write_all}
use Rattle.tcl_eval.specs.Loops.{assigned}
use Rattle.tcl_eval.specs.Straight.{Alike, Straightly}
use Rattle.tcl_eval.specs.Engine.{Holds}
use Rattle.tcl_eval.proofs.engine.Engine.write_assigned.Given as goal

abbrev pub invariant-names : goal.invariant-names
invariant-names g l = record {
  means : (go : Next g.row.H.Denot → Rest g.row.H.Denot) → Alike l.self l.fn.self (λ k. write_all (assigned (drop l.name-index l.names) l.left) (go k) k) (λ k. write_all (assigned l.names l.fn.values) (go k) k);
  straight : Straightly l.self l.fn.self;
  holds : Holds l.self l.fn.self;
}
