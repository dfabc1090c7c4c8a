use Rattle.std.proofs.Common.{drop}
use Rattle.tcl_eval.specs.State.{Next, Rest}
use Rattle.tcl_eval.specs.Eval.{write_all}
use Rattle.tcl_eval.specs.Straight.{Alike, Straightly}
use Rattle.tcl_eval.specs.Engine.{Holds}
use Rattle.tcl_eval.proofs.engine.Engine.write_all.Given as goal

abbrev pub invariant-values : goal.invariant-values
invariant-values g l = record {
  means : (go : Next g.row.H.Denot → Rest g.row.H.Denot) → Alike l.self l.fn.self (λ k. write_all (drop l.pair-index l.pair-items) (go k) k) (λ k. write_all l.pair-items (go k) k);
  straight : Straightly l.self l.fn.self;
  holds : Holds l.self l.fn.self;
}
