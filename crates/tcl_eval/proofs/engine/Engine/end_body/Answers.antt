use Rattle.std.proofs.Common.{◌∙◌, ap}
use Rattle.tcl_eval.specs.Results.{returned}
use Rattle.tcl_eval.specs.Eval.{give}
use Rattle.tcl_eval.specs.Engine.{state_of}
use Rattle.tcl_eval.specs.declared.engine.Engine.{Engine}
use Rattle.tcl_eval.specs.declared.stack.Ended.{Ended}
use Rattle.tcl_eval.proofs.engine.Engine.end_body.Goals as goal

pub returns-clause-means : goal.returns-clause-means
returns-clause-means g c = λ k gv.
    let left = c.drop_frame.new.self in
    let value = c.args.value in
    ap (λ (v : Ended). give v k (state_of left) left.budget gv) c.in_ok-after.ensures
    ∙ ap (λ (x : Engine g.row.H.Denot). give (returned value.code value.result) k (state_of x) x.budget gv) c.drop_frame.ensures
