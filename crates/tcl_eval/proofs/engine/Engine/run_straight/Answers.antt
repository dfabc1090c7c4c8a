use Rattle.std.proofs.Common.{◌∙◌}
use Rattle.natives.specs.Names.{names_of}
use Rattle.tcl_eval.specs.Eval.{nested}
use Rattle.tcl_eval.specs.Places.{tree_of}
use Rattle.tcl_eval.specs.Engine.{state_of}
use Rattle.tcl_eval.proofs.Commands.{any_value}
use Rattle.tcl_eval.proofs.engine.Engine.run_straight.Goals as goal

pub returns-clause-means : goal.returns-clause-means
returns-clause-means g c = λ k gv.
    let ns = names_of c.args.natives.now in
    let t = g.H.Host.table in
    let e = c.args.self.now in
    c.in_ok-stand.ensures.means k gv
    ∙ any_value ns t (nested ns t c.args.levels) (tree_of c.args.script.now) c.args.from c.args.value k (state_of e) e.budget gv c.if-value-ne-OK.false c.if-not-has_command.ensures.there
