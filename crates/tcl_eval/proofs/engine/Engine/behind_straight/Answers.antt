use Rattle.std.proofs.Common.{◌∙◌}
use Rattle.natives.specs.Names.{names_of}
use Rattle.tcl_eval.specs.Eval.{nested}
use Rattle.tcl_eval.specs.Loops.{between}
use Rattle.tcl_eval.specs.Engine.{state_of}
use Rattle.tcl_eval.proofs.Turns.{loop_on}
use Rattle.tcl_eval.proofs.engine.Engine.behind_straight.Goals as goal

pub returns-in_ok-turn-in-On-clause-means : goal.returns-in_ok-turn-in-On-clause-means
returns-in_ok-turn-in-On-clause-means g c = λ go k gv.
    let e = c.args.self.now in
    let inner = nested (names_of c.args.natives.now) g.H.Host.table c.args.levels in
    c.in_ok-turn-in-On.ensures.means go k gv
    ∙ loop_on c.args.value.code c.args.value.result (between inner c.args.turning.now.next go k) k (state_of e) e.budget gv c.in-On.ensures
