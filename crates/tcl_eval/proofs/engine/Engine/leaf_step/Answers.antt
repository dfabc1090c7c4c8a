use Rattle.std.proofs.Common.{◌∙◌, ℕ, List, ap, arith}
use Rattle.tcl_expr.specs.View.{tree_of}
use Rattle.tcl_host.specs.Codes as code_of
use Rattle.tcl_eval.specs.Eval.{ended, give}
use Rattle.tcl_eval.specs.Stack.{stack_next}
use Rattle.tcl_eval.specs.Engine.{state_of}
use Rattle.tcl_eval.proofs.AtOnce.{expression_gives}
use Rattle.tcl_eval.proofs.Sizes.{has_size}
use Rattle.tcl_eval.proofs.engine.Engine.leaf_step.Goals as goal

pub returns-in-Some-clause-means : goal.returns-in-Some-clause-means
returns-in-Some-clause-means g c = λ ns gv.
    let t = g.H.Host.table in
    let e = c.args.self.now in
    let top = stack_next ns t e.stack.items in
    ap (λ (v : List ℕ). give (ended code_of.ok v) top (state_of e) e.budget gv) c.in_ok-result.ensures
    ∙ expression_gives ns t c.args.levels (state_of e) e.budget gv (tree_of c.args.part.now) top (ended code_of.ok c.in-Some.text.now) c.in-Some.ensures

pub returns-in-Some-clause-weighs : goal.returns-in-Some-clause-weighs
returns-in-Some-clause-weighs g c = omega (arith, has_size (tree_of c.args.part.now))

pub returns-in_ok-step-in-Word-clause-means : goal.returns-in_ok-step-in-Word-clause-means
returns-in_ok-step-in-Word-clause-means g c = rw c.in-Word.is c.in_ok-step-in-Word.ensures.means

pub returns-in_ok-step-in-Word-clause-weighs : goal.returns-in_ok-step-in-Word-clause-weighs
returns-in_ok-step-in-Word-clause-weighs g c = rw c.in-Word.is c.in_ok-step-in-Word.ensures.weighs
