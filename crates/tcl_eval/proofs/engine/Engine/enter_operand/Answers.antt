use Rattle.std.proofs.Common.{◌∙◌, ap, sym, arith}
use Rattle.tcl_parse.specs.Tree.{Parts, parts}
use Rattle.tcl_parse.specs.View.{script_of}
use Rattle.tcl_parse.specs.declared.tree.Script.{Script}
use Rattle.tcl_expr.specs.View.{only_word}
use Rattle.tcl_eval.specs.Eval.{nested}
use Rattle.tcl_eval.specs.Places.{parts_size, tree_of}
use Rattle.tcl_eval.specs.Stack.{stack_next}
use Rattle.tcl_eval.specs.Engine.{state_of}
use Rattle.tcl_eval.proofs.Expressions.{lone_step, operand_step}
use Rattle.tcl_eval.proofs.engine.Engine.enter_operand.Goals as goal

pub returns-in-Some-clause-means : goal.returns-in-Some-clause-means
returns-in-Some-clause-means g c = λ ns gv.
    let t = g.H.Host.table in
    let e = c.args.self.now in
    let found = rw c.in-Some.is at c.in_ok-shared_bracket.ensures in
    let is = sym c.only_pieces.ensures ∙ found in
    lone_step ns t c.args.levels (tree_of c.in-Some.script.value) _ (stack_next ns t e.stack.items) (state_of e) e.budget gv (rw c.deref.ensures at is)

pub returns-in-Some-clause-weighs : goal.returns-in-Some-clause-weighs
returns-in-Some-clause-weighs g c =
    let found = rw c.in-Some.is at c.in_ok-shared_bracket.ensures in
    let is = sym c.only_pieces.ensures ∙ found in
    omega (arith, ap (λ (p : Parts). parts_size p) (rw c.deref.ensures at is))

pub returns-in_ok-word-in-None-clause-means : goal.returns-in_ok-word-in-None-clause-means
returns-in_ok-word-in-None-clause-means g c = λ ns gv.
    let t = g.H.Host.table in
    let e = c.args.self.now in
    let is = c.first_piece.ensures ∙ ap (λ (s : Script). parts (only_word (script_of s))) c.in_ok-word-in-None.ensures.cases in
    operand_step (nested ns t c.args.levels) _ _ _ (stack_next ns t e.stack.items) (state_of e) e.budget gv is c.empty.ensures

pub returns-in_ok-word-in-None-clause-weighs : goal.returns-in_ok-word-in-None-clause-weighs
returns-in_ok-word-in-None-clause-weighs g c =
    let is = c.first_piece.ensures ∙ ap (λ (s : Script). parts (only_word (script_of s))) c.in_ok-word-in-None.ensures.cases in
    omega (arith, ap (λ (p : Parts). parts_size p) is)
