use Rattle.std.proofs.Common.{refl, ◌≡◌, ◌∷◌, sym, subst, arith, [], ◌-◌}
use Rattle.std.proofs.lemmas.Result.{err_from_is_err_and}
use Rattle.tcl_expr.specs.Outcome.{done, bad, signed}
use Rattle.tcl_expr.specs.Tokens.{loosest, stuck}
use Rattle.tcl_expr.specs.Grammar.{ExpressionBy, InParens, SignedAt, no_sign, one_sign, LevelAt, bad_test, no_choice}
use Rattle.tcl_expr.specs.View.{tree_of}
use Rattle.tcl_expr.specs.Answers.{ClosedGives, OperandGives, BareGives}
use Rattle.tcl_expr.specs.Stack.{stack, parts, IsStack, FromOperand}
use Rattle.tcl_expr.specs.declared.reading.Asked.TheVariants as waiting
use Rattle.tcl_expr.proofs.Answering.{stopped_map, gives_map}
use Rattle.tcl_expr.proofs.Closing.{no_room, with_room, parens_closed, parens_stuck, parens_open, bare_operand, ready, pushes, ends}
use Rattle.tcl_expr.proofs.Choices.{waits_bad, asked, lasts, unlasted}
use Rattle.tcl_expr.proofs.Pending.{stack_push, parts_push}
use Rattle.tcl_expr.proofs.Stacks.{from_first, operand_bad, signs_push}
use Rattle.tcl_expr.proofs.reading.+reader.Goals as goal

pub in_parentheses-returns-then-room-eq0-clause-same : goal.in_parentheses-returns-then-room-eq0-clause-same
in_parentheses-returns-then-room-eq0-clause-same t c = no_room c.args.room c.args.left c.args.bytes.now c.if-room-eq0.true

pub in_parentheses-returns-in_err-expr-clause-same : goal.in_parentheses-returns-in_err-expr-clause-same
in_parentheses-returns-in_err-expr-clause-same t c =
    let p = err_from_is_err_and c.from_residual.result c.from_residual.ensures.1 in
    rw (p.1, p.2) (stopped_map (ExpressionBy (InParens (c.args.room - 1)) c.args.left c.skip.result.now) (ClosedGives c.args.room c.args.left c.args.bytes.now)
    (λ k h. with_room c.args.room c.args.left c.args.bytes.now c.skip.result.now (bad k) c.if-room-eq0.false c.skip.ensures.same h) c.in_err-expr.field-0.0 c.in_err-expr.ensures.same)

pub choice-returns-in_err-tree-clause-same : goal.choice-returns-in_err-tree-clause-same
choice-returns-in_err-tree-clause-same t c =
    let p = err_from_is_err_and c.from_residual.result c.from_residual.ensures.1 in
    let T = LevelAt (SignedAt (InParens c.args.room)) loosest in
    rw (p.1, p.2) (stopped_map (T c.parts.left c.parts.rest.now) (ExpressionBy (InParens c.args.room) c.args.left c.args.bytes.now)
    (λ k h. c.parts.invariant.same (bad k) (bad k) (bad_test h) (waits_bad T (parts c.parts.asked.items) k)) c.in_err-tree.field-0.0 c.in_err-tree.ensures.same)

pub joined-returns-in_err-tree-clause-same : goal.joined-returns-in_err-tree-clause-same
joined-returns-in_err-tree-clause-same t c =
    let p = err_from_is_err_and c.from_residual.result c.from_residual.ensures.1 in
    let S = SignedAt (InParens c.args.room) in
    rw (p.1, p.2) (stopped_map (S c.args.left c.args.bytes.now) (LevelAt S loosest c.args.left c.args.bytes.now)
    (λ k h. from_first S c.args.left c.args.bytes.now (bad k) (bad k) h (operand_bad S [] k tt)) c.in_err-tree.field-0.0 c.in_err-tree.ensures.same)

pub choice-parts-preserved-in-Some : goal.choice-parts-preserved-in-Some
choice-parts-preserved-in-Some t c =
    let T = LevelAt (SignedAt (InParens c.args.room)) loosest in
    record {
      same = λ v o k l. asked T (parts c.parts.asked.items) (parts c.push.new.self.items) (tree_of c.in_ok-tree.tree) c.parts.left c.in_ok-tree.after c.in-Some.middle_left c.parts.rest.now c.in_ok-tree.tail.now c.in-Some.middle.now v o
          (ExpressionBy (InParens c.args.room) c.args.left c.args.bytes.now) (λ w a b. c.parts.invariant.same w o a b) c.in_ok-tree.ensures.same (sym c.in-Some.ensures.same)
          (parts_push c.parts.asked.items c.push.new.self.items (waiting.Then c.in_ok-tree.tree) c.in_ok-push-in-Some.ensures.items) k l;
      goes = omega (arith, c.in-Some.ensures.shorter, c.in_ok-tree.ensures.goes, c.parts.invariant.goes);
    }

pub choice-returns-in-Whole-clause-same : goal.choice-returns-in-Whole-clause-same
choice-returns-in-Whole-clause-same t c =
    let m = c.in_ok-tree.after in
    let u = c.in_ok-tree.tail.now in
    let z = tree_of c.in-Whole.tree in
    let settled = rw c.in-Whole.is at c.in_ok-tree-in-None.ensures in
    c.parts.invariant.same (done (tree_of c.in_ok-tree.tree) m u) (done z m u) (no_choice (tree_of c.in_ok-tree.tree) c.in_ok-tree.ensures.same (sym c.in-None.ensures.same)) (settled c.args.room m u (done z m u) refl)

pub choice-returns-in-None-next_colon-clause-same : goal.choice-returns-in-None-next_colon-clause-same
choice-returns-in-None-next_colon-clause-same t c =
    let T = LevelAt (SignedAt (InParens c.args.room)) loosest in
    let m = c.in_ok-tree.after in
    let u = c.in_ok-tree.tail.now in
    let settled = rw c.in-Middle.is at c.in_ok-tree-in-None.ensures in
    rw c.stuck.ensures (c.parts.invariant.same (done (tree_of c.in_ok-tree.tree) m u) (bad (stuck m u)) (no_choice (tree_of c.in_ok-tree.tree) c.in_ok-tree.ensures.same (sym c.in-None.ensures.same))
    (settled c.args.room m u (bad (stuck m u)) (unlasted T (parts c.settle.new.asked.items) (tree_of c.in-Middle.test) (tree_of c.in-Middle.tree) m u (sym c.in-None-next_colon.ensures.same))))

pub choice-parts-preserved : goal.choice-parts-preserved
choice-parts-preserved t c =
    let T = LevelAt (SignedAt (InParens c.args.room)) loosest in
    let m = c.in_ok-tree.after in
    let u = c.in_ok-tree.tail.now in
    let settled = rw c.in-Middle.is at c.in_ok-tree-in-None.ensures in
    record {
      same = λ v o k l. c.parts.invariant.same (done (tree_of c.in_ok-tree.tree) m u) o (no_choice (tree_of c.in_ok-tree.tree) c.in_ok-tree.ensures.same (sym c.in-None.ensures.same))
          (settled c.args.room m u o (lasts T (parts c.settle.new.asked.items) (parts c.push-in-Some-next_colon.new.self.items) (tree_of c.in-Middle.test) (tree_of c.in-Middle.tree) m u c.in-Some-next_colon.last.now v o (sym c.in-Some-next_colon.ensures.same)
          (parts_push c.settle.new.asked.items c.push-in-Some-next_colon.new.self.items (waiting.Else c.in-Middle.test c.in-Middle.tree) c.in_ok-push-in-Some-next_colon.ensures.items) k l));
      goes = omega (arith, c.in-Some-next_colon.ensures.shorter, c.in_ok-tree.ensures.goes, c.parts.invariant.goes);
    }

pub in_parentheses-returns-then-b-ne41-clause-same : goal.in_parentheses-returns-then-b-ne41-clause-same
in_parentheses-returns-then-b-ne41-clause-same t c =
    rw c.stuck.ensures (parens_stuck c.args.room c.args.left c.in_ok-expr.left c.in-Some.b.now c.args.bytes.now c.skip.result.now c.in_ok-expr.rest.now c.in-Some.behind.now (tree_of c.in_ok-expr.expr)
    c.if-room-eq0.false c.skip.ensures.same c.in_ok-expr.ensures.same c.in-Some.ensures.cases.0 c.if-b-ne41.true)

pub in_parentheses-returns-in-None-clause-same : goal.in_parentheses-returns-in-None-clause-same
in_parentheses-returns-in-None-clause-same t c =
    parens_open c.args.room c.args.left c.in_ok-expr.left c.args.bytes.now c.skip.result.now c.in_ok-expr.rest.now (tree_of c.in_ok-expr.expr) c.if-room-eq0.false c.skip.ensures.same c.in_ok-expr.ensures.same c.in-None.ensures.cases

pub in_parentheses-returns-else-b-ne41-clause-same : goal.in_parentheses-returns-else-b-ne41-clause-same
in_parentheses-returns-else-b-ne41-clause-same t c =
    rw c.skip-in-Some.ensures.same (parens_closed c.args.room c.args.left c.in_ok-expr.left c.in-Some.b.now c.args.bytes.now c.skip.result.now c.in_ok-expr.rest.now c.in-Some.behind.now (tree_of c.in_ok-expr.expr)
    c.if-room-eq0.false c.skip.ensures.same c.in_ok-expr.ensures.same c.in-Some.ensures.cases.0 c.if-b-ne41.false)

pub joined-operators-init : goal.joined-operators-init
joined-operators-init t c =
    let S = SignedAt (InParens c.args.room) in
    let v = done (tree_of c.in_ok-tree.tree) c.in_ok-tree.left c.in_ok-tree.rest.now in
    rw c.new-pending.ensures.items (record {
      same = λ o u. from_first S c.args.left c.args.bytes.now v o c.in_ok-tree.ensures.same u;
      valid = tt;
      goes = c.in_ok-tree.ensures.goes;
    })

pub joined-returns-in-None-clause-same : goal.joined-returns-in-None-clause-same
joined-returns-in-None-clause-same t c =
    let S = SignedAt (InParens c.args.room) in
    let n = c.operators.left in
    let u = c.operators.rest.now in
    let reduces = c.in_ok-tree-in-None.ensures.means c.operators.invariant.valid in
    c.operators.invariant.same (done (tree_of c.in_ok-tree-in-None.tree) n u)
    (ends S (stack c.operators.pending.items) (stack c.reduced.new.pending.items) (tree_of c.operators.tree) (tree_of c.in_ok-tree-in-None.tree) n u
    (λ a h. reduces c.args.room n u (done (tree_of c.in_ok-tree-in-None.tree) n u) a h) c.in_ok-tree-in-None.ensures.loose (c.in_ok-tree-in-None.ensures.valid c.operators.invariant.valid) (sym c.in-None.ensures.same))

pub joined-returns-in_err-tree-in-Some-clause-same : goal.joined-returns-in_err-tree-in-Some-clause-same
joined-returns-in_err-tree-in-Some-clause-same t c =
    let p = err_from_is_err_and c.from_residual-in_err-tree-in-Some.result c.from_residual-in_err-tree-in-Some.ensures.1 in
    let S = SignedAt (InParens c.args.room) in
    let n = c.operators.left in
    let u = c.operators.rest.now in
    let old = stack c.operators.pending.items in
    let new = stack c.reduced-in-Some.new.pending.items in
    let y = tree_of c.in_ok-first-in-Some.first in
    let reduces = c.in_ok-first-in-Some.ensures.means c.operators.invariant.valid in
    let valid = c.in_ok-first-in-Some.ensures.valid c.operators.invariant.valid in
    let loose = c.in_ok-first-in-Some.ensures.loose in
    rw (p.1, p.2) (stopped_map (S c.in-Some.after c.in-Some.tail.now) (LevelAt S loosest c.args.left c.args.bytes.now)
    (λ k h. c.operators.invariant.same (bad k) (pushes S old new (tree_of c.operators.tree) y c.in-Some.op c.level.result n c.in-Some.after u c.in-Some.tail.now (bad k) (bad k)
    (λ a w. reduces c.args.room n u (bad k) a w) c.in-Some.ensures.binds c.level.ensures loose valid (sym c.in-Some.ensures.same) h
    (operand_bad S ((c.in-Some.op, y) ∷ new) k (ready new y c.in-Some.op c.level.result c.in-Some.ensures.binds c.level.ensures loose valid)))) c.in_err-tree-in-Some.field-0.0 c.in_err-tree-in-Some.ensures.same)

pub joined-operators-preserved : goal.joined-operators-preserved
joined-operators-preserved t c =
    let S = SignedAt (InParens c.args.room) in
    let n = c.operators.left in
    let u = c.operators.rest.now in
    let old = stack c.operators.pending.items in
    let new = stack c.reduced-in-Some.new.pending.items in
    let y = tree_of c.in_ok-first-in-Some.first in
    let reduces = c.in_ok-first-in-Some.ensures.means c.operators.invariant.valid in
    let valid = c.in_ok-first-in-Some.ensures.valid c.operators.invariant.valid in
    let loose = c.in_ok-first-in-Some.ensures.loose in
    let grown : stack c.push.new.self.items ≡ (c.in-Some.op, y) ∷ new = stack_push c.reduced-in-Some.new.pending.items c.push.new.self.items (record { op = c.in-Some.op; tree = c.in_ok-first-in-Some.first }) c.in_ok-push-in-Some.ensures.items in
    let v = done (tree_of c.in_ok-tree-in-Some.field-0-0) c.in_ok-tree-in-Some.field-0-1 c.in_ok-tree-in-Some.field-0-2.now in
    record {
      same = λ o w. c.operators.invariant.same o (pushes S old new (tree_of c.operators.tree) y c.in-Some.op c.level.result n c.in-Some.after u c.in-Some.tail.now v o
          (λ a z. reduces c.args.room n u o a z) c.in-Some.ensures.binds c.level.ensures loose valid (sym c.in-Some.ensures.same) c.in_ok-tree-in-Some.ensures.same (subst (λ z. FromOperand S z v o) grown w));
      valid = subst IsStack (sym grown) (ready new y c.in-Some.op c.level.result c.in-Some.ensures.binds c.level.ensures loose valid);
      goes = omega (arith, c.in-Some.ensures.shorter, c.in_ok-tree-in-Some.ensures.goes, c.operators.invariant.goes);
    }

pub operand-returns-in-None-clause-same : goal.operand-returns-in-None-clause-same
operand-returns-in-None-clause-same t c =
    gives_map _ _ _ (BareGives c.args.room c.args.left c.args.bytes.now) (OperandGives c.args.room c.args.left c.args.bytes.now)
    (λ o h. bare_operand c.args.room c.args.left c.args.bytes.now o (rw c.in-None.is at c.in_ok-found.ensures.same) h) c.bare.result c.bare.ensures.same

pub signed-returns-in_err-expr-in-None-clause-same : goal.signed-returns-in_err-expr-in-None-clause-same
signed-returns-in_err-expr-in-None-clause-same t c =
    let p = err_from_is_err_and c.from_residual.result c.from_residual.ensures.1 in
    rw (p.1, p.2) (stopped_map (OperandGives c.args.room c.signs.left c.signs.rest.now) (SignedAt (InParens c.args.room) c.args.left c.args.bytes.now)
    (λ k h. c.signs.invariant.same (bad k) (no_sign (sym c.in-None.ensures.same) h)) c.in_err-expr-in-None.field-0.0 c.in_err-expr-in-None.ensures.same)

pub signed-returns-in-None-clause-same : goal.signed-returns-in-None-clause-same
signed-returns-in-None-clause-same t c =
    rw c.in_ok-expr-in-None-2.ensures (c.signs.invariant.same (done (tree_of c.in_ok-expr-in-None.expr) c.in_ok-expr-in-None.left c.in_ok-expr-in-None.rest.now) (no_sign (sym c.in-None.ensures.same) c.in_ok-expr-in-None.ensures.same))

pub signed-signs-preserved : goal.signed-signs-preserved
signed-signs-preserved t c = record {
  same = λ o h. subst (λ z. SignedAt (InParens c.args.room) c.args.left c.args.bytes.now z) (sym (signs_push c.signs.signs.items c.push.new.self.items c.in-Some.op o c.in_ok-push-in-Some.ensures.items))
      (c.signs.invariant.same (signed c.in-Some.op o) (one_sign (sym c.in-Some.ensures.same) h));
  goes = omega (arith, c.in-Some.ensures.shorter, c.signs.invariant.goes);
}
