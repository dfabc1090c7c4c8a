use Rattle.std.proofs.Common.{ap, sym, ◌∙◌}
use Rattle.tcl_expr.specs.View.{tree_of}
use Rattle.tcl_expr.specs.Stack.{with_signs}
use Rattle.tcl_expr.proofs.Stacks.{with_push}
use Rattle.tcl_expr.proofs.reading.with_signs.Goals as goal

pub signs-preserved : goal.signs-preserved
signs-preserved c =
    let ops = c.pop.new.self.items in
    ap (with_signs ops) c.in_ok-expr.ensures ∙ sym (with_push ops c.in-Some.op (tree_of c.signs.expr)) ∙ ap (λ z. with_signs z (tree_of c.signs.expr)) (sym c.in-Some.ensures.items) ∙ c.signs.invariant
