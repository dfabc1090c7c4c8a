use Rattle.std.proofs.Common.{◌≡◌, ◌∷◌, ap, ◌∙◌}
use Rattle.tcl_expr.specs.Tokens.{loosest}
use Rattle.tcl_expr.specs.Grammar.{LevelAt, SignedAt, InParens}
use Rattle.tcl_expr.specs.View.{tree_of}
use Rattle.tcl_expr.specs.Stack.{parts, for_last, part_of}
use Rattle.tcl_expr.proofs.Pending.{parts_push}
use Rattle.tcl_expr.proofs.Choices.{settles}
use Rattle.tcl_expr.proofs.reading.settle.Goals as goal

pub asked-preserved : goal.asked-preserved
asked-preserved c = λ room n t o h.
    let qs = parts c.pop.new.self.items in
    let e : parts c.asked.asked.items ≡ for_last (tree_of c.in-Else.test) (tree_of c.in-Else.middle) ∷ qs =
    parts_push c.pop.new.self.items c.asked.asked.items c.in-Some.last c.in-Some.ensures.items ∙ ap (λ p. part_of p ∷ qs) c.in-Else.is in
    c.asked.invariant room n t o
    (settles (LevelAt (SignedAt (InParens room)) loosest) (parts c.asked.asked.items) qs (tree_of c.in-Else.test) (tree_of c.in-Else.middle) (tree_of c.asked.tree) (tree_of c.in_ok-tree-in-Else.tree) n t o e c.in_ok-tree-in-Else.ensures h)
