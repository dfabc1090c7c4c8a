use Rattle.tcl_expr.specs.Grammar.{SignedAt, InParens}
use Rattle.tcl_expr.specs.View.{tree_of}
use Rattle.tcl_expr.specs.Stack.{frame_of, stack}
use Rattle.tcl_expr.proofs.Stacks.{pops, stack_tail}
use Rattle.tcl_expr.proofs.reading.reduced.Goals as goal

pub pending-preserved : goal.pending-preserved
pending-preserved c =
    let old = stack c.pending.pending.items in
    let new = stack c.pop_tight.new.pending.items in
    let p = frame_of c.in-Some.last in
    record {
      means = λ h room n t o a u. c.pending.invariant.means h room n t o a
          (pops (SignedAt (InParens room)) old new p (tree_of c.pending.tree) (tree_of c.in_ok-tree.tree) n c.args.most t o c.in-Some.ensures.0 c.in_ok-tree.ensures (c.pending.invariant.valid h) c.in-Some.ensures.1 a u);
      valid = λ h. stack_tail old new p c.in-Some.ensures.0 (c.pending.invariant.valid h);
    }
