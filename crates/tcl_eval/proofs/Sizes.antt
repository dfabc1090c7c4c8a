-- How many steps expressions take.
use Rattle.std.proofs.Common.{◌≤◌, arith}
use Rattle.tcl_expr.specs.Trees.{Tree, value, word, unary, binary, choice}
use Rattle.tcl_eval.specs.Places.{tree_size}

-- an expression takes at least one
pub has_size : (x : Tree) → 1 ≤ tree_size x
has_size (value bytes) = omega arith
has_size (word pieces) = omega arith
has_size (unary op x) = omega arith
has_size (binary op x y) = omega arith
has_size (choice x y z) = omega arith
