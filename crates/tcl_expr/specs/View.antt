-- What an expression of the program is: what is shared is what it is where it stands.
use Rattle.std.specs.Prelude.{[], ◌∷◌}
use Rattle.tcl_parse.specs.Tree.{Word as Pieces, Script}
use Rattle.tcl_parse.specs.View.{script_of}
use Rattle.tcl_expr.specs.declared.expr.Expr.{Expr}
use Rattle.tcl_expr.specs.declared.expr.Expr.TheVariants.{Value, Word, Unary', Binary', Choice'}
use Rattle.tcl_expr.specs.Trees.{Tree, value, word, unary, binary, choice}

-- the word that is all of a script: the first one, where there is one
abbrev pub only_word : Script → Pieces
only_word [] = []
only_word ([] ∷ cs) = []
only_word ((w ∷ ws) ∷ cs) = w

abbrev pub tree_of : Expr → Tree
tree_of (Value t) = value t
tree_of (Word s) = word (only_word (script_of s.value))
tree_of (Unary' op p a) = unary op (tree_of a)
tree_of (Binary' op p a q b) = binary op (tree_of a) (tree_of b)
tree_of (Choice' p a q b r c) = choice (tree_of a) (tree_of b) (tree_of c)
