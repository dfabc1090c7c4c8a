-- What a piece of the program is.
use Rattle.std.specs.Prelude.{◌≡◌}
use Rattle.tcl_parse.specs.Tree.{Part, text, variable, element, bracket, Parts, part}
use Rattle.tcl_eval.specs.Places.{tree_of, index_of, inside}
use Rattle.tcl_eval.specs.declared.place.Seen.{Seen}
use Rattle.tcl_eval.specs.declared.place.Seen.TheVariants.{Bytes, Variable, Element, Bracket}

-- it is this part
abbrev pub SeenAs : Seen → Part → Type 0
SeenAs (Bytes t) p = p ≡ text t.now
SeenAs (Variable x) p = p ≡ variable x.now
SeenAs (Element x) p = p ≡ element x.now (index_of p)
SeenAs (Bracket s) p = p ≡ bracket (tree_of s.now.value)

-- it is the first of these parts, behind which these are left
abbrev pub SeenAt : Seen → Parts → Parts → Type 0
SeenAt (Bytes t) ps rest = ps ≡ part (text t.now) rest
SeenAt (Variable x) ps rest = ps ≡ part (variable x.now) rest
SeenAt (Element x) ps rest = ps ≡ part (element x.now (inside ps)) rest
SeenAt (Bracket s) ps rest = ps ≡ part (bracket (tree_of s.now.value)) rest
