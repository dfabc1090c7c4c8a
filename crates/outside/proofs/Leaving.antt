-- What is left of a list whose first item is taken out.
use Rattle.std.proofs.Common.{◌≡◌, ◌<◌, List, [], ◌∷◌, length, sym, ap, ◌∙◌, arith}
use Rattle.std.specs.List.{remove, slice_index_or}

pub first_out : {X : Type 0} (xs ys : List X) (x : X) → 0 < length xs → x ≡ slice_index_or xs 0 x → ys ≡ remove xs 0 → xs ≡ x ∷ ys
first_out [] ys x some' is rest = absurd (omega arith)
first_out (first ∷ others) ys x some' is rest = ap (λ y. y ∷ others) (sym is) ∙ ap (λ l. x ∷ l) (sym rest)
