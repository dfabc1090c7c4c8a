-- What stands at places while they are made.
use Rattle.std.proofs.Common.{zero, suc, List, [], ◌∷◌, ◌++◌, Option, None, refl}
use Rattle.natives.specs.Places.{HaveSameItems}

-- one empty place more
pub one_place : {A : Type 0} (places : List (Option A)) → HaveSameItems places (places ++ None ∷ [])
one_place [] zero = refl
one_place [] (suc at) = refl
one_place (place ∷ places) zero = refl
one_place (place ∷ places) (suc at) = one_place places at
