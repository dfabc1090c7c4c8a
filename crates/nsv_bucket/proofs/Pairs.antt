-- Lists of fewer than two elements.
use Rattle.std.proofs.Common.{◌≡◌, ℕ, ◌<◌, false, List, [], ◌∷◌, length, refl, arith}
use Rattle.nsv_bucket.specs.Arrays.{Array}
use Rattle.txt_core.specs.Keyed.{with_pairs}
use Rattle.nsv_bucket.specs.Lists.{has_long_value}

pub long_end : (xs : List (List ℕ)) → length xs < 2 → has_long_value xs ≡ false
long_end [] h = refl
long_end (x ∷ []) h = refl
long_end (x ∷ y ∷ xs) h = absurd (omega arith)

pub pairs_end : (m : Array) (xs : List (List ℕ)) → length xs < 2 → with_pairs m xs ≡ m
pairs_end m [] h = refl
pairs_end m (x ∷ []) h = refl
pairs_end m (x ∷ y ∷ xs) h = absurd (omega arith)
