-- Bytes that are compared one after the other.
use Rattle.std.proofs.Common.{◌≡◌, ◌≢◌, ℕ, suc, List, [], ◌∷◌, length, Bool, true, false, refl, ap}
use Rattle.std.specs.Prelude.{◌&&◌, bytes_eq, nat_eq}

no_more : (b c : Bool) → false ≡ c → false ≡ b && c
no_more true c h = h
no_more false c h = refl

-- texts of different lengths are different
pub other_length : (xs ys : List ℕ) → length xs ≢ length ys → false ≡ bytes_eq xs ys
other_length [] [] h = absurd (h refl)
other_length [] (y ∷ ys) h = refl
other_length (x ∷ xs) [] h = refl
other_length (x ∷ xs) (y ∷ ys) h = no_more (nat_eq x y) (bytes_eq xs ys) (other_length xs ys (λ e. h (ap suc e)))
