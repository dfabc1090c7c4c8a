-- The backslash forms that quoting writes: each gives the byte that it stands for.
use Rattle.std.proofs.Common.{◌≡◌, ℕ, List, [], ◌∷◌, true, refl, arith}
use Rattle.std.proofs.lemmas.Bool.Decides.{nat_tests}
use Rattle.txt_core.specs.Escape.{escape_of}
use Rattle.txt_core.specs.Quoting.{is_special, letter_of}

pub escaped_back : (b : ℕ) (t : List ℕ) → is_special b ≡ true → escape_of (letter_of b ∷ t) ≡ (b ∷ [], t)
unfolding escape_of
escaped_back b t h = grind (arith, nat_tests)

pub sign_back : (t : List ℕ) → escape_of (35 ∷ t) ≡ (35 ∷ [], t)
unfolding escape_of
sign_back t = refl
