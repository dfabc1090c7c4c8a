-- Ends of counting braces.
use Rattle.std.proofs.Common.{◌≡◌, ◌≤◌, ℕ, List, [], ◌∷◌, Bool, true, false, None, take, drop, length, refl, sym, ap, ◌∙◌}
use Rattle.std.specs.Prelude.{◌&&◌}
use Rattle.std.proofs.lemmas.List.{drop_all}
use Rattle.txt_core.specs.Counting.{braced, balances, in_front}
use Rattle.txt_core.specs.Quoting.{none_special, is_plain, escaped, written}

nothing_left : (p : Bool) (n : ℕ) → braced p n [] ≡ None
unfolding braced
nothing_left p n = refl

-- no brace closes
pub none_closes : (s : List ℕ) (at n : ℕ) (p : Bool) → length s ≤ at → in_front (take at s) (braced p n (drop at s)) ≡ None
none_closes s at n p end = ap (in_front (take at s)) (ap (braced p n) (drop_all at s end) ∙ nothing_left p n)

never : (b : Bool) → (b && false) ≡ false
never true = refl
never false = refl

-- a text in which a brace closes nothing is written with backslashes
pub written_slashed : (text rest t : List ℕ) (b n : ℕ) (plain p : Bool) → rest ≡ b ∷ t → b ≡ 125
    → (plain && none_special rest) ≡ is_plain text → balances p n rest ≡ balances false 0 text
    → ((more : List ℕ) → balances p n (b ∷ more) ≡ false) → written text ≡ escaped text
written_slashed text rest t b n plain p er eb plainly same closes =
    let special : none_special rest ≡ false = rw (er, eb) refl in
    let not_plain : is_plain text ≡ false = sym plainly ∙ ap (λ (s : Bool). plain && s) special ∙ never plain in
    let unbalanced : balances false 0 text ≡ false = sym same ∙ ap (balances p n) er ∙ closes t in
    rw (not_plain, unbalanced) refl
