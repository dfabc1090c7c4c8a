-- Forms of a pattern by their width and letter.
use Rattle.std.proofs.Common.{◌≡◌, ◌∙◌, ap, sym, refl, ℕ, ◌+◌, ◌-◌, ◌*◌, ◌<◌, ◌≤◌, min, List, ◌∷◌, length, take, drop, get_or, Bool, true, false, Option, None, Some, arith, take_all, length-take, length-drop}
use Rattle.std.specs.Prelude.{option_map, nat_le, if◌then◌else◌}
use Rattle.std.specs.List.{prefix_len}
use Rattle.std.proofs.lemmas.List.{drop-drop}
use Rattle.std.proofs.lemmas.Bool.{le-leb}
use Rattle.std.proofs.lemmas.List.Sums.{prefix_len_is}
use Rattle.txt_core.specs.Digits.{digit_of, is_digit, value_of}
use Rattle.txt_core.proofs.Values.{value_of_more}
use Rattle.natives.specs.Parts.{Form, is_letter, all_digits, form_by}
use Rattle.tcl_string.specs.Patterns.{behind_flags}

-- all digits at the front, by how many they are
pub digits_are : (t : List ℕ) (n : ℕ) → n ≤ length t → ((k : ℕ) → k < n → is_digit 10 (get_or t k 0) ≡ true) → (n < length t → is_digit 10 (get_or t n 0) ≡ false) → take n t ≡ all_digits t
digits_are t n within digits stops =
    let count : prefix_len (is_digit 10) t ≡ n = prefix_len_is (is_digit 10) t n 0 within digits stops in
    let whole : take (length t) t ≡ t = take_all (length t) t (omega arith) in
    rw (whole, count) refl

-- one digit more of a width that is cut at the widest
pub width_more : (t : List ℕ) (i w d : ℕ) → i < length t → w ≡ min (value_of 10 (take i t)) 1001 → d ≡ digit_of (get_or t i 0) → min (w * 10 + d) 1001 ≡ min (value_of 10 (take (i + 1) t)) 1001
width_more t i w d lt is digit =
    let more : value_of 10 (take (i + 1) t) ≡ value_of 10 (take i t) * 10 + digit_of (get_or t i 0) = value_of_more 10 t i lt in
    omega (arith, more, is, digit)

-- what is behind them
pub digits_left : (t : List ℕ) (n count : ℕ) → count ≡ n → n ≤ length t → take n t ≡ all_digits t → take (length t - count) (drop count t) ≡ drop (length (all_digits t)) t
digits_left t n count same within are =
    let long : length (all_digits t) ≡ count = omega (arith, ap length are, length-take n t, same) in
    rw long (take_all (length t - count) (drop count t) (omega (arith, length-drop count t)))

-- a letter that is one of the five
letter_is : (is : Bool) (b letter : ℕ) → Some letter ≡ (if is then Some b else None) → (is ≡ true) × (letter ≡ b)
letter_is true b letter e = (refl, cc)
letter_is false b letter e = absurd (cc)

-- a form that is found
abbrev pub found : Bool → Bool → ℕ → ℕ → List ℕ → Option (Form × List ℕ)
found left fill width letter behind = Some (record { left = left; zeros = fill; width = width; letter = letter }, behind)

form_made : (left fill : Bool) (t behind : List ℕ) (n v w b letter : ℕ) → drop n t ≡ b ∷ behind → w ≡ v → v ≤ 1000 → is_letter b ≡ true → letter ≡ b
    → found left fill w letter behind ≡ option_map (λ (f : Form). (f, drop (n + 1) t)) (form_by left fill v (drop n t))
form_made left fill t behind n v w b letter cut same small is letters =
    let next : drop (n + 1) t ≡ behind = sym (drop-drop 1 n t) ∙ ap (drop 1) cut in
    let fits : nat_le v 1000 ≡ true = le-leb v 1000 small in
    rw (next, cut, same, letters, is, fits) refl

-- the form whose digits and letter are read
pub form_found : (left fill : Bool) (t rest behind : List ℕ) (w b letter : ℕ) → w ≡ min (value_of 10 (all_digits t)) 1001 → rest ≡ drop (length (all_digits t)) t → rest ≡ b ∷ behind → w ≤ 1000 → Some letter ≡ (if is_letter b then Some b else None)
    → found left fill w letter behind ≡ behind_flags left fill t
form_found left fill t rest behind w b letter width rests cut small letters =
    let same : w ≡ value_of 10 (all_digits t) = omega (arith, width) in
    let is = letter_is (is_letter b) b letter letters in
    form_made left fill t behind (length (all_digits t)) (value_of 10 (all_digits t)) w b letter (sym rests ∙ cut) same (omega (arith, width, same)) is.0 is.1
