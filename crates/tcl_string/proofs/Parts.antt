-- Parts of a text by places that are cut to it.
use Rattle.std.proofs.Common.{◌≡◌, ◌∙◌, ap, sym, ℕ, ◌+◌, ◌-◌, ◌<◌, List, length, take, drop, min, get_or, arith, length-take, length-drop, get_or-take, get_or-drop}
use Rattle.std.proofs.lemmas.Grind.{same_number_lists}

-- a part from one place up to another
pub cut_part : (a b : ℕ) (xs : List ℕ) → take (min b (length xs) - min a (min b (length xs))) (drop (min a (min b (length xs))) xs) ≡ drop a (take b xs)
cut_part a b xs =
    let end : ℕ = min b (length xs) in
    let start : ℕ = min a (min b (length xs)) in
    let long = length-take (min b (length xs) - min a (min b (length xs))) (drop (min a (min b (length xs))) xs) in
    let behind = length-drop (min a (min b (length xs))) xs in
    same_number_lists (take (min b (length xs) - min a (min b (length xs))) (drop (min a (min b (length xs))) xs)) (drop a (take b xs))
    (omega (arith, long, behind, length-drop a (take b xs), length-take b xs))
    (λ k lt.
    let first : k < min b (length xs) - min a (min b (length xs)) = omega (arith, long) in
    let same : min a (min b (length xs)) + k ≡ a + k = omega arith in
    let within : a + k < b = omega arith in
    get_or-take _ (drop (min a (min b (length xs))) xs) k 0 first ∙ get_or-drop (min a (min b (length xs))) xs k 0 ∙ ap (λ (n : ℕ). get_or xs n 0) same
    ∙ sym (get_or-drop a (take b xs) k 0 ∙ get_or-take b xs (a + k) 0 within))
