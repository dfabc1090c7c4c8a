-- Texts joined one after another.
use Rattle.std.proofs.Common.{◌≡◌, ◌∙◌, ap, sym, refl, ℕ, zero, suc, ◌+◌, ◌<◌, ◌≤◌, List, [], ◌∷◌, ◌++◌, length, take, get_or, arith, append_assoc, length-append, length-take}
use Rattle.std.specs.Prelude.{◌==◌, true, false}
use Rattle.std.proofs.lemmas.Bool.{ltb-true, lt-ltb}
use Rattle.std.proofs.lemmas.Bool.Decides.{nat_tests}
use Rattle.std.proofs.lemmas.List.{take_more}
use Rattle.tcl_string.specs.Joins.{with_next}
use Rattle.txt_core.specs.Limits.{is_long}
use Rattle.natives.specs.Lists.{joined}

-- one more behind others
pub joined_push : (between : List ℕ) (xs : List (List ℕ)) (x : List ℕ) → 0 < length xs → joined between (xs ++ x ∷ []) ≡ (joined between xs ++ between) ++ x
joined_push between [] x some = absurd (omega arith)
joined_push between (y ∷ []) x some = refl
joined_push between (y ∷ z ∷ xs) x some =
    let more : joined between (z ∷ (xs ++ x ∷ [])) ≡ (joined between (z ∷ xs) ++ between) ++ x = joined_push between (z ∷ xs) x (omega arith) in
    rw more (simp append_assoc)

-- the first of several is no longer than all
joined_two : (between x y : List ℕ) (xs : List (List ℕ)) → length (joined between (x ∷ y ∷ xs)) ≡ length x + (length between + length (joined between (y ∷ xs)))
joined_two between x y xs =
    let all : length (joined between (x ∷ y ∷ xs)) ≡ length (x ++ between) + length (joined between (y ∷ xs)) = length-append (x ++ between) (joined between (y ∷ xs)) in
    omega (arith, all, length-append x between)

-- some of them are no longer than all
pub joined_within : (between : List ℕ) (i : ℕ) (xs : List (List ℕ)) → length (joined between (take i xs)) ≤ length (joined between xs)
joined_within between zero xs = omega arith
joined_within between (suc i) [] = omega arith
joined_within between (suc zero) (x ∷ []) = omega arith
joined_within between (suc (suc i)) (x ∷ []) = omega arith
joined_within between (suc zero) (x ∷ y ∷ xs) =
    let one : length (joined between (take (suc zero) (x ∷ y ∷ xs))) ≡ length x = refl in
    omega (arith, one, joined_two between x y xs)
joined_within between (suc (suc i)) (x ∷ y ∷ xs) =
    let some : length (joined between (take (suc (suc i)) (x ∷ y ∷ xs))) ≡ length x + (length between + length (joined between (y ∷ take i xs))) = joined_two between x y (take i xs) in
    let rest : length (joined between (y ∷ take i xs)) ≤ length (joined between (y ∷ xs)) = joined_within between (suc i) (y ∷ xs) in
    omega (arith, some, joined_two between x y xs, rest)

not_first : (i : ℕ) → 0 < i → (i == 0) ≡ false
not_first i some = grind (arith, nat_tests)

-- one more
pub next_joined : (between : List ℕ) (i : ℕ) (xs : List (List ℕ)) → i < length xs → with_next (i == 0) (joined between (take i xs)) between (get_or xs i []) ≡ joined between (take (i + 1) xs)
next_joined between zero [] lt = absurd (omega arith)
next_joined between zero (x ∷ xs) lt = refl
next_joined between (suc i) xs lt =
    let some : 0 < length (take (suc i) xs) = omega (arith, length-take (suc i) xs) in
    rw (not_first (suc i) (omega arith)) (sym (joined_push between (take (suc i) xs) (get_or xs (suc i) []) some) ∙ ap (joined between) (sym (take_more xs (suc i) [] lt)))

-- where some are over the limit, all are
pub joined_long : (between : List ℕ) (i : ℕ) (xs : List (List ℕ)) (text : List ℕ) → text ≡ joined between (take i xs) → is_long text ≡ true → is_long (joined between xs) ≡ true
joined_long between i xs text is long =
    let over : 1048576 < length text = ltb-true 1048576 (length text) long in
    let within : length text ≤ length (joined between xs) = rw is (joined_within between i xs) in
    lt-ltb 1048576 (length (joined between xs)) (omega arith)
