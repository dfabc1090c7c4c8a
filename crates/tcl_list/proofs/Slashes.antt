-- Steps of writing a list.
use Rattle.std.proofs.Common.{◌≡◌, ℕ, ◌+◌, ◌<◌, List, [], ◌∷◌, ◌++◌, length, take, get_or, true, false, refl, ap, sym, ◌∙◌, arith, append_assoc, Some, None, length-take}
use Rattle.std.specs.List.{slice_get}
use Rattle.std.proofs.lemmas.Option.{slice_get_within, get_or_from_slice_get}
use Rattle.std.proofs.lemmas.List.{take_more}
use Rattle.txt_core.specs.Quoting.{is_special, letter_of, with_backslashes, written, quoting}

pub slashed_special : (b : ℕ) (s t : List ℕ) → s ≡ b ∷ t → is_special b ≡ true → with_backslashes s ≡ 92 ∷ letter_of b ∷ with_backslashes t
unfolding with_backslashes
slashed_special b s t es e = rw (es, e) refl

pub slashed_plain : (b : ℕ) (s t : List ℕ) → s ≡ b ∷ t → is_special b ≡ false → with_backslashes s ≡ b ∷ with_backslashes t
unfolding with_backslashes
slashed_plain b s t es e = rw (es, e) refl

pub slashed_end : (s : List ℕ) → length s ≡ 0 → with_backslashes s ≡ []
unfolding with_backslashes
slashed_end [] e = refl
slashed_end (b ∷ s) e = absurd (omega arith)

pub ruleset slash_steps = (slashed_special, slashed_plain, slashed_end)

pub one_more : (out : List ℕ) (b : ℕ) (t : List ℕ) → (out ++ (b ∷ [])) ++ t ≡ out ++ (b ∷ t)
one_more out b t = append_assoc out (b ∷ []) t

pub two_more : (out : List ℕ) (a b : ℕ) (t : List ℕ) → ((out ++ (a ∷ [])) ++ (b ∷ [])) ++ t ≡ out ++ (a ∷ b ∷ t)
two_more out a b t = append_assoc (out ++ (a ∷ [])) (b ∷ []) t ∙ append_assoc out (a ∷ []) (b ∷ t)

pub quote_push : (v : List (List ℕ)) (x y : List ℕ) → quoting ((y ∷ v) ++ (x ∷ [])) ≡ quoting (y ∷ v) ++ (32 ∷ written x)
unfolding quoting
quote_push [] x y = refl
quote_push (z ∷ v) x y = ap (λ (w : List ℕ). written y ++ (32 ∷ w)) (quote_push v x z) ∙ sym (append_assoc (written y) (32 ∷ quoting (z ∷ v)) (32 ∷ written x))

quote_snoc : (v : List (List ℕ)) (x : List ℕ) → 0 < length v → quoting (v ++ (x ∷ [])) ≡ quoting v ++ (32 ∷ written x)
quote_snoc [] x lt = absurd (omega arith)
quote_snoc (y ∷ v) x lt = quote_push v x y

take_next : (v : List (List ℕ)) (i : ℕ) (x : List ℕ) → slice_get v i ≡ Some x → take (i + 1) v ≡ take i v ++ (x ∷ [])
take_next v i x h =
    let lt : i < length v = slice_get_within v i x h in
    let e : get_or v i [] ≡ x = get_or_from_slice_get v i x [] h in
    let t : take (i + 1) v ≡ take i v ++ (get_or v i [] ∷ []) = take_more v i [] lt in
    rw e at t

-- one more element
pub next_word : (v : List (List ℕ)) (i : ℕ) (x out new : List ℕ) → 0 < i → slice_get v i ≡ Some x → out ≡ quoting (take i v) → new ≡ (out ++ (32 ∷ [])) ++ written x → new ≡ quoting (take (i + 1) v)
next_word v i x out new pos h so_far e =
    let lt : i < length v = slice_get_within v i x h in
    let some : 0 < length (take i v) = omega (arith, length-take i v) in
    rw (take_next v i x h, quote_snoc (take i v) x some, ← so_far, e, append_assoc out (32 ∷ []) (written x)) refl

-- the first element
pub first_word : (v : List (List ℕ)) (x : List ℕ) → slice_get v 0 ≡ Some x → written x ≡ quoting (take 1 v)
unfolding quoting
first_word v x h =
    let t : take (0 + 1) v ≡ take 0 v ++ (x ∷ []) = take_next v 0 x h in
    rw t refl

pub no_word : (v : List (List ℕ)) → slice_get v 0 ≡ None → quoting v ≡ []
unfolding quoting
no_word [] h = refl
no_word (x ∷ v) h = absurd (cc)

pub ruleset quote_steps = (next_word, first_word, no_word)
