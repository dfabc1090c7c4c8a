-- Lists of one word, and of two.
use Rattle.std.proofs.Common.{◌≡◌, ◌≤◌, ◌<◌, ℕ, List, [], ◌∷◌, length, slice_index_or, slice_set, drop, Bool, IsTrue, Option, None, Some, refl, sym, ap, ◌∙◌, arith}
use Rattle.std.specs.Prelude.{slice_get}
use Rattle.std.specs.Bool.{Decides}

-- A list of exactly one word.
pub one_word : (words : List (List ℕ)) (word : List ℕ) → 1 ≤ length words → length words < 2 → word ≡ slice_index_or words 0 word → words ≡ word ∷ []
one_word [] word le lt is = absurd (omega (arith, le))
one_word (only ∷ []) word le lt is = ap (λ w. w ∷ []) (sym is)
one_word (first ∷ second ∷ rest) word le lt is = absurd (omega (arith, lt))

-- A list of exactly two words.
pub two_words : (words : List (List ℕ)) (word other : List ℕ) → 2 ≤ length words → length words < 3 → word ≡ slice_index_or words 0 word → other ≡ slice_index_or words 1 other → words ≡ word ∷ other ∷ []
two_words [] word other le lt is are = absurd (omega (arith, le))
two_words (first ∷ []) word other le lt is are = absurd (omega (arith, le))
two_words (first ∷ second ∷ []) word other le lt is are = ap (λ (w : List ℕ). w ∷ second ∷ []) (sym is) ∙ ap (λ (w : List ℕ). word ∷ w ∷ []) (sym are)
two_words (first ∷ second ∷ third ∷ rest) word other le lt is are = absurd (omega (arith, lt))

-- A test of the one word is a test of the list.
pub one_word_is : (words : List (List ℕ)) (word wanted : List ℕ) (test : Bool) → words ≡ word ∷ [] → Decides test (word ≡ wanted)
    → (IsTrue test → words ≡ wanted ∷ []) × (words ≡ wanted ∷ [] → IsTrue test)
one_word_is words word wanted test one decides =
    ((λ yes. one ∙ ap (λ w. w ∷ []) (decides.0 yes)), (λ is. decides.1 (let both : word ∷ [] ≡ wanted ∷ [] = sym one ∙ is in cc)))

-- A list whose first item was written has the other ones as they were.
pub others_stay : {A : Type 0} (xs : List A) (x : A) → drop 1 (slice_set xs 0 x) ≡ drop 1 xs
others_stay [] x = refl
others_stay (y ∷ xs) x = refl

-- A test of the first word is a test of the list.
pub first_word_is : (words : List (List ℕ)) (word wanted : List ℕ) (test : Bool) → slice_get words 0 ≡ Some word → Decides test (word ≡ wanted)
    → (IsTrue test → (rest : List (List ℕ)) × (words ≡ wanted ∷ rest)) × ((rest : List (List ℕ)) × (words ≡ wanted ∷ rest) → IsTrue test)
first_word_is [] word wanted test is decides = absurd (cc)
first_word_is (first ∷ rest) word wanted test is decides =
    let same : first ≡ word = cc in
    ((λ yes. (rest, ap (λ w. w ∷ rest) (same ∙ decides.0 yes))), (λ r. decides.1 (let both : first ∷ rest ≡ wanted ∷ r.0 = r.1 in cc)))
