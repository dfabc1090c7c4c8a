-- Lines of words, with blocks behind them, are read in one way.
use Rattle.std.proofs.Common.{◌≡◌, ◌<◌, ◌≤◌, ℕ, zero, suc, ◌+◌, ◌/◌, ◌%◌, ◌^◌, List, [], ◌∷◌, ◌++◌, Bool, true, false, length, take, drop, get_or, decimal, codes, refl, sym, ap, ◌∙◌, subst, arith, append_assoc, length-append}
use Rattle.std.specs.Prelude.{◌||◌}
use Rattle.std.specs.List.{AllByRecursion, list_any, join_with_byte}
use Rattle.std.proofs.lemmas.Bool.Decides.{nat_tests}
use Rattle.std.proofs.lemmas.Fmt.{decimal_by_steps, decimal_injective}
use Rattle.std.proofs.lemmas.List.Folds.{list_any-append}
use Rattle.std.proofs.Math.Seq.{take-append_seam, drop-append_seam}
use Rattle.rehearse.specs.Events.{line_end, line_of}
use Rattle.rehearse.specs.Plays.{is_break}

-- ---- words

-- a word has neither a space nor a newline
abbrev pub IsUnbroken : List ℕ → Type 0
IsUnbroken word = list_any is_break word ≡ false

neither : (a b : Bool) → (a || b) ≡ false → (a ≡ false) × (b ≡ false)
neither false b h = (refl, h)
neither true b h = absurd (cc)

neither_too : (a b : Bool) → a ≡ false → b ≡ false → (a || b) ≡ false
neither_too false b h k = k
neither_too true b h k = absurd (cc)

digit_unbroken : (digit : ℕ) → digit < 10 → is_break (48 + digit) ≡ false
digit_unbroken digit h = grind (arith, nat_tests)

one_digit : (digit : ℕ) → digit < 10 → IsUnbroken ((48 + digit) ∷ [])
one_digit digit h = neither_too (is_break (48 + digit)) false (digit_unbroken digit h) refl

digit_more : (n : ℕ) (digits : List ℕ) → 10 ≤ n → IsUnbroken digits → IsUnbroken (digits ++ ((48 + n % 10) ∷ []))
digit_more n digits h k =
    list_any-append is_break digits ((48 + n % 10) ∷ []) ∙ neither_too (list_any is_break digits) (list_any is_break ((48 + n % 10) ∷ [])) k (one_digit (n % 10) (omega arith))

pub decimal_unbroken : (n : ℕ) → n < 2 ^ 64 → IsUnbroken (decimal n)
decimal_unbroken n h = decimal_by_steps (λ (n : ℕ) (digits : List ℕ). IsUnbroken digits) one_digit digit_more n h

-- ---- a word and what ends it

module _ (test : ℕ → Bool) where
  -- a text is cut in one way at the first byte of a kind
  same_cut : (w v t u : List ℕ) (b c : ℕ) → list_any test w ≡ false → list_any test v ≡ false → test b ≡ true → test c ≡ true
      → w ++ (b ∷ t) ≡ v ++ (c ∷ u) → (w ≡ v) × (b ≡ c) × (t ≡ u)
  same_cut [] [] t u b c h k p q e = (refl, (cc), (cc))
  same_cut [] (y ∷ v) t u b c h k p q e =
      let no : test y ≡ false = (neither (test y) (list_any test v) k).0 in
      let s : b ≡ y = cc in
      let x : test b ≡ test y = ap test s in
      absurd (cc)
  same_cut (x ∷ w) [] t u b c h k p q e =
      let no : test x ≡ false = (neither (test x) (list_any test w) h).0 in
      let s : x ≡ c = cc in
      let y : test x ≡ test c = ap test s in
      absurd (cc)
  same_cut (x ∷ w) (y ∷ v) t u b c h k p q e =
      let s : x ≡ y = cc in
      let f : w ++ (b ∷ t) ≡ v ++ (c ∷ u) = cc in
      let r = same_cut w v t u b c (neither (test x) (list_any test w) h).1 (neither (test y) (list_any test v) k).1 p q f in
      (ap (λ (z : ℕ). z ∷ w) s ∙ ap (λ (z : List ℕ). y ∷ z) r.0, r.1, r.2)

-- ---- lines

abbrev pub AreUnbroken : List (List ℕ) → Type 0
AreUnbroken words = AllByRecursion (λ word. list_any is_break word ≡ false) words

joined_same : (w v : List ℕ) (ws vs : List (List ℕ)) (t u : List ℕ) → AreUnbroken (w ∷ ws) → AreUnbroken (v ∷ vs)
    → join_with_byte 32 (w ∷ ws) ++ (10 ∷ t) ≡ join_with_byte 32 (v ∷ vs) ++ (10 ∷ u) → (w ∷ ws ≡ v ∷ vs) × (t ≡ u)
joined_same w v [] [] t u h k e =
    let r = same_cut is_break w v t u 10 10 h.0 k.0 refl refl e in
    (ap (λ (z : List ℕ). z ∷ []) r.0, r.2)
joined_same w v [] (v2 ∷ vs) t u h k e =
    let r = same_cut is_break w v t (join_with_byte 32 (v2 ∷ vs) ++ (10 ∷ u)) 10 32 h.0 k.0 refl refl (e ∙ append_assoc v (32 ∷ join_with_byte 32 (v2 ∷ vs)) (10 ∷ u)) in
    let s : ◌≡◌ {A = ℕ} 10 32 = r.1 in
    absurd (omega arith)
joined_same w v (w2 ∷ ws) [] t u h k e =
    let r = same_cut is_break w v (join_with_byte 32 (w2 ∷ ws) ++ (10 ∷ t)) u 32 10 h.0 k.0 refl refl (sym (append_assoc w (32 ∷ join_with_byte 32 (w2 ∷ ws)) (10 ∷ t)) ∙ e) in
    let s : ◌≡◌ {A = ℕ} 32 10 = r.1 in
    absurd (omega arith)
joined_same w v (w2 ∷ ws) (v2 ∷ vs) t u h k e =
    let r = same_cut is_break w v (join_with_byte 32 (w2 ∷ ws) ++ (10 ∷ t)) (join_with_byte 32 (v2 ∷ vs) ++ (10 ∷ u)) 32 32 h.0 k.0 refl refl
    (sym (append_assoc w (32 ∷ join_with_byte 32 (w2 ∷ ws)) (10 ∷ t)) ∙ e ∙ append_assoc v (32 ∷ join_with_byte 32 (v2 ∷ vs)) (10 ∷ u)) in
    let others = joined_same w2 v2 ws vs t u h.1 k.1 r.2 in
    (ap (λ (z : List ℕ). z ∷ w2 ∷ ws) r.0 ∙ ap (λ (z : List (List ℕ)). v ∷ z) others.0, others.1)

-- a line has a word
abbrev pub HasWord : List (List ℕ) → Type 0
HasWord [] = ⊥
HasWord (w ∷ ws) = Unit {0}

pub lines_same : (ws vs : List (List ℕ)) (t u : List ℕ) → HasWord ws → HasWord vs → AreUnbroken ws → AreUnbroken vs
    → line_of ws ++ t ≡ line_of vs ++ u → (ws ≡ vs) × (t ≡ u)
lines_same [] vs t u a b h k e = absurd a
lines_same (w ∷ ws) [] t u a b h k e = absurd b
lines_same (w ∷ ws) (v ∷ vs) t u a b h k e =
    joined_same w v ws vs t u h k (sym (append_assoc (join_with_byte 32 (w ∷ ws)) line_end t) ∙ e ∙ append_assoc (join_with_byte 32 (v ∷ vs)) line_end u)

-- ---- numbers and blocks

-- the word at a place of a line
pub same_word : (place : ℕ) (ws vs : List (List ℕ)) → ws ≡ vs → get_or ws place [] ≡ get_or vs place []
same_word place ws vs e = ap (λ (z : List (List ℕ)). get_or z place []) e

same_parts : (a b s t : List ℕ) → length a ≡ length b → a ++ s ≡ b ++ t → (a ≡ b) × (s ≡ t)
same_parts a b s t n e =
    let f : take (length a) (a ++ s) ≡ take (length b) (b ++ t) = cc in
    let g : drop (length a) (a ++ s) ≡ drop (length b) (b ++ t) = cc in
    (sym (take-append_seam a s) ∙ f ∙ take-append_seam b t, sym (drop-append_seam a s) ∙ g ∙ drop-append_seam b t)

-- a block whose length stands in the line
pub blocks_same : (a b s t : List ℕ) → length a < 2 ^ 64 → length b < 2 ^ 64 → decimal (length a) ≡ decimal (length b)
    → (a ++ line_end) ++ s ≡ (b ++ line_end) ++ t → (a ≡ b) × (s ≡ t)
blocks_same a b s t h k d e =
    let r = same_parts a b (line_end ++ s) (line_end ++ t) (decimal_injective (length a) (length b) h k d) (sym (append_assoc a line_end s) ∙ e ∙ append_assoc b line_end t) in
    (r.0, ap (λ (z : List ℕ). drop 1 z) r.1)
