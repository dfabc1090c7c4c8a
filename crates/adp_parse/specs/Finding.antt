-- Each text has a first mark or none, and a first block or none.
use Rattle.std.proofs.Common.{◌≡◌, ◌≢◌, ℕ, ◌⊎◌, inl, inr, ⊎_elim, [], ◌∷◌, ◌++◌, refl, sym, ap, subst, ◌∙◌, append_assoc, append-nil}
use Rattle.std.proofs.lemmas.Bool.{cases_eq}
use Rattle.txt_core.specs.Names.{Bytes}
use Rattle.adp_parse.specs.Marks.{opening, closing, Holds}
use Rattle.adp_parse.specs.Pieces.{OpensBlock}
use Rattle.adp_parse.specs.Steps.{FirstMark, FirstBlock}

-- marks of two bytes that differ, so that no mark begins inside another
module _ (a b : ℕ) (differ : a ≢ b) where
  -- the mark is the front of the text, or it isn't
  begins : (t : Bytes) → ((r : Bytes) × (t ≡ a ∷ b ∷ r)) ⊎ ((r : Bytes) → t ≢ a ∷ b ∷ r)
  begins [] = inr (λ r e. cc)
  begins (x ∷ []) = inr (λ r e. cc)
  begins (x ∷ y ∷ t) =
      ⊎_elim
      (λ (is_a : x ≡ a). ⊎_elim (λ (is_b : y ≡ b). inl (t, cc)) (λ (other : y ≢ b). inr (λ r e. other (cc))) (cases_eq y b))
      (λ (other : x ≢ a). inr (λ r e. other (cc)))
      (cases_eq x a)

  -- a mark in the rest is a mark in the whole
  pub holds-later : (x : ℕ) (t : Bytes) → Holds t (a ∷ b ∷ []) → Holds (x ∷ t) (a ∷ b ∷ [])
  holds-later x t h = record { before = x ∷ h.before; behind = h.behind; whole = ap (λ l. x ∷ l) h.whole }

  pub holds-behind : (d t : Bytes) → Holds t (a ∷ b ∷ []) → Holds (d ++ t) (a ∷ b ∷ [])
  holds-behind [] t h = h
  holds-behind (x ∷ d) t h = holds-later x (d ++ t) (holds-behind d t h)

  -- no mark is in the empty text
  none_in_nil : (p q : Bytes) → [] ≡ p ++ (a ∷ b ∷ q) → ⊥
  none_in_nil [] q e = cc
  none_in_nil (x ∷ p) q e = cc

  -- a mark is in front, or in the rest
  in_rest : (x : ℕ) (t p q : Bytes) → x ∷ t ≡ p ++ (a ∷ b ∷ q) → ((r : Bytes) × (x ∷ t ≡ a ∷ b ∷ r)) ⊎ Holds t (a ∷ b ∷ [])
  in_rest x t [] q e = inl (q, e)
  in_rest x t (y ∷ p) q e = let rest : t ≡ p ++ (a ∷ b ∷ q) = cc in inr (record { before = p; behind = q; whole = rest })

  -- the first mark of a text, where it has one
  pub first_mark : (t : Bytes) → ((p : Bytes) × (q : Bytes) × FirstMark t (a ∷ b ∷ []) p q) ⊎ (¬ Holds t (a ∷ b ∷ []))
  first_mark [] = inr (λ h. none_in_nil h.before h.behind h.whole)
  first_mark (x ∷ t) = elim (begins (x ∷ t)) [
    | inl found ↦ inl ([], found.0, record { whole = found.1; first = λ h. none_in_nil h.before h.behind h.whole })
    | inr other ↦ elim (first_mark t) [
      | inl found ↦
          let f = found.2 in
          inl (
            x ∷ found.0,
            found.1,
            record {
              whole = ap (λ l. x ∷ l) f.whole;
              first = λ h.
                  ⊎_elim
                  (λ front. other (front.0 ++ (a ∷ b ∷ found.1)) (ap (λ l. x ∷ l) f.whole ∙ ap (λ l. l ++ (a ∷ b ∷ found.1)) front.1))
                  f.first
                  (in_rest x found.0 h.before h.behind h.whole);
            },
          )
      | inr none ↦ inr (λ h. ⊎_elim (λ front. other front.0 front.1) none (in_rest x t h.before h.behind h.whole))
    ]
  ]

  -- what stands behind any mark stands behind the first one too
  pub behind_first : (f g r s : Bytes) → ¬ Holds f (a ∷ b ∷ []) → f ++ (a ∷ b ∷ r) ≡ g ++ (a ∷ b ∷ s) → (d : Bytes) × (r ≡ d ++ s)
  behind_first [] [] r s none e = ([], cc)
  behind_first [] (y ∷ []) r s none e = absurd (differ (cc))
  behind_first [] (y ∷ z ∷ g) r s none e = (g ++ (a ∷ b ∷ []), let rest : r ≡ g ++ (a ∷ b ∷ s) = cc in rest ∙ sym (append_assoc g (a ∷ b ∷ []) s))
  behind_first (x ∷ []) [] r s none e = absurd (differ (cc))
  behind_first (x ∷ y ∷ f) [] r s none e =
      absurd (none (record { before = []; behind = f; whole = let same : x ∷ y ∷ f ≡ a ∷ b ∷ f = cc in same }))
  behind_first (x ∷ f) (y ∷ g) r s none e = behind_first f g r s (λ h. none (holds-later x f h)) (cc)

  -- a text has one first mark
  pub same_first : (f g r s : Bytes) → ¬ Holds f (a ∷ b ∷ []) → ¬ Holds g (a ∷ b ∷ []) → f ++ (a ∷ b ∷ r) ≡ g ++ (a ∷ b ∷ s) → (f ≡ g) × (r ≡ s)
  same_first [] [] r s none absent e = (refl, cc)
  same_first [] (y ∷ []) r s none absent e = absurd (differ (cc))
  same_first [] (y ∷ z ∷ g) r s none absent e =
      absurd (absent (record { before = []; behind = g; whole = let same : y ∷ z ∷ g ≡ a ∷ b ∷ g = cc in same }))
  same_first (x ∷ []) [] r s none absent e = absurd (differ (cc))
  same_first (x ∷ y ∷ f) [] r s none absent e =
      absurd (none (record { before = []; behind = f; whole = let same : x ∷ y ∷ f ≡ a ∷ b ∷ f = cc in same }))
  same_first (x ∷ f) (y ∷ g) r s none absent e =
      let later : (f ≡ g) × (r ≡ s) = same_first f g r s (λ h. none (holds-later x f h)) (λ h. absent (holds-later y g h)) (cc) in
      let head : x ≡ y = cc in
      (ap (λ l. x ∷ l) later.0 ∙ ap (λ n. n ∷ g) head, later.1)

-- the two marks are of different bytes
pub opening_differs : ◌≢◌ {A = ℕ} 60 37
opening_differs = λ e. cc

pub closing_differs : ◌≢◌ {A = ℕ} 37 62
closing_differs = λ e. cc

-- a text with no `<%` opens no block
pub no_opening : (text after : Bytes) → ¬ Holds text opening → ¬ OpensBlock text after
no_opening text after none = λ o. none (record { before = o.before; behind = o.behind; whole = o.opens })

-- nor does one whose first `<%` isn't closed
pub no_closing : (text before inside : Bytes) → FirstMark text opening before inside → ¬ Holds inside closing → ¬ OpensBlock text []
no_closing text before inside found none = λ o.
    let rest = behind_first 60 37 opening_differs before o.before inside o.behind found.first (sym found.whole ∙ o.opens) in
    let closed : Holds o.behind closing = subst (λ t. Holds t closing) (append-nil o.behind) o.closes in
    none (subst (λ t. Holds t closing) (sym rest.1) (holds-behind 37 62 closing_differs rest.0 o.behind closed))

-- a first `<%` and the first `%>` behind it make the first block
pub two_marks : (text before inside content behind : Bytes) → FirstMark text opening before inside → FirstMark inside closing content behind → FirstBlock text before content behind
two_marks text before inside content behind opens closes = record {
  whole = opens.whole ∙ ap (λ t. before ++ (opening ++ t)) closes.whole;
  first = opens.first;
  no_end = closes.first;
}

-- the first block of a text, where it has one
pub first_block : (text : Bytes) → ((before : Bytes) × (content : Bytes) × (behind : Bytes) × FirstBlock text before content behind) ⊎ (¬ OpensBlock text [])
first_block text = elim (first_mark 60 37 opening_differs text) [
  | inl opens ↦ elim (first_mark 37 62 closing_differs opens.1) [
    | inl closes ↦ inl (opens.0, closes.0, closes.1, two_marks text opens.0 opens.1 closes.0 closes.1 opens.2 closes.2)
    | inr none ↦ inr (no_closing text opens.0 opens.1 opens.2 none)
  ]
  | inr none ↦ inr (no_opening text [] none)
]
