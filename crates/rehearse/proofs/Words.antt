-- Lines of words.
use Rattle.std.proofs.Common.{◌≡◌, ℕ, ◌<◌, List, [], ◌∷◌, length, true, refl, sym, ap, ◌∙◌, arith}
use Rattle.std.specs.List.{list_all, join_with_byte}
use Rattle.rehearse.specs.Reading.{is_other}
use Rattle.rehearse.proofs.Cutting.{and_both, cut_unique, no_cut, joined_other}

-- no word has this byte
abbrev pub Without : ℕ → List (List ℕ) → Type 0
Without byte [] = Unit {0}
Without byte (w ∷ ws) = (list_all (is_other byte) w ≡ true) × Without byte ws

-- words without a space are those of their line
pub same_words : (vs ws : List (List ℕ)) → 0 < length vs → 0 < length ws → Without 32 vs → Without 32 ws
    → join_with_byte 32 vs ≡ join_with_byte 32 ws → vs ≡ ws
same_words [] ws m n p q e = absurd (omega arith)
same_words (v ∷ vs) [] m n p q e = absurd (omega arith)
same_words (v ∷ []) (w ∷ []) m n p q e = ap (λ (t : List ℕ). t ∷ []) e
same_words (v ∷ []) (w ∷ y ∷ ws) m n p q e = absurd (no_cut 32 v (w, join_with_byte 32 (y ∷ ws)) p.0 (q.0, e))
same_words (v ∷ x ∷ vs) (w ∷ []) m n p q e = absurd (no_cut 32 w (v, join_with_byte 32 (x ∷ vs)) q.0 (p.0, sym e))
same_words (v ∷ x ∷ vs) (w ∷ y ∷ ws) m n p q e =
    let s : (v ≡ w) × (join_with_byte 32 (x ∷ vs) ≡ join_with_byte 32 (y ∷ ws)) =
    cut_unique 32 v w (join_with_byte 32 (x ∷ vs)) (join_with_byte 32 (y ∷ ws)) p.0 q.0 e in
    let t : x ∷ vs ≡ y ∷ ws = same_words (x ∷ vs) (y ∷ ws) (omega arith) (omega arith) p.1 q.1 s.1 in
    ap (λ (z : List ℕ). z ∷ x ∷ vs) s.0 ∙ ap (λ (z : List (List ℕ)). w ∷ z) t

-- a byte but the space that no word has isn't in their line
pub line_without : (c : ℕ) (ws : List (List ℕ)) → is_other c 32 ≡ true → Without c ws → list_all (is_other c) (join_with_byte 32 ws) ≡ true
line_without c [] away h = refl
line_without c (w ∷ []) away h = h.0
line_without c (w ∷ v ∷ ws) away h =
    joined_other c w (32 ∷ join_with_byte 32 (v ∷ ws)) h.0
    (joined_other c (32 ∷ []) (join_with_byte 32 (v ∷ ws)) (and_both (is_other c 32) true away refl) (line_without c (v ∷ ws) away h.1))
