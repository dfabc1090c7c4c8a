-- Patterns and bodies of `switch`.
use Rattle.std.proofs.Common.{◌≡◌, ◌≤◌, ℕ, ◌-◌, List, [], ◌∷◌, length, take, drop, Bool, true, false, not, cond, slice_index_or, refl, sym, ap, ◌∙◌, arith}
use Rattle.std.specs.Prelude.{bytes_eq, codes}
use Rattle.std.proofs.lemmas.List.{take_rest, get_or_default}
use Rattle.tcl_eval.specs.Words.{arg}
use Rattle.tcl_eval.specs.Switch.{body_or_next}

holds : (b : Bool) → false ≡ not b → b ≡ true
holds true e = refl
holds false e = e

-- the body is `-`, and the next pair's body stands in its place
pub next_pair : (chosen next : List ℕ) (left : List (List ℕ)) → 2 ≤ length left → next ≡ slice_index_or left 1 next → false ≡ not (bytes_eq chosen (codes "-")) → body_or_next next (take (length left - 2) (drop 2 left)) ≡ body_or_next chosen left
next_pair chosen next [] enough is dash = absurd (omega (arith, enough))
next_pair chosen next (x ∷ []) enough is dash = absurd (omega (arith, enough))
next_pair chosen next (x ∷ y ∷ rest) enough is dash =
    ap (λ (l : List (List ℕ)). body_or_next next l) (take_rest (x ∷ y ∷ rest) 2)
    ∙ ap (λ (n : List ℕ). body_or_next n rest) is
    ∙ sym (ap (λ (c : Bool). cond c (body_or_next y rest) chosen) (holds (bytes_eq chosen (codes "-")) dash))

-- the last word
pub last_word : (words : List (List ℕ)) (last : List ℕ) → 1 ≤ length words → last ≡ slice_index_or words (length words - 1) last → last ≡ arg words (length words - 1)
last_word words last enough is = is ∙ get_or_default words (length words - 1) last [] (omega (arith, enough))
