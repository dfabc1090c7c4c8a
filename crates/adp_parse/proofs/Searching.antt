-- What a search for a mark says of the text on both sides of it.
use Rattle.std.proofs.Common.{◌≡◌, ℕ, ◌+◌, ◌<◌, ◌≤◌, List, ◌++◌, Some, None, length, take, drop, sym, ap, ◌∙◌, arith, append_assoc, length-append, length-take, take-append-drop}
use Rattle.std.proofs.Math.Seq.{drop-append_seam, take-append_seam}
use Rattle.memchr.specs.Find.{FindsNeedle, OccursAt}
use Rattle.memchr.proofs.lemmas.MatchLemmas.{OccursAt-from_part, OccursAt-split}
use Rattle.adp_parse.specs.Marks.{Holds}
use Rattle.adp_parse.specs.Steps.{FirstMark}

-- a mark that stands behind `before` occurs at its end
occurs : (text mark before behind : List ℕ) → text ≡ before ++ (mark ++ behind) → OccursAt text mark (length before)
occurs text mark before behind e =
    let fits : length before + length mark ≤ length text = omega (arith, ap length e, length-append before (mark ++ behind), length-append mark behind) in
    OccursAt-from_part
    text
    mark
    (length before)
    fits
    (ap (λ t. take (length mark) (drop (length before) t)) e ∙ ap (λ t. take (length mark) t) (drop-append_seam before (mark ++ behind)) ∙ take-append_seam mark behind)

-- where a search finds nothing the text has no such mark
pub not_found : (text mark : List ℕ) → FindsNeedle text mark 0 None → ¬ Holds text mark
not_found text mark nowhere = λ h.
    nowhere
    (length h.before)
    (omega arith)
    (omega (arith, ap length h.whole, length-append h.before (mark ++ h.behind)))
    (occurs text mark h.before h.behind h.whole)

-- and what it finds is the first
pub found : (text mark : List ℕ) (at : ℕ) → 0 < length mark → FindsNeedle text mark 0 (Some at) → FirstMark text mark (take at text) (drop (at + length mark) text)
found text mark at some finds = record {
  whole = sym (take-append-drop at text) ∙ ap (λ t. take at text ++ t) (OccursAt-split text mark at finds.1);
  first = λ h.
      let behind : text ≡ h.before ++ (mark ++ (h.behind ++ drop at text)) =
      sym (take-append-drop at text)
      ∙ ap (λ t. t ++ drop at text) h.whole
      ∙ append_assoc h.before (mark ++ h.behind) (drop at text)
      ∙ ap (λ t. h.before ++ t) (append_assoc mark h.behind (drop at text)) in
      let earlier : length h.before < at =
      omega (arith, ap length h.whole, length-take at text, length-append h.before (mark ++ h.behind), length-append mark h.behind) in
      finds.0.before (length h.before) (omega arith) earlier (occurs text mark h.before (h.behind ++ drop at text) behind);
}
