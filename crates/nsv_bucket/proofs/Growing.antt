-- Bytes that are put behind a value.
use Rattle.std.proofs.Common.{◌≡◌, ◌+◌, ℕ, List, ◌++◌, length, drop, Bool, Ok, sym, ap, subst, ◌∙◌}
use Rattle.std.specs.Bool.{nat_lt}
use Rattle.std.proofs.lemmas.List.{length-append}
use Rattle.txt_core.specs.Limits.{most_bytes, is_long}
use Rattle.txt_core.specs.Words.{arg}
use Rattle.tcl_list.specs.Answers.{AppendsTo}
use Rattle.nsv_bucket.specs.Arrays.{Arrays, array_of, text_at}
use Rattle.nsv_bucket.specs.Writes.{stored, grown}
use Rattle.nsv_bucket.specs.Lists.{lappended, lappend_step}

-- whether a whole is too long, by the lengths of its parts
pub whole_length : (front : ℕ) (old more : List ℕ) → front ≡ length old → is_long (old ++ more) ≡ nat_lt most_bytes (front + length more)
whole_length front old more e = ap (nat_lt most_bytes) (length-append old more ∙ ap (λ n. n + length more) (sym e))

listed : (arrays : Arrays) (words : List (List ℕ)) (more : List ℕ) → let old = text_at (array_of arrays (arg words 1)) (arg words 2) in AppendsTo old (drop 3 words) (Ok (old ++ more))
    → lappend_step arrays words ≡ grown arrays (arg words 1) (arg words 2) more
listed arrays words more appends = ap (lappended arrays words) appends.1 ∙ ap (stored arrays (arg words 1) (arg words 2)) (sym appends.2)

-- what stands behind a list with elements at its end
pub lappend_grown : (arrays : Arrays) (words : List (List ℕ)) (old more : List ℕ) → old ≡ text_at (array_of arrays (arg words 1)) (arg words 2) → AppendsTo old (drop 3 words) (Ok (old ++ more))
    → lappend_step arrays words ≡ grown arrays (arg words 1) (arg words 2) more
lappend_grown arrays words old more at appends = listed arrays words more (subst (λ t. AppendsTo t (drop 3 words) (Ok (t ++ more))) at appends)
