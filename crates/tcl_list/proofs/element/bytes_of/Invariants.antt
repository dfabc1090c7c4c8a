use Rattle.std.proofs.Common.{◌≡◌, ◌<◌, ◌++◌, ◌⊎◌, length, List, ℕ}
use Rattle.txt_core.specs.Lists.{BytesAt}
use Rattle.tcl_list.proofs.element.bytes_of.Given as goal

abbrev pub invariant-bytes : goal.invariant-bytes
invariant-bytes l = record {
  same : (x r : List ℕ) → BytesAt l.quoted l.rest x r → BytesAt l.quoted l.bytes (l.text.items ++ x) r;
  goes : (l.rest ≡ l.bytes) ⊎ (length l.rest < length l.bytes);
}

abbrev pub decreases-bytes : goal.decreases-bytes
decreases-bytes l = length l.rest
