use Rattle.std.proofs.Common.{◌≡◌, ◌≤◌, List, ℕ, length}
use Rattle.txt_core.specs.Lists.{Outcome, ElementsAt, Reads, ends_element, is_end}
use Rattle.tcl_list.proofs.Answering.{front}
use Rattle.tcl_list.proofs.splitting.elements.Given as goal

abbrev pub invariant-elements : goal.invariant-elements
invariant-elements l = record {
  same : (o : Outcome (List (List ℕ))) → ElementsAt l.rest o → Reads l.bytes (front l.words o);
  shorter : length l.rest ≤ length l.bytes;
  stands : ends_element l.rest ≡ is_end l.rest;
}

abbrev pub decreases-elements : goal.decreases-elements
decreases-elements l = length l.rest
