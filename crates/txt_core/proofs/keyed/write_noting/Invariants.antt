use Rattle.std.proofs.Common.{◌≡◌, length}
use Rattle.txt_core.specs.Keyed.{with_pairs}
use Rattle.txt_core.specs.Undoing.{undone}
use Rattle.txt_core.proofs.keyed.write_noting.Given as goal

-- what is written, with what is left written to it, is the whole; and what is noted undoes what is written
abbrev pub invariant-pairs : goal.invariant-pairs
invariant-pairs g l =
    record {
      whole : with_pairs (g.K.Keyed.texts l.keyed) l.rest ≡ with_pairs (g.K.Keyed.texts l.fn.keyed) l.fn.pairs;
      noted : undone l.journal.items (g.K.Keyed.texts l.keyed) ≡ undone l.fn.journal.items (g.K.Keyed.texts l.fn.keyed);
    }

abbrev pub decreases-pairs : goal.decreases-pairs
decreases-pairs g l = length l.rest
