use Rattle.std.proofs.Common.{◌≡◌, ℕ, List, length}
use Rattle.blueprint.specs.Kept.{is_there, undone, HavePlaces}
use Rattle.blueprint.proofs.names.Names.take_back.Given as goal

abbrev pub invariant-loop-row : goal.invariant-loop-row
invariant-loop-row l = HavePlaces l.self.slots l.journal.items × ((q : List ℕ) → undone l.journal.items (is_there l.self.slots) q ≡ undone l.initial.journal.items (is_there l.initial.self.slots) q)

abbrev pub decreases-loop-row : goal.decreases-loop-row
decreases-loop-row l = length l.journal.items
