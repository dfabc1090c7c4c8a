use Rattle.std.proofs.Common.{◌≡◌, vec_len}
use Rattle.txt_core.specs.Undoing.{undone}
use Rattle.txt_core.proofs.keyed.undo.Given as goal

-- what is left to undo brings back what the whole journal does
abbrev pub invariant-changes : goal.invariant-changes
invariant-changes g l = undone l.journal.items (g.K.Keyed.texts l.keyed) ≡ undone l.fn.journal.items (g.K.Keyed.texts l.fn.keyed)

abbrev pub decreases-changes : goal.decreases-changes
decreases-changes g l = vec_len l.journal
