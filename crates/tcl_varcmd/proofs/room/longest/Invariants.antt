use Rattle.std.proofs.Common.{ℕ, ◌≤◌, ◌<◌, [], length, get_or}
use Rattle.tcl_varcmd.proofs.room.longest.Given as goal

-- none of the names up to here is longer
abbrev pub invariant-names : goal.invariant-names
invariant-names l = (k : ℕ) → k < l.name-index → length (get_or l.names k []) ≤ l.most
