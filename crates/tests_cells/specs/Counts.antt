-- How many turns a pass took.
use Rattle.std.specs.Prelude.{◌≡◌, ℕ, ◌+◌, length}
use Rattle.turn_cell.specs.declared.view.View.{View}

-- the pass has so many own entries more, with the share and the opening that it had
abbrev pub TakesCount : {S C R : Type 0} → View S C R → ℕ → View S C R → Type 0
TakesCount v n w = (w.units ≡ v.units) × (w.opening ≡ v.opening) × (length w.own ≡ length v.own + n)
