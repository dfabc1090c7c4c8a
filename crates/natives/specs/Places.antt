-- Items at places.
use Rattle.std.specs.Prelude.{◌≡◌, ◌≢◌, ℕ, List, Option, None, get_or}

-- the item at a place, or none; there is none at a place behind the last
abbrev pub item_at : {A : Type 0} → List (Option A) → ℕ → Option A
item_at places at = get_or places at None

-- at each place stands what stood there before
abbrev pub HaveSameItems : {A : Type 0} → List (Option A) → List (Option A) → Type 0
HaveSameItems before now = (at : ℕ) → item_at now at ≡ item_at before at

-- this item stands at this place now, or none does, and at each other place stands what stood there before
abbrev pub IsSetAt : {A : Type 0} → List (Option A) → ℕ → Option A → List (Option A) → Type 0
IsSetAt before place item now = (item_at now place ≡ item) × ((at : ℕ) → at ≢ place → item_at now at ≡ item_at before at)
