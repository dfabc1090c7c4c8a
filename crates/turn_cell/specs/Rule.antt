-- The rule of a cell: what its queue holds and its passes know between any two atomic steps.
use Rattle.std.specs.Prelude.{◌≡◌, ◌≢◌, ◌⊎◌, ℕ, ◌<◌, ◌≤◌, ◌==◌, List, [], ◌∷◌, length, filter, Some, None}
use Rattle.turn_cell.specs.declared.view.Entry.{Entry}
use Rattle.turn_cell.specs.declared.view.View.{View}
use Rattle.turn_cell.specs.declared.view.Kept.{Kept}
use Rattle.turn_cell.specs.History.{after_of, state_at, IsHistory}
use Rattle.txt_core.specs.Shares.{WHOLE}
use Rattle.turn_cell.specs.Passes.{units_of, IsPass}

module _ {S C R : Type 0} where
  -- the entries at the places of the pass with this number; `owner` says whose each place is
  abbrev pub owned : (ℕ → ℕ) → ℕ → List (Entry S C R) → List (Entry S C R)
  owned owner port es = filter (λ e. owner e.place == port) es

  -- What a pass with this number knows of a history
  pub record Fits (history : List (Entry S C R)) (opening : S) (owner : ℕ → ℕ) (port : ℕ) (v : View S C R) : Type 0 where
    -- its own entries are those of the history at its places
    pub own : v.own ≡ owned owner port history
    -- they all lie below `seen`, and a pass that owns a place has a share
    pub below : (k : ℕ) → k < length history → owner k ≡ port → (k < v.seen) × (0 < v.units)
    -- a pass with a share has seen no turn that is not done, and knows the state at `seen` and the opening
    pub seen : 0 < v.units → v.seen ≤ length history
    pub low : 0 < v.units → v.low ≡ state_at opening history v.seen
    pub opens : 0 < v.units → v.opening ≡ opening

  -- The queue has the object and the number of turns so far, and no pass has the object
  pub record InQueue (items : List (Kept S)) (views : List (View S C R)) (count : ℕ) (now : S) : Type 0 where
    pub item : Kept S
    pub items_are : items ≡ item ∷ []
    pub counts : item.count ≡ count
    pub object : item.object.value ≡ now
    pub none : (port : ℕ) (v : View S C R) → IsPass views port v → v.held ≡ None

  -- The queue is empty, and one pass alone has the object
  pub record WithPass (items : List (Kept S)) (views : List (View S C R)) (count : ℕ) (now : S) : Type 0 where
    pub holder : ℕ
    pub by : View S C R
    pub items_are : items ≡ []
    pub at : IsPass views holder by
    pub shares : 0 < by.units
    pub has : by.held ≡ Some (count, now)
    pub others : (port : ℕ) (v : View S C R) → IsPass views port v → port ≢ holder → v.held ≡ None

  -- the object is in one place
  abbrev pub IsInOnePlace : List (Kept S) → List (View S C R) → ℕ → S → Type 0
  IsInOnePlace items views count now = InQueue items views count now ⊎ WithPass items views count now

module _ {S C R : Type 0} (allowed : S → Type 0) (step : S → C → R → S → Type 0) where
  -- The passes stand together: there is one legal history of `count` turns from the opening to now, each of its entries is one pass's own, and what each pass knows is true of it. A pass that was let go of keeps its number here, with its units and entries; one that another took in keeps its number with none
  pub record Stands (views : List (View S C R)) (count : ℕ) (now opening : S) : Type 0 where
    pub history : List (Entry S C R)
    pub owner : ℕ → ℕ
    pub counted : length history ≡ count
    pub opens : allowed opening
    pub legal : IsHistory allowed step 0 opening history
    pub ends : after_of opening history ≡ now
    pub whole : units_of views ≡ WHOLE
    pub placed : (k : ℕ) → k < count → owner k < length views
    pub fits : (port : ℕ) (v : View S C R) → IsPass views port v → Fits history opening owner port v

  -- The rule: the passes stand together, and the object is in one place
  abbrev pub RuleHolds : List (Kept S) → List (View S C R) → Type 0
  RuleHolds items views = (count : ℕ) × (now : S) × (opening : S) × Stands views count now opening × IsInOnePlace items views count now
