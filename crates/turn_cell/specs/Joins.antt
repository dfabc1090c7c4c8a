-- What a join does to what two passes know.
use Rattle.std.specs.Prelude.{◌≡◌, ◌≢◌, ◌⊎◌, ◌↔◌, ◌≤◌, List, ◌++◌, IsPermutation}
use Rattle.turn_cell.specs.declared.view.Entry.{Entry}
use Rattle.turn_cell.specs.declared.view.View.{View}
use Rattle.txt_core.specs.Members.{Has}
use Rattle.turn_cell.specs.History.{Rising}
use Rattle.turn_cell.specs.Passes.{merged, joined}

module _ (S C R : Type 0) where
  -- the entries are those of both, each as often
  abbrev pub MergedIsPermutation : Type 0
  MergedIsPermutation = (es fs : List (Entry S C R)) → IsPermutation (es ++ fs) (merged es fs)

  -- an entry stands in it where it stands in either
  abbrev pub MergedHas : Type 0
  MergedHas = (es fs : List (Entry S C R)) (e : Entry S C R) → Has (merged es fs) e ↔ (Has es e ⊎ Has fs e)

  -- where both are in order of place and share no place, so is it
  abbrev pub MergedRises : Type 0
  MergedRises = (es fs : List (Entry S C R)) → Rising es → Rising fs → ((e f : Entry S C R) → Has es e → Has fs f → e.place ≢ f.place) → Rising (merged es fs)

  -- there is one list with these entries in order of place, so how it is put together makes no difference
  abbrev pub RisingIsOne : Type 0
  RisingIsOne = (es fs : List (Entry S C R)) → Rising es → Rising fs → ((e : Entry S C R) → Has es e ↔ Has fs e) → es ≡ fs

  -- `seen` is the greater one, and comes with its `low`
  abbrev pub JoinedSees : Type 0
  JoinedSees = (v w : View S C R) → let j = joined v w in (v.seen ≤ j.seen) × (w.seen ≤ j.seen) × (((j.seen ≡ v.seen) × (j.low ≡ v.low)) ⊎ ((j.seen ≡ w.seen) × (j.low ≡ w.low)))
