-- What a pass knows, and what it becomes by a split, a join and a turn.
use Rattle.std.specs.Prelude.{◌≡◌, ℕ, ◌+◌, ◌-◌, List, [], ◌∷◌, ◌++◌, cond, nat_lt, Some, None}
use mathlib.Core.Option.{some}
use lib.ListN.{get_elem?}
use Rattle.turn_cell.specs.declared.view.Entry.{Entry}
use Rattle.turn_cell.specs.declared.view.View.{View}
use Rattle.txt_core.specs.Members.{Has}
use Rattle.txt_core.specs.Merging as merging

module _ {S C R : Type 0} where
  -- a pass with these units and no own entry, which has seen this many turns
  abbrev pub fresh : ℕ → ℕ → S → S → View S C R
  fresh units seen opening low = record { units = units; seen = seen; opening = opening; low = low; own = []; held = None }

  -- after a split: one unit of the share moved to a new pass
  abbrev pub less_one : View S C R → View S C R
  less_one v = record v { units = v.units - 1 }

  -- the new pass of a split, which has seen as much and has no own entry
  abbrev pub part_of : View S C R → View S C R
  part_of v = fresh 1 v.seen v.opening v.low

  -- the same pass while it has the object, which was taken out after this many turns
  abbrev pub holding : View S C R → ℕ → S → View S C R
  holding v count object = record v { held = Some (count, object) }

  -- the entry of a turn
  abbrev pub turn_of : ℕ → S → C → R → S → Entry S C R
  turn_of place before call reply after = record { place = place; before = before; call = call; reply = reply; after = after }

  -- after a turn: its entry is the last own one, and all up to it was seen
  abbrev pub with_turn : View S C R → Entry S C R → View S C R
  with_turn v e = record { units = v.units; seen = e.place + 1; opening = v.opening; low = e.after; own = v.own ++ e ∷ []; held = None }

  -- the entry goes in front of the first one with a greater place
  abbrev pub put_in : Entry S C R → List (Entry S C R) → List (Entry S C R)
  put_in = merging.put_in (λ (e : Entry S C R). e.place)

  -- the entries of both, in order of place
  abbrev pub merged : List (Entry S C R) → List (Entry S C R) → List (Entry S C R)
  merged = merging.merged (λ (e : Entry S C R). e.place)

  -- after a join: the units of both, the entries of both in order of place, and the greater `seen` with its `low`
  abbrev pub joined : View S C R → View S C R → View S C R
  joined v w = record {
    units = v.units + w.units;
    seen = cond (nat_lt v.seen w.seen) w.seen v.seen;
    opening = v.opening;
    low = cond (nat_lt v.seen w.seen) w.low v.low;
    own = merged v.own w.own;
    held = None;
  }

  -- the sum of the units
  abbrev pub units_of : List (View S C R) → ℕ
  units_of [] = 0
  units_of (v ∷ vs) = v.units + units_of vs

  -- the pass with this number knows v
  abbrev pub IsPass : List (View S C R) → ℕ → View S C R → Type 0
  IsPass views port v = get_elem? views port ≡ some v

  -- the entry is an own one of the pass with this number
  abbrev pub IsOwn : List (View S C R) → ℕ → Entry S C R → Type 0
  IsOwn views port e = (v : View S C R) × IsPass views port v × Has v.own e
