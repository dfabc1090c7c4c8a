-- What each step of a cell tells its caller.
use Rattle.std.specs.Prelude.{◌≡◌, ℕ, ◌+◌, ◌<◌, ◌≤◌, List, length, Option, Some}
use Rattle.turn_cell.specs.declared.view.Entry.{Entry}
use Rattle.turn_cell.specs.declared.view.View.{View}
use Rattle.turn_cell.specs.declared.view.Kept.{Kept}
use Rattle.txt_core.specs.Members.{Has}
use Rattle.turn_cell.specs.History.{after_of, Rising, IsHistory}
use Rattle.txt_core.specs.Shares.{WHOLE}
use Rattle.turn_cell.specs.Passes.{fresh, holding, turn_of, with_turn}

module _ {S C R : Type 0} where
  -- where two of the entries have the places k and k + 1, the second begins where the first ended
  abbrev pub IsLinked : List (Entry S C R) → Type 0
  IsLinked own = (e f : Entry S C R) → Has own e → Has own f → f.place ≡ e.place + 1 → f.before ≡ e.after

  -- The own entries stand in order of place, below `seen`, and are linked
  pub record IsInOrder (v : View S C R) : Type 0 where
    pub rising : Rising v.own
    pub below : (e : Entry S C R) → Has v.own e → e.place < v.seen
    pub linked : IsLinked v.own

  -- the push of a new cell: the pass has the whole share, and knows the opening
  abbrev pub Opens : View S C R → Kept S → View S C R → Type 0
  Opens v x w = w ≡ fresh WHOLE 0 x.object.value x.object.value

  -- a push after this call and reply, which were said: the pass that had the object has the entry of the turn
  abbrev pub Puts : Option (C × R) → View S C R → Kept S → View S C R → Type 0
  Puts said v x w = (count : ℕ) (before : S) (call : C) (reply : R) → v.held ≡ Some (count, before) → said ≡ Some (call, reply) → w ≡ with_turn v (turn_of count before call reply x.object.value)

module _ {S C R : Type 0} (allowed : S → Type 0) (reaches : S → S → Type 0) (step : S → C → R → S → Type 0) where
  -- What a pass that knows v is told by finding the object in this state after this many turns
  pub record Finds (v : View S C R) (count : ℕ) (now : S) : Type 0 where
    -- no turn that it has seen is undone
    pub place : v.seen ≤ count
    pub state : allowed now
    -- what it has seen, and what its own turns left, reaches the state
    pub low : reaches v.low now
    pub own : (e : Entry S C R) → Has v.own e → reaches e.after now
    -- with the whole share, its own entries are the whole history, which ends here
    pub whole : v.units ≡ WHOLE → IsHistory allowed step 0 v.opening v.own × (after_of v.opening v.own ≡ now) × (length v.own ≡ count)

  -- a pop that takes: the pass has the object as the queue held it
  abbrev pub Takes : View S C R → Kept S → View S C R → Type 0
  Takes v x w = (w ≡ holding v x.count x.object.value) × Finds v x.count x.object.value

  -- The entry may be the next one of a pass that knows v: the object was found so, and the step is legal between states that the type allows
  pub record IsNext (v : View S C R) (e : Entry S C R) : Type 0 where
    pub found : Finds v e.place e.before
    pub legal : step e.before e.call e.reply e.after
    pub allows : allowed e.before × allowed e.after

  -- A turn: the pass has one entry more, with this place, call and reply
  pub record Turns (v : View S C R) (place : ℕ) (call : C) (reply : R) (w : View S C R) : Type 0 where
    pub before : S
    pub after : S
    pub next : IsNext v (turn_of place before call reply after)
    pub adds : w ≡ with_turn v (turn_of place before call reply after)
