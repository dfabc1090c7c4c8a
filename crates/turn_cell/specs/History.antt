-- The history of an object: its turns in order.
use Rattle.std.specs.Prelude.{◌≡◌, ℕ, suc, ◌<◌, List, [], ◌∷◌, take}
use Rattle.turn_cell.specs.declared.view.Entry.{Entry}
use Rattle.turn_cell.specs.declared.view.View.{View}
use Rattle.txt_core.specs.Members.{Has}

module _ {S C R : Type 0} where
  -- the state after all entries: the last one's after, or the first state where there is none
  abbrev pub after_of : S → List (Entry S C R) → S
  after_of s [] = s
  after_of s (e ∷ es) = after_of e.after es

  -- the state when n turns had been done
  abbrev pub state_at : S → List (Entry S C R) → ℕ → S
  state_at s es n = after_of s (take n es)

  -- the places rise
  abbrev pub Rising : List (Entry S C R) → Type 0
  Rising [] = Unit {0}
  Rising (e ∷ es) = ((f : Entry S C R) → Has es f → e.place < f.place) × Rising es

module _ {S C R : Type 0} (allowed : S → Type 0) (step : S → C → R → S → Type 0) where
  -- the entry has this place, begins in this state, is legal, and leaves a state that the type allows
  abbrev pub IsTurn : ℕ → S → Entry S C R → Type 0
  IsTurn place before e = (e.place ≡ place) × (e.before ≡ before) × step e.before e.call e.reply e.after × allowed e.after

  -- the entries have the places from n on, each once; the first begins in s, each next one where the one before it ended, and each is legal
  abbrev pub IsHistory : ℕ → S → List (Entry S C R) → Type 0
  IsHistory n s [] = Unit {0}
  IsHistory n s (e ∷ es) = IsTurn n s e × IsHistory (suc n) e.after es

  -- the own entries of a pass are a whole history from the opening, and this state is what it ended in
  abbrev pub EndsIn : View S C R → S → Type 0
  EndsIn v state = IsHistory 0 v.opening v.own × (state ≡ after_of v.opening v.own)
