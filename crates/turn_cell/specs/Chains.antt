-- Several turns of one pass in a row, and their laws.
use Rattle.std.specs.Prelude.{◌≡◌, ◌↔◌, ℕ, ◌+◌, ◌<◌, ◌≤◌, List, [], ◌∷◌, ◌++◌}
use Rattle.turn_cell.specs.declared.view.Entry.{Entry}
use Rattle.turn_cell.specs.declared.view.View.{View}
use Rattle.txt_core.specs.Members.{Has}
use Rattle.turn_cell.specs.History.{after_of, Rising}
use Rattle.turn_cell.specs.Passes.{with_turn}
use Rattle.turn_cell.specs.Steps.{IsNext, Turns}

module _ {S C R : Type 0} where
  -- what was seen after these turns: all up to the last of them
  abbrev pub seen_after : ℕ → List (Entry S C R) → ℕ
  seen_after n [] = n
  seen_after n (e ∷ es) = seen_after (e.place + 1) es

module _ {S C R : Type 0} (allowed : S → Type 0) (reaches : S → S → Type 0) (step : S → C → R → S → Type 0) where
  -- the pass took these turns one after the other, each found where the pass then stood, and knows w after them
  abbrev pub TakesTurns : View S C R → List (Entry S C R) → View S C R → Type 0
  TakesTurns v [] w = w ≡ v
  TakesTurns v (e ∷ es) w = IsNext allowed reaches step v e × TakesTurns (with_turn v e) es w

  -- What turns in a row leave of what a pass knows
  pub record IsAfter (v : View S C R) (es : List (Entry S C R)) (w : View S C R) : Type 0 where
    pub units : w.units ≡ v.units
    pub opening : w.opening ≡ v.opening
    -- the entries stand behind the earlier own ones, in this order
    pub own : w.own ≡ v.own ++ es
    -- `seen` is one above the last of them, and `low` its after
    pub seen : w.seen ≡ seen_after v.seen es
    pub low : w.low ≡ after_of v.low es
    -- neither goes back
    pub sees : v.seen ≤ w.seen
    pub lasts : reaches v.low w.low

  -- What an entry of turns in a row is, beside its neighbours
  pub record IsBetween (v : View S C R) (e : Entry S C R) (w : View S C R) : Type 0 where
    pub legal : step e.before e.call e.reply e.after
    pub allows : allowed e.before × allowed e.after
    -- it lies behind all that the pass had seen: its place, and the state that it found
    pub place : v.seen ≤ e.place
    pub low : reaches v.low e.before
    pub own : (f : Entry S C R) → Has v.own f → reaches f.after e.before
    -- and all that the pass saw after it lies behind it
    pub seen : e.place < w.seen
    pub leaves : reaches e.after w.low

  -- a turn is a chain of one entry, and a chain of one entry is a turn
  abbrev pub SingleTurns : Type 0
  SingleTurns = (v w : View S C R) (place : ℕ) (call : C) (reply : R)
      → Turns allowed reaches step v place call reply w ↔ ((e : Entry S C R) × (e.place ≡ place) × (e.call ≡ call) × (e.reply ≡ reply) × TakesTurns v (e ∷ []) w)

  -- two chains in a row are one, and one may be cut anywhere
  abbrev pub ChainsInARow : Type 0
  ChainsInARow = (v w : View S C R) (es fs : List (Entry S C R)) → TakesTurns v (es ++ fs) w ↔ ((m : View S C R) × TakesTurns v es m × TakesTurns m fs w)

  -- what `units`, `opening`, `own`, `seen` and `low` are after a chain
  abbrev pub ChainsLeave : Type 0
  ChainsLeave = (v w : View S C R) (es : List (Entry S C R)) → TakesTurns v es w → IsAfter v es w

  -- each entry of a chain is legal and no older than what was seen before it
  abbrev pub ChainsFollow : Type 0
  ChainsFollow = (v w : View S C R) (es : List (Entry S C R)) → TakesTurns v es w → (e : Entry S C R) → Has es e → IsBetween v e w

  -- the places of a chain rise
  abbrev pub ChainsRise : Type 0
  ChainsRise = (v w : View S C R) (es : List (Entry S C R)) → TakesTurns v es w → Rising es
