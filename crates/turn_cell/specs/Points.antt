-- What the rule of a cell says of its passes, point by point, with no word of the history or of whose a place is.
use Rattle.std.specs.Prelude.{◌≡◌, ℕ, ◌+◌, ◌<◌, ◌≤◌, List, []}
use Rattle.turn_cell.specs.declared.view.Entry.{Entry}
use Rattle.turn_cell.specs.declared.view.View.{View}
use Rattle.turn_cell.specs.declared.view.Kept.{Kept}
use Rattle.txt_core.specs.Members.{Has}
use Rattle.turn_cell.specs.History.{Rising}
use Rattle.txt_core.specs.Shares.{WHOLE}
use Rattle.turn_cell.specs.Passes.{units_of, IsPass, IsOwn}
use Rattle.turn_cell.specs.Rule.{IsInOnePlace, RuleHolds}

module _ {S C R : Type 0} (allowed : S → Type 0) (reaches : S → S → Type 0) (step : S → C → R → S → Type 0) where
  -- The passes stand together at `count` turns and the state `now`. They are all that were ever made: one that was let go of among them, and one that another took in, with no unit
  pub record Points (views : List (View S C R)) (count : ℕ) (now opening : S) : Type 0 where
    -- Shares: the units are 65,536 in all, and a pass with none has no entry
    pub whole : units_of views ≡ WHOLE
    pub spent : (port : ℕ) (v : View S C R) → IsPass views port v → v.units ≡ 0 → v.own ≡ []
    -- Places: each place below the count stands in one own entry of one pass, no other place in any; a pass's own places rise
    pub each : (k : ℕ) → k < count → (port : ℕ) × (e : Entry S C R) × IsOwn views port e × (e.place ≡ k)
    pub once : (i j : ℕ) (e f : Entry S C R) → IsOwn views i e → IsOwn views j f → e.place ≡ f.place → (i ≡ j) × (e ≡ f)
    pub below : (i : ℕ) (e : Entry S C R) → IsOwn views i e → e.place < count
    pub rising : (port : ℕ) (v : View S C R) → IsPass views port v → Rising v.own
    -- Legal: each entry is a step of the object
    pub legal : (i : ℕ) (e : Entry S C R) → IsOwn views i e → step e.before e.call e.reply e.after
    -- Order: the entry at place 0 begins in the opening, each next one where the one before it ended, and the last ended in `now`; with none, `now` is the opening
    pub first : (i : ℕ) (e : Entry S C R) → IsOwn views i e → e.place ≡ 0 → e.before ≡ opening
    pub next : (i j : ℕ) (e f : Entry S C R) → IsOwn views i e → IsOwn views j f → f.place ≡ e.place + 1 → f.before ≡ e.after
    pub last : (i : ℕ) (e : Entry S C R) → IsOwn views i e → e.place + 1 ≡ count → e.after ≡ now
    pub none : count ≡ 0 → now ≡ opening
    -- Seen: of a pass with a share, `seen` is at most the count and above each own place; `low` is the after of the entry just below `seen`, or the opening where `seen` is 0
    pub seen : (port : ℕ) (v : View S C R) → IsPass views port v → 0 < v.units → (v.seen ≤ count) × (v.opening ≡ opening) × ((e : Entry S C R) → Has v.own e → e.place < v.seen)
    pub low_first : (port : ℕ) (v : View S C R) → IsPass views port v → 0 < v.units → v.seen ≡ 0 → v.low ≡ opening
    pub low : (port : ℕ) (v : View S C R) → IsPass views port v → 0 < v.units → (j : ℕ) (e : Entry S C R) → IsOwn views j e → e.place + 1 ≡ v.seen → v.low ≡ e.after
    -- Reach: each `low` and each own after reaches `now`
    pub low_reaches : (port : ℕ) (v : View S C R) → IsPass views port v → 0 < v.units → reaches v.low now
    pub own_reaches : (i : ℕ) (e : Entry S C R) → IsOwn views i e → reaches e.after now
    -- Allowed: the opening, `now`, each `low`, and each before and after of an own entry are states that the type allows
    pub allowed_ends : allowed opening × allowed now
    pub allowed_low : (port : ℕ) (v : View S C R) → IsPass views port v → 0 < v.units → allowed v.low
    pub allowed_own : (i : ℕ) (e : Entry S C R) → IsOwn views i e → allowed e.before × allowed e.after

  -- whatever the queue holds and the passes know under the rule, the points hold of it, and the object is in one place
  abbrev pub RuleSays : Type 0
  RuleSays = (items : List (Kept S)) (views : List (View S C R)) → RuleHolds allowed step items views
      → (count : ℕ) × (now : S) × (opening : S) × Points views count now opening × IsInOnePlace items views count now
