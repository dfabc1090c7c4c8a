-- The definitions at a few rows: a count that each turn raises by one, with the new count as the reply.
use Rattle.std.proofs.Common.{◌≡◌, ℕ, ◌+◌, [], ◌∷◌, refl, arith}
use Rattle.turn_cell.specs.declared.view.Entry.{Entry}
use Rattle.turn_cell.specs.declared.view.View.{View}
use Rattle.turn_cell.specs.History.{after_of, state_at, IsHistory}
use Rattle.turn_cell.specs.Passes.{fresh, turn_of, with_turn, merged, joined}
use Rattle.turn_cell.specs.Chains.{seen_after}

abbrev Row : Type 0
Row = Entry ℕ ℕ ℕ

abbrev Step : ℕ → ℕ → ℕ → ℕ → Type 0
Step s call reply t = (t ≡ s + 1) × (reply ≡ t)

-- the count was 7 when the object was put in
abbrev zeroth : Row
zeroth = turn_of 0 7 0 8 8

abbrev first : Row
first = turn_of 1 8 0 9 9

abbrev second : Row
second = turn_of 2 9 0 10 10

-- two passes of one split, of which one took the turns 0 and 2, the other the turn 1
abbrev even : View ℕ ℕ ℕ
even = with_turn (with_turn (fresh 65535 0 7 7) zeroth) second

abbrev odd : View ℕ ℕ ℕ
odd = with_turn (fresh 1 0 7 7) first

pub in_order : merged (zeroth ∷ second ∷ []) (first ∷ []) ≡ zeroth ∷ first ∷ second ∷ []
in_order = refl

pub ends : after_of 7 (zeroth ∷ first ∷ second ∷ []) ≡ 10
ends = refl

pub between : state_at 7 (zeroth ∷ first ∷ second ∷ []) 2 ≡ 9
between = refl

pub sees : seen_after 0 (zeroth ∷ second ∷ []) ≡ 3
sees = refl

-- the joined pass has all units, all three turns, and the state after them, whichever takes in the other
pub all_units : (joined even odd).units ≡ 65536
all_units = refl

pub all_turns : (joined odd even).own ≡ zeroth ∷ first ∷ second ∷ []
all_turns = refl

pub greater_seen : (joined odd even).seen ≡ 3
greater_seen = refl

pub its_low : (joined odd even).low ≡ 10
its_low = refl

pub its_low_too : (joined even odd).low ≡ 10
its_low_too = refl

pub is_history : IsHistory (λ (s : ℕ). Unit {0}) Step 0 7 (zeroth ∷ first ∷ second ∷ [])
is_history = ((refl, refl, (refl, refl), tt), ((refl, refl, (refl, refl), tt), ((refl, refl, (refl, refl), tt), tt)))

-- a place left out is no history
pub with_a_gap : IsHistory (λ (s : ℕ). Unit {0}) Step 0 7 (zeroth ∷ second ∷ []) → ⊥
with_a_gap h = let place = h.1.0.0 in omega arith

-- a turn that begins elsewhere than the one before it ended is none
pub from_elsewhere : IsHistory (λ (s : ℕ). Unit {0}) Step 0 7 (zeroth ∷ turn_of 1 7 0 8 8 ∷ []) → ⊥
from_elsewhere h = let before = h.1.0.1 in omega arith
