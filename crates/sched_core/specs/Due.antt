-- What is due at a moment, and the entries afterwards.
use Rattle.std.specs.Prelude.{◌≡◌, ◌⊎◌, ◌↔◌, ℕ, ◌+◌, ◌*◌, ◌<◌, ◌≤◌, Bool, false, not, nat_lt, List, Contains}
use Rattle.txt_core.specs.Names.{Moment}
use Rattle.sched_core.specs.declared.call.DueScript.{DueScript}
use Rattle.sched_core.specs.Entries.{Entry, due_of, id_of}

-- the entry is due only after now
abbrev pub is_later : Moment → Entry → Bool
is_later now e = nat_lt now (due_of e)

-- the entry is due at now, or was before
abbrev pub is_due : Moment → Entry → Bool
is_due now e = not (is_later now e)

-- what an answer lists of an entry
abbrev pub listed : Entry → DueScript
listed e = record { id = id_of e; script = e.1.script }

-- the moment is the due one and a whole number of times the seconds
abbrev pub IsInStep : Moment → ℕ → Moment → Type 0
IsInStep due seconds moment = (times : ℕ) × (moment ≡ due + times * seconds)

-- the next due moment: the least that is after now and in step
pub record IsNext (now due : Moment) (seconds : ℕ) (next : Moment) : Type 0 where
  pub later : now < next
  pub in_step : IsInStep due seconds next
  pub least : (moment : Moment) → now < moment → IsInStep due seconds moment → next ≤ moment

-- the entry is one of these that is due and doesn't run once, moved on to its next due moment
pub record IsMoved (now : Moment) (es : List Entry) (e : Entry) : Type 0 where
  pub before : Entry
  pub was : Contains es before
  pub due : due_of before ≤ now
  pub again : before.1.once ≡ false
  pub same : (id_of e ≡ id_of before) × (e.1 ≡ before.1)
  pub next : IsNext now (due_of before) before.1.seconds (due_of e)

-- the entries afterwards are those that aren't due, and those that moved on
abbrev pub IsAfterDue : Moment → List Entry → List Entry → Type 0
IsAfterDue now es fs = (e : Entry) → Contains fs e ↔ ((Contains es e × (now < due_of e)) ⊎ IsMoved now es e)
