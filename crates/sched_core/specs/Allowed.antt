-- The states that a schedule can be in.
use Rattle.std.specs.Prelude.{◌≡◌, ◌<◌, ◌≤◌, ◌+◌, List, length, Contains}
use Rattle.txt_core.specs.Limits.{last_moment}
use Rattle.sched_core.specs.Entries.{Entry, State, due_of, id_of, AreInOrder, most_seconds, most_entries}

-- each entry runs every 1 to 31,536,000 seconds, and is due at most that long after the year 9999
abbrev pub AreSound : List Entry → Type 0
AreSound es = (e : Entry) → Contains es e → (1 ≤ e.1.seconds) × (e.1.seconds ≤ most_seconds) × (due_of e ≤ last_moment + most_seconds)

-- no two entries have one id
abbrev pub HaveOwnIds : List Entry → Type 0
HaveOwnIds es = (e f : Entry) → Contains es e → Contains es f → id_of e ≡ id_of f → e ≡ f

-- at most so many entries, in order, sound, with ids of their own that are below the next one
pub record Allowed (s : State) : Type 0 where
  pub few : length s.entries ≤ most_entries
  pub in_order : AreInOrder s.entries
  pub sound : AreSound s.entries
  pub own_ids : HaveOwnIds s.entries
  pub given : (e : Entry) → Contains s.entries e → id_of e < s.next
