-- What each call does: the reply, and the schedule after it.
use Rattle.std.specs.Prelude.{◌≡◌, ◌≢◌, ◌⊎◌, ◌↔◌, ℕ, ◌+◌, min, max, Bool, true, false, map, filter, length, Contains}
use Rattle.txt_core.specs.Names.{Bytes, Moment}
use Rattle.txt_core.specs.Limits.{moment_of}
use Rattle.sched_core.specs.declared.call.SchedCall.{SchedCall}
use Rattle.sched_core.specs.declared.call.SchedCall.TheVariants.{Add, Cancel, Due, Stop}
use Rattle.sched_core.specs.declared.call.SchedReply.{SchedReply}
use Rattle.sched_core.specs.declared.call.SchedReply.TheVariants as replies
use Rattle.sched_core.specs.Entries.{Entry, State, id_of, most_seconds, most_entries, last_id}
use Rattle.sched_core.specs.Due.{is_due, listed, IsAfterDue}
use Rattle.sched_core.specs.Allowed.{Allowed}

-- no seconds count as one, and more than a year's as a year's
abbrev pub seconds_of : ℕ → ℕ
seconds_of seconds = min (max seconds 1) most_seconds

-- the entry that `Add` makes: due so many seconds after its moment
abbrev pub entry_of : ℕ → Moment → ℕ → Bool → Bytes → Entry
entry_of id moment seconds once script = ((moment_of moment + seconds_of seconds, id), record { seconds = seconds_of seconds; once = once; script = script })

-- as many entries as there may be, or no id left
abbrev pub IsFull : State → Type 0
IsFull s = (length s.entries ≡ most_entries) ⊎ (s.next ≡ last_id)

-- `Add` gives the next id and puts the entry in. It is refused exactly where the schedule is full
abbrev pub Adds : State → (ℕ → Entry) → SchedReply → State → Type 0
Adds s made (replies.Id id) t = (IsFull s → ⊥) × (id ≡ s.next) × (t.next ≡ s.next + 1) × (t.stopped ≡ s.stopped) × ((e : Entry) → Contains t.entries e ↔ (Contains s.entries e ⊎ (e ≡ made id)))
Adds s made replies.Full t = IsFull s × (t ≡ s)
Adds s made replies.NoMemory t = (IsFull s → ⊥) × (t ≡ s)
Adds s made _ t = ⊥

-- `Cancel` takes out the entry of this id, and answers `NoId` exactly where there is none
abbrev pub Cancels : State → ℕ → SchedReply → State → Type 0
Cancels s id replies.Cancelled t = ((e : Entry) × Contains s.entries e × (id_of e ≡ id)) × (t.next ≡ s.next) × (t.stopped ≡ s.stopped) × ((e : Entry) → Contains t.entries e ↔ (Contains s.entries e × (id_of e ≢ id)))
Cancels s id replies.NoId t = ((e : Entry) → Contains s.entries e → id_of e ≢ id) × (t ≡ s)
Cancels s id _ t = ⊥

-- `Due` lists the entries that are due, in their order, and moves on or takes out each of them. After a stop it lists nothing
abbrev pub Runs : State → Moment → SchedReply → State → Type 0
Runs s now (replies.Due list) t = (s.stopped ≡ false) × (list ≡ map listed (filter (is_due now) s.entries)) × (t.next ≡ s.next) × (t.stopped ≡ s.stopped) × IsAfterDue now s.entries t.entries
Runs s now replies.Stopped t = (s.stopped ≡ true) × (t ≡ s)
Runs s now replies.NoMemory t = (s.stopped ≡ false) × (t ≡ s)
Runs s now _ t = ⊥

-- `Stop` answers `Stopped` always
abbrev pub Stops : State → SchedReply → State → Type 0
Stops s replies.Stopped t = (t.next ≡ s.next) × (t.entries ≡ s.entries) × (t.stopped ≡ true)
Stops s _ t = ⊥

-- the call takes the first state to this reply and the second state
abbrev pub ScheduleSteps : State → SchedCall → SchedReply → State → Type 0
ScheduleSteps s (Add moment seconds once script) reply t = Adds s (λ id. entry_of id moment seconds once script) reply t
ScheduleSteps s (Cancel id) reply t = Cancels s id reply t
ScheduleSteps s (Due now) reply t = Runs s (moment_of now) reply t
ScheduleSteps s Stop reply t = Stops s reply t

-- a call on an allowed state has one reply and one state after it, but for want of memory
abbrev pub StepsAreDetermined : Type 0
StepsAreDetermined = (s t u : State) (call : SchedCall) (reply other : SchedReply) → Allowed s → Allowed t → Allowed u → ScheduleSteps s call reply t → ScheduleSteps s call other u → reply ≢ replies.NoMemory → other ≢ replies.NoMemory → (reply ≡ other) × (t ≡ u)
