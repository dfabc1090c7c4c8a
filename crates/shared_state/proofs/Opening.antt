-- A schedule is known by its parts.
use Rattle.std.proofs.Common.{◌≡◌, [], false}
use Rattle.sched_core.specs.Entries.{State}
use Rattle.shared_state.specs.Views.{empty_schedule}

pub is_no_schedule : (s : State) → (s.next ≡ 0) × (s.entries ≡ []) × (s.stopped ≡ false) → s ≡ empty_schedule
is_no_schedule s h = λ i. record { next = h.0 i; entries = h.1 i; stopped = h.2 i }
