-- Why the acceptor stopped, and what the net then says.
use Rattle.std.specs.Prelude.{ℕ, ◌≡◌, ◌≢◌, ◌≤◌, true}
use Rattle.outside.specs.Faults.{Rose}
use Rattle.outside.specs.Guests.{NetState}
use Rattle.server_threads.specs.declared.accepting.Stop.{Stop}
use Rattle.server_threads.specs.declared.accepting.Stop.TheVariants.{Closed, Reached, Fault, NoMemory}

-- What each cause says: the net has ended; or so many connections were given as were asked for; or the net's count of
-- faults rose. Want of memory says nothing.
abbrev pub Cause : ℕ → NetState → Stop → NetState → Type 0
Cause connections before Closed after = after.ended ≡ true
Cause connections before Reached after = (connections ≢ 0) × (after.given ≡ connections)
Cause connections before Fault after = Rose before.faults after.faults
Cause connections before NoMemory after = Unit {0}

-- The cause holds, the count of faults didn't fall, and no more connections were given than were asked for.
pub record Stops (connections : ℕ) (before : NetState) (stop : Stop) (after : NetState) : Type 0 where
  pub faults : before.faults ≤ after.faults
  pub most : connections ≢ 0 → after.given ≤ connections
  pub cause : Cause connections before stop after
