-- What the calls on a net do.
use Rattle.std.specs.Prelude.{◌≡◌, ◌≤◌, Bool, true, false, List, [], ◌∷◌, Option, Some}
use Rattle.txt_core.specs.Names.{Bytes}
use Rattle.outside.specs.Faults.{Rose}
use Rattle.outside.specs.Calls.{counted}
use Rattle.outside.specs.Guests.{Guest, NetState}
use Rattle.outside.specs.declared.net.Accepted.{Accepted}
use Rattle.outside.specs.declared.net.Accepted.TheVariants.{Conn, Closed, Failed, NoMemory}

-- The net gave no connection yet, and hasn't ended.
abbrev pub IsNew : NetState → Type 0
IsNew net = (net.given ≡ 0) × (net.ended ≡ false)

-- Nothing but the count of faults may have changed, and that didn't fall.
pub record Keeps (before after : NetState) : Type 0 where
  pub faults : before.faults ≤ after.faults
  pub given : after.given ≡ before.given
  pub ended : after.ended ≡ before.ended
  pub coming : after.coming ≡ before.coming

-- A net listens, but where the count of faults rose.
pub record Listens (before : NetState) (listens : Bool) (after : NetState) : Type 0 where
  pub keeps : Keeps before after
  pub cause : listens ≡ false → Rose before.faults after.faults

-- One connection more was given. Where those still to come are told, it is the first of them, and the others are still
-- to come; and where its source tells what is left, that is all that its peer sends.
pub record Gives (before : NetState) (rest : Option Bytes) (peer : Bytes) (after : NetState) : Type 0 where
  pub faults : before.faults ≤ after.faults
  pub given : after.given ≡ counted before.given
  pub ended : after.ended ≡ before.ended
  pub first : (coming : List Guest) → before.coming ≡ Some coming
      → (guest : Guest) × (others : List Guest) × (coming ≡ guest ∷ others) × (peer ≡ guest.peer) × (rest ≡ Some guest.input) × (after.coming ≡ Some others)

-- The net has ended: no connection is left where they are told.
pub record Ends (before after : NetState) : Type 0 where
  pub faults : before.faults ≤ after.faults
  pub given : after.given ≡ before.given
  pub ended : after.ended ≡ true
  pub coming : after.coming ≡ before.coming
  pub none : (coming : List Guest) → before.coming ≡ Some coming → coming ≡ []

module _ {S K : Type 0} (rest : S → Option Bytes) where
  -- What an accept does; `rest` is what a source has left to give, where it tells that. It fails only where the count of
  -- faults rose.
  abbrev pub Accepts : NetState → Accepted S K → NetState → Type 0
  Accepts before (Conn source sink peer) after = Gives before (rest source) peer after
  Accepts before Closed after = Ends before after
  Accepts before Failed after = Keeps before after × Rose before.faults after.faults
  Accepts before NoMemory after = Keeps before after
