-- What a rehearsal does to its source and its sink.
use Rattle.std.specs.Prelude.{◌≡◌, ℕ, ◌<◌, ◌≤◌, List, [], ◌++◌, length, take, Option, Some}
use Rattle.txt_core.specs.Names.{Bytes, Names}
use Rattle.outside.specs.Faults.{Rose}
use Rattle.outside.specs.Reading.{Gives}
use Rattle.outside.specs.Writing.{Gains}
use Rattle.rehearse.specs.declared.answer.Rehearsal.{Rehearsal}
use Rattle.rehearse.specs.declared.answer.Rehearsal.TheVariants.{Done, BadEvent, ReadFault, WriteFault, NoMemory}
use Rattle.rehearse.specs.Events.{Event}
use Rattle.rehearse.specs.Lines.{Line, listing_of}
use Rattle.rehearse.specs.Files.{End, whole, bad, Opens, Holds}
use Rattle.rehearse.specs.World.{World}

-- What the source and the sink tell of themselves.
pub record Outside : Type 0 where
  -- the bytes that the source has left to give, where it tells them
  pub input : Option Bytes
  -- how many faults the source has met
  pub read_faults : ℕ
  -- the bytes that the sink has taken, where it tells them
  pub output : Option Bytes
  -- how many faults the sink has met
  pub write_faults : ℕ

abbrev pub outside_of : Option Bytes → ℕ → Option Bytes → ℕ → Outside
outside_of input read_faults output write_faults =
    record { input = input; read_faults = read_faults; output = output; write_faults = write_faults }

-- No count of faults fell.
abbrev pub KeepsCounts : Outside → Outside → Type 0
KeepsCounts before after = (before.read_faults ≤ after.read_faults) × (before.write_faults ≤ after.write_faults)

-- The whole input, where it is told, holds these events.
abbrev pub InputHolds : Names → Option Bytes → List Event → List Line → End → Type 0
InputHolds natives told events lines end = (input : Bytes) → told ≡ Some input → Holds natives input events lines end

-- These entries are the first ones of the listing of whatever the whole input, where it is told, holds.
abbrev pub AreFirst : Names → Option Bytes → List Line → Type 0
AreFirst natives told lines =
    (input : Bytes) → told ≡ Some input → (events : List Event) (all : List Line) (end : End) → Holds natives input events all end
    → (others : List Line) × (all ≡ lines ++ others)

-- These bytes are a proper front of the listing of whatever the whole input, where it is told, holds.
abbrev pub IsProperFront : Names → Option Bytes → Bytes → Type 0
IsProperFront natives told bytes =
    (input : Bytes) → told ≡ Some input → (events : List Event) (all : List Line) (end : End) → Holds natives input events all end
    → (rest : Bytes) × (¬ (rest ≡ [])) × (listing_of all ≡ bytes ++ rest)

-- The source gave these bytes, from the front of its input, and they hold these events.
pub record Performs (natives : Names) (before after : Outside) (given : Bytes) (events : List Event) (lines : List Line) (end : End) : Type 0 where
  pub read : Gives before.input given after.input
  pub holds : Holds natives given events lines end

-- The input was read to its end, it holds events and nothing else, and their listing was written.
pub record AllDone (natives : Names) (before after : Outside) : Type 0 where
  pub given : Bytes
  pub events : List Event
  pub lines : List Line
  pub performs : Performs natives before after given events lines whole
  pub input : InputHolds natives before.input events lines whole
  pub at_end : (input : Bytes) → before.input ≡ Some input → after.input ≡ Some []
  pub written : Gains before.output (listing_of lines) after.output

-- The event of this number is none and all before it are, and the listing of those was written.
pub record HadBadEvent (natives : Names) (before after : Outside) (event : ℕ) : Type 0 where
  pub given : Bytes
  pub events : List Event
  pub lines : List Line
  pub performs : Performs natives before after given events lines (bad event)
  pub input : InputHolds natives before.input events lines (bad event)
  pub written : Gains before.output (listing_of lines) after.output

-- The source failed, so its count rose, and the listing of the whole events among the bytes that it had given was written.
pub record HadReadFault (natives : Names) (before after : Outside) : Type 0 where
  pub given : Bytes
  pub events : List Event
  pub lines : List Line
  pub end : End
  pub performs : Performs natives before after given events lines end
  pub written : Gains before.output (listing_of lines) after.output
  pub rose : Rose before.read_faults after.read_faults

-- Of the bytes that the source gave, so many first events were played, with these lines.
pub record PlaysFirst (natives : Names) (before after : Outside) (lines : List Line) : Type 0 where
  pub given : Bytes
  pub events : List Event
  pub world : World
  pub left : Bytes
  pub read : Gives before.input given after.input
  pub opens : Opens natives given events lines world left
  pub input : AreFirst natives before.input lines

-- The sink failed, so its count rose, when it had taken the first so many bytes of the listing of the first events of the input, and
-- not all of it; and these are a proper front of the listing of the whole input, where that is told.
pub record HadWriteFault (natives : Names) (before after : Outside) (sent : ℕ) : Type 0 where
  pub lines : List Line
  pub played : PlaysFirst natives before after lines
  pub sent_less : sent < length (listing_of lines)
  pub front : IsProperFront natives before.input (take sent (listing_of lines))
  pub written : Gains before.output (take sent (listing_of lines)) after.output
  pub rose : Rose before.write_faults after.write_faults

-- Memory ran out: of the bytes that the source had given, so many first events were played, and their listing was written.
pub record RanOut (natives : Names) (before after : Outside) : Type 0 where
  pub lines : List Line
  pub played : PlaysFirst natives before after lines
  pub written : Gains before.output (listing_of lines) after.output

-- What a rehearsal does, by its answer.
abbrev pub Ends : Names → Outside → Rehearsal → Outside → Type 0
Ends natives before Done after = AllDone natives before after
Ends natives before (BadEvent event) after = HadBadEvent natives before after event
Ends natives before ReadFault after = HadReadFault natives before after
Ends natives before (WriteFault sent) after = HadWriteFault natives before after sent
Ends natives before NoMemory after = RanOut natives before after

-- What a rehearsal does where the natives have these names.
abbrev pub Rehearses : Names → Outside → Rehearsal → Outside → Type 0
Rehearses natives before answer after = KeepsCounts before after × Ends natives before answer after
