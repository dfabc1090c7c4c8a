-- The reading of a file as events.
use Rattle.std.specs.Prelude.{◌≡◌, ℕ, ◌+◌, ◌≤◌, List, [], ◌++◌, length}
use Rattle.txt_core.specs.Names.{Bytes, Names}
use Rattle.rehearse.specs.Events.{Event, spelled, most_file, file_of}
use Rattle.rehearse.specs.Lines.{Line}
use Rattle.rehearse.specs.World.{World, opening}
use Rattle.rehearse.specs.Plays.{MayCome, Lists}

-- An event comes next: what is left begins with it, it ends in time, and it may come in this world. What would come of it is not asked.
pub record ComesNext (world : World) (place : ℕ) (left : Bytes) (e : Event) : Type 0 where
  pub rest : Bytes
  pub spelled_here : left ≡ spelled e ++ rest
  pub in_time : place + length (spelled e) ≤ most_file
  pub may_come : MayCome world e

-- How a file ends.
pub data End : Type 0 where
  -- behind its last event
  whole : End
  -- with something that is no event: the number is that of the event which should stand there, from 1
  bad : (event : ℕ) → End

-- The end behind these events, in this world, with so much left.
abbrev pub EndsAs : End → World → List Event → Bytes → Type 0
EndsAs whole world events left = left ≡ []
EndsAs (bad event) world events left =
    (event ≡ length events + 1) × ¬ (left ≡ []) × ((e : Event) → ¬ (ComesNext world (length (file_of events)) left e))

-- The text is these events, which give this listing and lead to this world, and then what is left. The natives have these names.
pub record Opens (natives : Names) (text : Bytes) (events : List Event) (lines : List Line) (world : World) (left : Bytes) : Type 0 where
  pub text_is : text ≡ file_of events ++ left
  pub in_time : length (file_of events) ≤ most_file
  pub plays : Lists (opening natives) events lines world

-- The file holds these events and no more, with this listing and this end, where the natives have these names.
pub record Holds (natives : Names) (text : Bytes) (events : List Event) (lines : List Line) (end : End) : Type 0 where
  pub world : World
  pub left : Bytes
  pub opens : Opens natives text events lines world left
  pub ends : EndsAs end world events left
