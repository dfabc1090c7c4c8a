-- What a run of the server does, by the status with which it ends.
use Rattle.std.specs.Prelude.{◌≡◌, ◌≢◌, ◌≤◌, ◌⊎◌, ℕ, true, codes, Option, Some}
use Rattle.clap.specs.Words.{first_of, matches_of}
use Rattle.txt_core.specs.Names.{Bytes, Words, Names}
use Rattle.outside.specs.Clocks.{Dial}
use Rattle.outside.specs.Faults.{Rose}
use Rattle.outside.specs.Guests.{NetState}
use Rattle.outside.specs.Paging.{PageMap}
use Rattle.outside.specs.Sending.{Sends}
use Rattle.outside.specs.declared.sending.Sent.{Sent}
use Rattle.serve_options.specs.Command.{serve_app}
use Rattle.serve_options.specs.Reading.{AreTaken, connections_of}
use Rattle.serve_run.specs.Starting.{StartsWell, StartsBadly}
use Rattle.serve_run.specs.Statuses.{number_of, line_of}
use Rattle.serve_run.specs.declared.ended.Ended.{Ended}
use Rattle.serve_run.specs.declared.ended.Ended.TheVariants.{Done, BadWords, NoMemory, BadStart, NetFault}

-- What stands outside of a run of the server: the net; the pages, where they are told, and how many faults they have met; and the clock,
-- where it is told.
pub record Around : Type 0 where
  pub net : NetState
  pub pages : Option PageMap
  pub page_faults : ℕ
  pub clock : Option Dial

abbrev pub around_of : NetState → Option PageMap → ℕ → Option Dial → Around
around_of net pages faults clock = record { net = net; pages = pages; page_faults = faults; clock = clock }

-- this is the path of the start page that the words give
abbrev pub IsStart : Words → Bytes → Type 0
IsStart words path = first_of (codes "start") (matches_of serve_app words) ≡ Some path

-- the net has ended, or as many connections were given as the words ask for, where that number isn't 0
abbrev pub HasServed : Words → NetState → Type 0
HasServed words net = (net.ended ≡ true) ⊎ ((connections_of words ≢ 0) × (net.given ≡ connections_of words))

-- the words are taken, and their start script, from around before to the count of the pages after, ended well
abbrev pub HasStarted : Names → Words → Around → Around → Type 0
HasStarted names words before after =
    AreTaken words
    × ((path : Bytes) × IsStart words path × StartsWell names path before.pages before.page_faults before.clock after.page_faults)

-- What each status says. It names a start script only where the words do. All but two come only where the words are taken.
abbrev pub Says : Names → Words → Around → Ended → Around → Type 0
-- the net closed or the number was reached, and the start script had ended well
Says names words before Done after = HasServed words after.net × HasStarted names words before after
-- `clap` finds a fault in the words, or one isn't UTF-8; nothing was done
Says names words before BadWords after = ¬ (AreTaken words) × (after ≡ before)
Says names words before NoMemory after = Unit {0}
Says names words before (BadStart path fault) after =
    AreTaken words × IsStart words path × StartsBadly names path before.pages before.page_faults before.clock after.page_faults fault
Says names words before NetFault after = AreTaken words × Rose before.net.faults after.net.faults

-- A run of the server, where the natives have these names, ends so: its status says what it says; whatever it is, a connection was given
-- only where the start script had ended well, no more were given than the words ask for, the net's count of faults didn't fall, and the
-- pages that are told stay.
pub record Ends (names : Names) (words : Words) (before : Around) (ended : Ended) (after : Around) : Type 0 where
  pub says : Says names words before ended after
  pub started : after.net.given ≢ 0 → HasStarted names words before after
  pub most : connections_of words ≢ 0 → after.net.given ≤ connections_of words
  pub faults : before.net.faults ≤ after.net.faults
  pub pages : after.pages ≡ before.pages

-- What a run of the server does and tells: it ends with the number of a status, did what that says, and sent its line to errors, which
-- took it whole, or failed, so that their count rose, and took a front of it. No fault of errors changes the status.
pub record Serves (names : Names) (words : Words) (before : Around) (answer : ℕ) (after : Around)
    (taken : Option Bytes) (error_faults : ℕ) (taken_after : Option Bytes) (error_faults_after : ℕ) : Type 0 where
  pub ended : Ended
  pub answer_is : answer ≡ number_of ended
  pub ends : Ends names words before ended after
  pub tells : (sent : Sent) × Sends taken error_faults (line_of ended) sent taken_after error_faults_after
