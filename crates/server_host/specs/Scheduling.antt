-- The commands on the schedule, which are questions.
use Rattle.std.specs.Prelude.{ℕ, ℤ, pos, negsuc, Bool, true, false, ◌==◌, length, if◌then◌else◌, Option, Some, None, Result, Ok, Err}
use Rattle.txt_core.specs.Names.{Bytes, Words}
use Rattle.txt_core.specs.Number.{number}
use Rattle.txt_core.specs.ErrorTexts.{no_schedule}
use Rattle.outside.specs.declared.question.Service.TheVariants as service
use Rattle.tcl_host.specs.Leaf.{Leaf, wants}
use Rattle.natives.specs.Words.{arg}
use Rattle.sched_core.specs.Asking.{is_period, is_once_option}
use Rattle.server_host.specs.Hosts.{HostState}
use Rattle.tcl_host.specs.Checks.{fails, passing, is_counted, shaped, fitting, integer}

-- the words are asked of the schedule
abbrev pub asks_schedule : Words → HostState → Leaf HostState
asks_schedule words host = wants (record { service = service.Schedule; words = words }) host

-- ---- `ns_schedule_proc`

-- the second word is the option by which the script runs once
abbrev pub is_once : Words → Bool
is_once words = is_once_option (arg words 1)

-- three words, or four; behind the option two more
abbrev pub is_schedule : Words → Bool
is_schedule words = if is_once words then length words == 4 else is_counted 3 4 words

-- the number of seconds stands at this place
abbrev pub every : Result ℤ Bytes → ℕ → Words → HostState → Leaf HostState
every (Err message) place words host = fails message host
every (Ok seconds) place words host = fitting (is_period seconds) words place (asks_schedule words) host

abbrev pub schedules : ℕ → Words → HostState → Leaf HostState
schedules place words host = every (integer words place) place words host

-- with four words one stands in the option's place, and it may be no other
abbrev pub by_option : Words → HostState → Leaf HostState
by_option words host =
    if length words == 3 then schedules 1 words host else fitting (is_once words) words 1 (schedules 2 words) host

-- `ns_schedule_proc ?-once? SECONDS SCRIPT` asks that the script run every so many seconds, or once after them
abbrev pub ns_schedule_proc : Words → HostState → Leaf HostState
ns_schedule_proc words host = shaped (is_schedule words) words (by_option words) host

-- ---- `ns_unschedule_proc`

-- an id is a number from 0 on
abbrev pub is_natural : ℤ → Bool
is_natural (pos n) = true
is_natural (negsuc n) = false

abbrev pub is_id : Option ℤ → Bool
is_id None = false
is_id (Some n) = is_natural n

-- the second word is an id, or nothing is scheduled under it
abbrev pub unschedules : Words → HostState → Leaf HostState
unschedules words host = passing (is_id (number (arg words 1))) (no_schedule (arg words 1)) (asks_schedule words) host

-- `ns_unschedule_proc ID` asks that nothing be scheduled under the id any more; under what is no id nothing ever is
abbrev pub ns_unschedule_proc : Words → HostState → Leaf HostState
ns_unschedule_proc words host = shaped (is_counted 2 2 words) words (unschedules words) host
