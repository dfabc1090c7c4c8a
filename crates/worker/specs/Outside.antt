-- What a call of a worker does with the clock, the pages, the source and the sink.
use Rattle.std.specs.Prelude.{◌≡◌, ◌⊎◌, ◌≤◌, ℕ, ◌+◌, drop, List, [], ◌∷◌, Option, None, Some}
use Rattle.std.specs.FinMap as map
use Rattle.txt_core.specs.Names.{Bytes, Moment}
use Rattle.txt_core.specs.Limits.{moment_of}
use Rattle.outside.specs.Clocks.{Dial, Shows, read_dial}
use Rattle.outside.specs.Faults.{last_count}
use Rattle.outside.specs.Paging.{PageMap}
use Rattle.outside.specs.declared.pages.PageAnswer.{PageAnswer}
use Rattle.outside.specs.declared.pages.PageAnswer.TheVariants.{Page, NoPage, Failed, NoMemory}
use Rattle.http_req.specs.Outcomes.{Gets, Whole}
use Rattle.http_req.specs.declared.request.Request.{Request}
use Rattle.worker.specs.Turns.{Turn, OnBlueprint, OnArrays, OnSchedule, OnPages, AtOnce}

-- ---- the clock

-- One reading; one past the last moment counts as that.
abbrev pub Ticks : Option Dial → Moment → Option Dial → Type 0
Ticks before moment after = (reading : ℕ) × Shows before reading after × (moment ≡ moment_of reading)

-- where the clock is told, these are its readings, one after the other from the first on
abbrev pub AreReadings : Option Dial → List Moment → Type 0
AreReadings None moments = Unit {0}
AreReadings (Some dial) [] = Unit {0}
AreReadings (Some dial) (moment ∷ moments) = (moment ≡ dial.moment) × AreReadings (Some (read_dial dial)) moments

-- ---- the pages

-- where the pages are told, what they replied is theirs: the page of the path, or that there is none
abbrev pub IsHeld : PageMap → Bytes → PageAnswer → Type 0
IsHeld held path (Page text) = map.get held path ≡ Some text
IsHeld held path NoPage = map.get held path ≡ None
IsHeld held path Failed = Unit {0}
IsHeld held path NoMemory = Unit {0}

abbrev pub IsHeldTurn : PageMap → Turn → Type 0
IsHeldTurn held (OnPages path reply) = IsHeld held path reply
IsHeldTurn held (OnBlueprint e) = Unit {0}
IsHeldTurn held (OnArrays bucket e) = Unit {0}
IsHeldTurn held (OnSchedule e) = Unit {0}
IsHeldTurn held AtOnce = Unit {0}

abbrev pub AreHeldBy : PageMap → List Turn → Type 0
AreHeldBy held [] = Unit {0}
AreHeldBy held (turn ∷ turns) = IsHeldTurn held turn × AreHeldBy held turns

abbrev pub AreHeld : Option PageMap → List Turn → Type 0
AreHeld None turns = Unit {0}
AreHeld (Some held) turns = AreHeldBy held turns

-- how many pages couldn't be read
abbrev pub fault_in : PageAnswer → ℕ
fault_in (Page text) = 0
fault_in NoPage = 0
fault_in Failed = 1
fault_in NoMemory = 0

abbrev pub fault_of : Turn → ℕ
fault_of (OnPages path reply) = fault_in reply
fault_of (OnBlueprint e) = 0
fault_of (OnArrays bucket e) = 0
fault_of (OnSchedule e) = 0
fault_of AtOnce = 0

abbrev pub page_faults : List Turn → ℕ
page_faults [] = 0
page_faults (turn ∷ turns) = fault_of turn + page_faults turns

-- a count rose by at least so many, or stands where counters stop
abbrev pub RoseBy : ℕ → ℕ → ℕ → Type 0
RoseBy count before after = (before + count ≤ after) ⊎ (last_count ≤ after)

-- ---- the source

-- where it is told what there is to read, it begins with this request, and this is left
abbrev pub Reads : Bytes → Option Bytes → Request → Option Bytes → Type 0
Reads peer before request after =
    (input : Bytes) → before ≡ Some input
    → (used : ℕ) × (left : Bytes) × Gets input peer (Whole request used) × (left ≡ drop used input) × (after ≡ Some left)
