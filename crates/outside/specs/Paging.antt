-- Pages by their paths, and what asking for one gives.
use Rattle.std.specs.Prelude.{ℕ, ◌≡◌, ◌≤◌, Option, Some, None}
use Rattle.std.specs.Ordering.{nat_cmp}
use Rattle.std.specs.Cmp.Lexicographic.{slice_cmp}
use Rattle.std.specs.FinMap as map
use Rattle.std.specs.FinMap.{FinMap}
use Rattle.std.specs.BTreeMap.{BTreeMap}
use Rattle.txt_core.specs.Names.{Bytes}
use Rattle.outside.specs.Faults.{Rose}
use Rattle.outside.specs.declared.pages.PageAnswer.{PageAnswer}
use Rattle.outside.specs.declared.pages.PageAnswer.TheVariants.{Page, NoPage, Failed, NoMemory}

-- texts by their paths: at most one for each
abbrev pub PageMap : Type 0
PageMap = FinMap (slice_cmp nat_cmp) Bytes

-- the pages that a map of the program holds
abbrev pub pages_seen : BTreeMap Bytes Bytes → PageMap
pages_seen held = map.from_entries held.entries

-- Where the pages are told, the answer is theirs: the page at the path, or that there is none. It is a failure only
-- where the count of faults rose.
abbrev pub Finds : Option PageMap → ℕ → Bytes → PageAnswer → ℕ → Type 0
Finds held faults_before path (Page text) faults_after = (pages : PageMap) → held ≡ Some pages → map.get pages path ≡ Some text
Finds held faults_before path NoPage faults_after = (pages : PageMap) → held ≡ Some pages → map.get pages path ≡ None
Finds held faults_before path Failed faults_after = Rose faults_before faults_after
Finds held faults_before path NoMemory faults_after = Unit {0}

-- What asking for a page does: it gives an answer, the pages stay, and no count falls.
abbrev pub Asks : Option PageMap → ℕ → Bytes → PageAnswer → Option PageMap → ℕ → Type 0
Asks held_before faults_before path answer held_after faults_after =
    Finds held_before faults_before path answer faults_after × (held_after ≡ held_before) × (faults_before ≤ faults_after)
