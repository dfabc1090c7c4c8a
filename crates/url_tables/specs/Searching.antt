-- What a search of the tables finds.
use Rattle.std.specs.Prelude.{ℕ, List, [], ◌∷◌, take, drop, Bool, true, false, not, ◌&&◌, bytes_eq, Option, Some, None}
use Rattle.std.specs.Option.{is_some}
use Rattle.std.specs.BTreeMap.{BTreeMap}
use Rattle.std.specs.Global.{Vec}
use Rattle.txt_core.specs.Names.{Bytes, Words}
use Rattle.cmd_table.specs.declared.definition.When.{When}
use Rattle.url_tables.specs.declared.site.Site.{Site}
use Rattle.url_tables.specs.declared.filters.Passing.{Passing}
use Rattle.url_tables.specs.Urls.{fits}
use Rattle.url_tables.specs.Filters.{is_met, put_if}
use Rattle.url_tables.specs.Tables.{found}

-- the one where it is there, else the other
abbrev pub or_else : {A : Type 0} → Option A → Option A → Option A
or_else (Some first) second = Some first
or_else None second = second

-- whether there is a suffix where there is to be one, and none where there is to be none
abbrev pub has_pattern_as : Bool → Option Bytes → Bool
has_pattern_as true suffix = is_some suffix
has_pattern_as false suffix = not (is_some suffix)

-- whether a registration, kept under its plain segments, serves a method and what is left of a path; by whether it has a pattern
abbrev pub serves : Bool → Bytes → Words → Site → Bool
serves pattern method rest site = has_pattern_as pattern site.suffix && bytes_eq site.method method && fits site.inherit site.suffix rest

-- the words of one that serves
abbrev pub words_if : Bool → Site → Option Words
words_if true site = Some site.route.words
words_if false site = None

-- the words of the last one that serves
abbrev pub last_serving : Bool → Bytes → Words → List Site → Option Words
last_serving pattern method rest [] = None
last_serving pattern method rest (site ∷ sites) = or_else (last_serving pattern method rest sites) (words_if (serves pattern method rest site) site)

-- the words of what serves under so many first segments of a path
abbrev pub found_at : BTreeMap (Vec Bytes) (List Site) → Bytes → Words → ℕ → Option Words
found_at table method path count =
    or_else (last_serving true method (drop count path) (found table (take count path))) (last_serving false method (drop count path) (found table (take count path)))

-- whether a filter is passed
abbrev pub is_passed : When → Bytes → Bytes → Passing → Bool
is_passed when method path filter = is_met when method path filter.when filter.method filter.pattern

-- the words of those that are passed
abbrev pub passed : When → Bytes → Bytes → List Passing → List Words
passed when method path [] = []
passed when method path (filter ∷ filters) = put_if (is_passed when method path filter) filter.words (passed when method path filters)
