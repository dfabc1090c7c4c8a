-- `lsearch`.
use Rattle.std.specs.Prelude.{ℕ, ◌-◌, drop, take, length, position, Bool, false, not, ◌||◌, Option, None, Some, if◌then◌else◌, codes, decimal, bytes_eq, Ok}
use Rattle.txt_core.specs.Names.{Bytes, Words}
use Rattle.txt_core.specs.PatternLaws.{matches}
use Rattle.natives.specs.Answers.{Reply, unless}
use Rattle.natives.specs.Checks.{list_error, items}
use Rattle.natives.specs.Options.{last_is, options_error}
use Rattle.natives.specs.Words.{arg}

-- a place, or -1 where there is none
abbrev pub place_text : Option ℕ → Bytes
place_text None = codes "-1"
place_text (Some place) = decimal place

-- whether an element is the one that is looked for: it is the same text, or the pattern matches it
abbrev pub is_found : Bool → Bytes → Bytes → Bool
is_found exact pattern element = if exact then bytes_eq element pattern else matches pattern element

abbrev pub is_search_option : Bytes → Bool
is_search_option word = bytes_eq word (codes "-exact") || bytes_eq word (codes "-glob")

abbrev pub is_no_search_option : Bytes → Bool
is_no_search_option word = not (is_search_option word)

abbrev pub lsearch_list : Words → Bytes → Bytes → Reply
lsearch_list options list pattern =
    unless (list_error list) (Ok (place_text (position (is_found (last_is (codes "-exact") (codes "-glob") false options) pattern) (items list))))

-- `lsearch ?-exact? ?-glob? list pattern`: the place of the first element that is the text or, by
-- default, that the pattern matches; -1 where there is none. The last two words are the list and the
-- pattern, whatever they spell, and each word before them must be an option.
abbrev pub search_options : Words → Words
search_options words = take (length words - 3) (drop 1 words)

abbrev pub lsearch_reply : Words → Reply
lsearch_reply words =
    unless (options_error is_no_search_option (codes "lsearch") (search_options words))
    (lsearch_list (search_options words) (arg words (length words - 2)) (arg words (length words - 1)))
