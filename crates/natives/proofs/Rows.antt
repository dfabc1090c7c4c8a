-- Rows of the table, computed.
use Rattle.std.proofs.Common.{◌≡◌, ℕ, List, [], ◌∷◌, Some, Ok, Err, true, false, refl}
use Rattle.std.specs.Prelude.{codes}
use Rattle.std.specs.Char.{encode_utf8}
use Rattle.std.specs.Fmt.{digits}
use Rattle.txt_core.specs.Number.{number}
use Rattle.txt_core.specs.Quoting.{quoting, with_backslashes}
use Rattle.txt_core.specs.Counting.{balances}
use Rattle.natives.specs.Answers.{Reply}
use Rattle.natives.specs.Indexes.{place_of, index_error, index}
use Rattle.natives.specs.Checks.{integer_error, integer}
use Rattle.natives.specs.Lists.{lindex_in, lrange_in, linsert_in, lreplace_in}
use Rattle.natives.specs.Sorting.{lsort_in, lsort_list, lsort_reply, sort_options, numbers_error}
use Rattle.natives.specs.Searching.{lsearch_list, lsearch_reply}
use Rattle.natives.specs.Options.{last_is}
use Rattle.natives.specs.Parts.{form_at, parts_behind}
use Rattle.natives.specs.Formatting.{filled, form_error, form_text, written}
use Rattle.natives.specs.Subcommands.{subcommand_reply}
use Rattle.natives.specs.Pure.{Pure, reply_of}
use Rattle.natives.specs.Ranges.{range_of}

-- a command by its name and what it is given
abbrev of_list : List (List ℕ) → Reply
of_list more = Pure (codes "list" ∷ more)

abbrev of_format : List ℕ → List (List ℕ) → Reply
of_format pattern more = Pure (codes "format" ∷ pattern ∷ more)

abbrev of_string : List ℕ → List (List ℕ) → Reply
of_string name more = Pure (codes "string" ∷ name ∷ more)

-- ---- lists

list_quotes : of_list (codes "a" ∷ [] ∷ codes "b c" ∷ codes "d{" ∷ []) ≡ Ok (codes "a {} {b c} d\\{")
unfolding reply_of quoting balances with_backslashes
list_quotes = refl

list_of_none : of_list [] ≡ Ok []
unfolding reply_of quoting balances with_backslashes
list_of_none = refl

abc : List (List ℕ)
abc = codes "a" ∷ codes "b" ∷ codes "c" ∷ []

lindex_end : lindex_in abc (codes "end") ≡ Ok (codes "c")
unfolding abc index_error index place_of number
lindex_end = refl

lindex_before_end : lindex_in abc (codes "end-0x2") ≡ Ok (codes "a")
unfolding abc index_error index place_of number
lindex_before_end = refl

lindex_behind : lindex_in abc (codes "3") ≡ Ok []
unfolding abc index_error index place_of number
lindex_behind = refl

lindex_before : lindex_in abc (codes "-1") ≡ Ok []
unfolding abc index_error index place_of number
lindex_before = refl

lindex_bad : lindex_in abc (codes "end-") ≡ Err (codes "bad value \"end-\" for \"lindex\"")
unfolding abc index_error index place_of number
lindex_bad = refl

lrange_cuts : lrange_in abc (codes "-5") (codes "1") ≡ Ok (codes "a b")
unfolding abc index_error index place_of number quoting balances with_backslashes
lrange_cuts = refl

lrange_none : lrange_in abc (codes "2") (codes "1") ≡ Ok []
unfolding abc index_error index place_of number quoting balances with_backslashes
lrange_none = refl

lrange_first_bad : lrange_in abc (codes "x") (codes "y") ≡ Err (codes "bad value \"x\" for \"lrange\"")
unfolding abc index_error index place_of number quoting balances with_backslashes
lrange_first_bad = refl

linsert_end : linsert_in (codes "a" ∷ codes "b" ∷ []) (codes "end") (codes "c" ∷ []) ≡ Ok (codes "a b c")
unfolding index_error index place_of number quoting balances with_backslashes
linsert_end = refl

linsert_before_end : linsert_in abc (codes "end-1") (codes "x" ∷ codes "y" ∷ []) ≡ Ok (codes "a b x y c")
unfolding abc index_error index place_of number quoting balances with_backslashes
linsert_before_end = refl

linsert_cuts : linsert_in abc (codes "-4") (codes "x" ∷ []) ≡ Ok (codes "x a b c")
unfolding abc index_error index place_of number quoting balances with_backslashes
linsert_cuts = refl

lreplace_middle : lreplace_in abc (codes "1") (codes "end") (codes "x" ∷ []) ≡ Ok (codes "a x")
unfolding abc index_error index place_of number quoting balances with_backslashes
lreplace_middle = refl

lreplace_none : lreplace_in abc (codes "2") (codes "0") (codes "x" ∷ []) ≡ Ok (codes "a b x c")
unfolding abc index_error index place_of number quoting balances with_backslashes
lreplace_none = refl

lreplace_behind : lreplace_in abc (codes "7") (codes "9") (codes "x" ∷ []) ≡ Ok (codes "a b c x")
unfolding abc index_error index place_of number quoting balances with_backslashes
lreplace_behind = refl

concat_trims : Pure (codes "concat" ∷ codes " a " ∷ [] ∷ codes "\n" ∷ codes "b  c\t" ∷ []) ≡ Ok (codes "a b  c")
unfolding reply_of
concat_trims = refl

-- ---- order

lsort_falls : lsort_in true true (codes "3" ∷ codes "10" ∷ codes "2" ∷ []) ≡ Ok (codes "10 3 2")
unfolding numbers_error integer_error integer number quoting balances with_backslashes
lsort_falls = refl

lsort_is_stable : lsort_in true true (codes "1" ∷ codes "2" ∷ codes "01" ∷ codes "0x1" ∷ []) ≡ Ok (codes "2 1 01 0x1")
unfolding numbers_error integer_error integer number quoting balances with_backslashes
lsort_is_stable = refl

lsort_by_bytes : lsort_in false false (codes "3" ∷ codes "10" ∷ codes "b" ∷ codes "A" ∷ codes "1" ∷ []) ≡ Ok (codes "1 10 3 A b")
unfolding numbers_error integer_error integer number quoting balances with_backslashes
lsort_by_bytes = refl

lsort_no_number : lsort_in true false (codes "3" ∷ codes "x" ∷ codes "y" ∷ []) ≡ Err (codes "expected integer but got \"x\"")
unfolding numbers_error integer_error integer number quoting balances with_backslashes
lsort_no_number = refl

lsort_no_option : Pure (codes "lsort" ∷ codes "-integer" ∷ codes "-foo" ∷ codes "a" ∷ []) ≡ Err (codes "bad value \"-foo\" for \"lsort\"")
unfolding reply_of
lsort_no_option = refl

lsort_last_is_the_list : lsort_reply (codes "lsort" ∷ codes "-integer" ∷ []) ≡ lsort_list [] (codes "-integer")
lsort_last_is_the_list = refl

lsearch_no_option : Pure (codes "lsearch" ∷ codes "-foo" ∷ codes "a" ∷ codes "b" ∷ []) ≡ Err (codes "bad value \"-foo\" for \"lsearch\"")
unfolding reply_of
lsearch_no_option = refl

lsearch_last_are_list_and_pattern : lsearch_reply (codes "lsearch" ∷ codes "-exact" ∷ codes "x" ∷ []) ≡ lsearch_list [] (codes "-exact") (codes "x")
lsearch_last_are_list_and_pattern = refl

lsearch_option_in_its_place :
    lsearch_reply (codes "lsearch" ∷ codes "-exact" ∷ codes "-exact" ∷ codes "-exact" ∷ []) ≡ lsearch_list (codes "-exact" ∷ []) (codes "-exact") (codes "-exact")
lsearch_option_in_its_place = refl

-- ---- split

split_at_dots : Pure (codes "split" ∷ codes "a.b..c" ∷ codes "." ∷ []) ≡ Ok (codes "a b {} c")
unfolding reply_of quoting balances with_backslashes
split_at_dots = refl

split_at_blanks : Pure (codes "split" ∷ codes " a\tb\n" ∷ []) ≡ Ok (codes "{} a b {}")
unfolding reply_of quoting balances with_backslashes
split_at_blanks = refl

split_bytes : Pure (codes "split" ∷ codes "a c" ∷ [] ∷ []) ≡ Ok (codes "a { } c")
unfolding reply_of quoting balances with_backslashes
split_bytes = refl

split_of_none : Pure (codes "split" ∷ [] ∷ []) ≡ Ok []
unfolding reply_of quoting balances with_backslashes
split_of_none = refl

-- ---- format

format_forms : of_format (codes "%-4d|%04x|%c") (codes "7" ∷ codes "255" ∷ codes "65" ∷ []) ≡ Ok (codes "7   |00ff|A")
unfolding reply_of parts_behind form_at written form_error form_text filled integer_error integer number digits encode_utf8
format_forms = refl

format_signs : of_format (codes "%05d|%5d|%-05d|%x") (codes "-3" ∷ codes "-3" ∷ codes "-3" ∷ codes "-1" ∷ []) ≡ Ok (codes "-0003|   -3|-3   |ffffffffffffffff")
unfolding reply_of parts_behind form_at written form_error form_text filled integer_error integer number digits encode_utf8
format_signs = refl

format_texts : of_format (codes "%5s|%05s|%5%|%%|%007d") (codes "ab" ∷ codes "ab" ∷ codes " 5 " ∷ []) ≡ Ok (codes "   ab|000ab|    %|%|0000005")
unfolding reply_of parts_behind form_at written form_error form_text filled integer_error integer number digits encode_utf8
format_texts = refl

format_euro : of_format (codes "%c%4c") (codes "8364" ∷ codes "0x20ac" ∷ codes "surplus" ∷ []) ≡ Ok (226 ∷ 130 ∷ 172 ∷ 32 ∷ 226 ∷ 130 ∷ 172 ∷ [])
unfolding reply_of parts_behind form_at written form_error form_text filled integer_error integer number digits encode_utf8
format_euro = refl

format_wide : of_format (codes "%1001d") [] ≡ Err (codes "bad value \"%1001d\" for \"format\"")
unfolding reply_of parts_behind form_at
format_wide = refl

format_no_form : of_format (codes "a%q%d") [] ≡ Err (codes "bad value \"a%q%d\" for \"format\"")
unfolding reply_of parts_behind form_at
format_no_form = refl

format_open : of_format (codes "%0-5d") (codes "1" ∷ []) ≡ Err (codes "bad value \"%0-5d\" for \"format\"")
unfolding reply_of parts_behind form_at
format_open = refl

format_too_few : of_format (codes "%d%%%d") (codes "x" ∷ []) ≡ Err (codes "wrong number of words for \"format\"")
unfolding reply_of parts_behind form_at
format_too_few = refl

format_no_number : of_format (codes "%s%d%c") (codes "x" ∷ codes "y" ∷ codes "z" ∷ []) ≡ Err (codes "expected integer but got \"y\"")
unfolding reply_of parts_behind form_at written form_error form_text filled integer_error integer number digits encode_utf8
format_no_number = refl

format_surrogate : of_format (codes "%c") (codes "55296" ∷ []) ≡ Err (codes "bad value \"55296\" for \"format\"")
unfolding reply_of parts_behind form_at written form_error form_text filled integer_error integer number digits encode_utf8
format_surrogate = refl

-- ---- string

string_range : of_string (codes "range") (codes "abcdef" ∷ codes "1" ∷ codes "end-1" ∷ []) ≡ Ok (codes "bcde")
unfolding reply_of subcommand_reply index_error index place_of number
string_range = refl

string_index : of_string (codes "index") (codes "abc" ∷ codes "end" ∷ []) ≡ Ok (codes "c")
unfolding reply_of subcommand_reply index_error index place_of number
string_index = refl

string_bad_index : of_string (codes "index") (codes "abc" ∷ codes "end+1" ∷ []) ≡ Err (codes "bad value \"end+1\" for \"string\"")
unfolding reply_of subcommand_reply index_error index place_of number
string_bad_index = refl

string_length : of_string (codes "length") (codes "abc" ∷ []) ≡ Ok (codes "3")
unfolding reply_of subcommand_reply digits
string_length = refl

string_compare : of_string (codes "compare") (codes "abc" ∷ codes "b" ∷ []) ≡ Ok (codes "-1")
unfolding reply_of subcommand_reply
string_compare = refl

string_compare_front : of_string (codes "compare") (codes "abc" ∷ codes "ab" ∷ []) ≡ Ok (codes "1")
unfolding reply_of subcommand_reply
string_compare_front = refl

string_equal : of_string (codes "equal") (codes "abc" ∷ codes "abc" ∷ []) ≡ Ok (codes "1")
unfolding reply_of subcommand_reply
string_equal = refl

string_first : of_string (codes "first") (codes "ab" ∷ codes "xabab" ∷ []) ≡ Ok (codes "1")
unfolding reply_of subcommand_reply digits
string_first = refl

string_last : of_string (codes "last") (codes "ab" ∷ codes "xabab" ∷ []) ≡ Ok (codes "3")
unfolding reply_of subcommand_reply digits
string_last = refl

string_first_none : of_string (codes "first") (codes "ab" ∷ codes "xa" ∷ []) ≡ Ok (codes "-1")
unfolding reply_of subcommand_reply digits
string_first_none = refl

string_first_empty : of_string (codes "first") ([] ∷ codes "abc" ∷ []) ≡ Ok (codes "-1")
unfolding reply_of subcommand_reply digits
string_first_empty = refl

string_tolower : of_string (codes "tolower") (codes "aBC-Z[" ∷ []) ≡ Ok (codes "abc-z[")
unfolding reply_of subcommand_reply
string_tolower = refl

string_trim : of_string (codes "trim") (codes "\t a b\n" ∷ []) ≡ Ok (codes "a b")
unfolding reply_of subcommand_reply
string_trim = refl

string_trimleft : of_string (codes "trimleft") (codes "xyaxy" ∷ codes "yx" ∷ []) ≡ Ok (codes "axy")
unfolding reply_of subcommand_reply
string_trimleft = refl

string_trimright : of_string (codes "trimright") (codes "xyaxy" ∷ codes "yx" ∷ []) ≡ Ok (codes "xya")
unfolding reply_of subcommand_reply
string_trimright = refl

string_repeat : of_string (codes "repeat") (codes "ab" ∷ codes "3" ∷ []) ≡ Ok (codes "ababab")
unfolding reply_of subcommand_reply integer_error integer number
string_repeat = refl

string_repeat_below : of_string (codes "repeat") (codes "ab" ∷ codes "-1" ∷ []) ≡ Err (codes "bad value \"-1\" for \"string\"")
unfolding reply_of subcommand_reply integer_error integer number
string_repeat_below = refl

string_unknown : of_string (codes "foo") (codes "a" ∷ []) ≡ Err (codes "unknown subcommand \"foo\" of \"string\"")
unfolding reply_of subcommand_reply
string_unknown = refl

string_too_many : of_string (codes "length") (codes "a" ∷ codes "b" ∷ []) ≡ Err (codes "wrong number of words for \"string\"")
unfolding reply_of subcommand_reply
string_too_many = refl

-- ---- ranges

format_range : range_of (codes "format") ≡ record { least = 2; most = 200001 }
unfolding range_of
format_range = refl

-- ---- more of the edges

lindex_blanks : lindex_in abc (codes " 1\n") ≡ Ok (codes "b")
unfolding abc index_error index place_of number
lindex_blanks = refl

lindex_plus : lindex_in abc (codes "end+1") ≡ Err (codes "bad value \"end+1\" for \"lindex\"")
unfolding abc index_error index place_of number
lindex_plus = refl

lindex_behind_end : lindex_in abc (codes "end--1") ≡ Ok []
unfolding abc index_error index place_of number
lindex_behind_end = refl

linsert_behind : linsert_in abc (codes "99") (codes "x" ∷ []) ≡ Ok (codes "a b c x")
unfolding abc index_error index place_of number quoting balances with_backslashes
linsert_behind = refl

lreplace_before : lreplace_in abc (codes "-3") (codes "-2") (codes "x" ∷ []) ≡ Ok (codes "x a b c")
unfolding abc index_error index place_of number quoting balances with_backslashes
lreplace_before = refl

lreplace_second_bad : lreplace_in abc (codes "0") (codes "z") [] ≡ Err (codes "bad value \"z\" for \"lreplace\"")
unfolding abc index_error index place_of number quoting balances with_backslashes
lreplace_second_bad = refl

concat_all_blanks : Pure (codes "concat" ∷ (11 ∷ 12 ∷ 97 ∷ 13 ∷ []) ∷ (0 ∷ []) ∷ []) ≡ Ok (97 ∷ 32 ∷ 0 ∷ [])
unfolding reply_of
concat_all_blanks = refl

lsort_contrary : last_is (codes "-integer") (codes "-ascii") false (sort_options (codes "lsort" ∷ codes "-integer" ∷ codes "-decreasing" ∷ codes "-ascii" ∷ codes "x" ∷ [])) ≡ false
lsort_contrary = refl

lsort_option_behind : Pure (codes "lsort" ∷ codes "a" ∷ codes "-integer" ∷ []) ≡ Err (codes "bad value \"a\" for \"lsort\"")
unfolding reply_of
lsort_option_behind = refl

split_at_two : Pure (codes "split" ∷ codes ",a;b" ∷ codes ";," ∷ []) ≡ Ok (codes "{} a b")
unfolding reply_of quoting balances with_backslashes
split_at_two = refl

format_dash_before_zero : of_format (codes "%-05s|%03%|%-3%|") (codes "ab" ∷ []) ≡ Ok (codes "ab   |00%|%  |")
unfolding reply_of parts_behind form_at written form_error form_text filled integer_error integer number digits encode_utf8
format_dash_before_zero = refl

format_least : of_format (codes "%x|%d|%05x") (codes "-9223372036854775808" ∷ codes "-9223372036854775808" ∷ codes "-1" ∷ []) ≡ Ok (codes "8000000000000000|-9223372036854775808|ffffffffffffffff")
unfolding reply_of parts_behind form_at written form_error form_text filled integer_error integer number digits encode_utf8
format_least = refl

format_last_character : of_format (codes "%c%c") (codes "1114111" ∷ codes "0" ∷ []) ≡ Ok (244 ∷ 143 ∷ 191 ∷ 191 ∷ 0 ∷ [])
unfolding reply_of parts_behind form_at written form_error form_text filled integer_error integer number digits encode_utf8
format_last_character = refl

format_no_character : of_format (codes "%c%c") (codes "65" ∷ codes "-1" ∷ []) ≡ Err (codes "bad value \"-1\" for \"format\"")
unfolding reply_of parts_behind form_at written form_error form_text filled integer_error integer number digits encode_utf8
format_no_character = refl

format_widest : form_at (codes "1000dx") ≡ Some (record { left = false; zeros = false; width = 1000; letter = 100 }, 5)
unfolding form_at
format_widest = refl

format_end : of_format (codes "50%") [] ≡ Err (codes "bad value \"50%\" for \"format\"")
unfolding reply_of parts_behind form_at
format_end = refl

string_toupper : of_string (codes "toupper") (codes "aBc-z{" ∷ []) ≡ Ok (codes "ABC-Z{")
unfolding reply_of subcommand_reply
string_toupper = refl

string_trim_none : of_string (codes "trim") (codes " a " ∷ [] ∷ []) ≡ Ok (codes " a ")
unfolding reply_of subcommand_reply
string_trim_none = refl

string_index_before : of_string (codes "index") (codes "abc" ∷ codes "end-3" ∷ []) ≡ Ok []
unfolding reply_of subcommand_reply index_error index place_of number
string_index_before = refl

string_range_order : of_string (codes "range") (codes "abc" ∷ codes "q" ∷ codes "p" ∷ []) ≡ Err (codes "bad value \"q\" for \"string\"")
unfolding reply_of subcommand_reply index_error index place_of number
string_range_order = refl

string_repeat_no_number : of_string (codes "repeat") (codes "ab" ∷ codes "9223372036854775808" ∷ []) ≡ Err (codes "expected integer but got \"9223372036854775808\"")
unfolding reply_of subcommand_reply integer_error integer number
string_repeat_no_number = refl

string_unknown_first : of_string (codes "len") (codes "a" ∷ codes "b" ∷ codes "c" ∷ []) ≡ Err (codes "unknown subcommand \"len\" of \"string\"")
unfolding reply_of subcommand_reply
string_unknown_first = refl
