-- What the subcommands of `string` come to.
use Rattle.std.specs.Prelude.{ℕ, List, [], ◌∷◌, take, drop, length, map, reverse, find, ℤ, pos, negsuc, Bool, nat_lt, Option, None, option_to_list, if◌then◌else◌, codes, decimal, bytes_eq, Ok, Err}
use Rattle.std.specs.List.{range_with_len, repeat}
use Rattle.std.specs.Char.{to_ascii_lowercase, to_ascii_uppercase}
use Rattle.std.specs.declared.cmp.Ordering.{Ordering}
use Rattle.std.specs.declared.cmp.Ordering.TheVariants.{Less, Equal, Greater}
use Rattle.std.specs.Ordering.{nat_cmp}
use Rattle.std.specs.Cmp.Lexicographic.{slice_cmp}
use Rattle.txt_core.specs.Names.{Bytes, Words}
use Rattle.txt_core.specs.PatternLaws.{matches}
use Rattle.natives.specs.Answers.{Reply, unless}
use Rattle.txt_core.specs.ErrorTexts.{wrong_words, bad_value}
use Rattle.txt_core.specs.Truth.{truth_text}
use Rattle.natives.specs.Words.{arg, arg_or, usual_chars}
use Rattle.natives.specs.Checks.{integer_error, integer}
use Rattle.natives.specs.Indexes.{index_error, index, last_of, at_place, part_between}
use Rattle.natives.specs.Searching.{place_text}
use Rattle.natives.specs.Cutting.{is_one_of}

-- `string length s`: how many bytes the text has
abbrev pub length_reply : Words → Reply
length_reply words = Ok (decimal (length (arg words 2)))

-- `string index s i`: the byte at place i, or the empty text where there is none
abbrev pub index_in : Bytes → Bytes → Reply
index_in s i = unless (index_error (codes "string") (last_of (length s)) i) (Ok (option_to_list (at_place s (index (last_of (length s)) i))))

abbrev pub index_reply : Words → Reply
index_reply words = index_in (arg words 2) (arg words 3)

-- `string range s a b`: the bytes from place a up to place b
abbrev pub range_in : Bytes → Bytes → Bytes → Reply
range_in s a b =
    let last = last_of (length s) in
    unless (index_error (codes "string") last a) (
    unless (index_error (codes "string") last b) (Ok (part_between s (index last a) (index last b))))

abbrev pub range_reply : Words → Reply
range_reply words = range_in (arg words 2) (arg words 3) (arg words 4)

-- the order of two texts as a number
abbrev pub order_text : Ordering → Bytes
order_text Less = codes "-1"
order_text Equal = codes "0"
order_text Greater = codes "1"

-- `string compare a b`: -1, 0 or 1, where a is before, the same as or behind b, byte by byte, a front before the whole
abbrev pub compare_reply : Words → Reply
compare_reply words = Ok (order_text (slice_cmp nat_cmp (arg words 2) (arg words 3)))

-- `string equal a b`: 1 where they are the same bytes, else 0
abbrev pub equal_reply : Words → Reply
equal_reply words = Ok (truth_text (bytes_eq (arg words 2) (arg words 3)))

-- whether a text stands in another at a place
abbrev pub stands_at : Bytes → Bytes → ℕ → Bool
stands_at a b place = bytes_eq (take (length a) (drop place b)) a

-- the places of a text's bytes
abbrev pub places_of : Bytes → List ℕ
places_of b = range_with_len 0 (length b)

-- the first and the last place at which a text stands in another; an empty one stands nowhere
abbrev pub first_place : Bytes → Bytes → Option ℕ
first_place [] b = None
first_place (c ∷ a) b = find (stands_at (c ∷ a) b) (places_of b)

abbrev pub last_place : Bytes → Bytes → Option ℕ
last_place [] b = None
last_place (c ∷ a) b = find (stands_at (c ∷ a) b) (reverse (places_of b))

-- `string first a b` and `string last a b`: the first or last place of a in b, or -1
abbrev pub first_reply : Words → Reply
first_reply words = Ok (place_text (first_place (arg words 2) (arg words 3)))

abbrev pub last_reply : Words → Reply
last_reply words = Ok (place_text (last_place (arg words 2) (arg words 3)))

-- `string match glob s`: 1 where the pattern matches the text, else 0
abbrev pub match_reply : Words → Reply
match_reply words = Ok (truth_text (matches (arg words 2) (arg words 3)))

-- `string tolower s`, `string toupper s`: ASCII letters in the other case
abbrev pub tolower_reply : Words → Reply
tolower_reply words = Ok (map to_ascii_lowercase (arg words 2))

abbrev pub toupper_reply : Words → Reply
toupper_reply words = Ok (map to_ascii_uppercase (arg words 2))

-- a text without the bytes at its front, or at its end, that pass a test
abbrev pub without_front : (ℕ → Bool) → Bytes → Bytes
without_front test [] = []
without_front test (b ∷ t) = if test b then without_front test t else b ∷ t

abbrev pub without_end : (ℕ → Bool) → Bytes → Bytes
without_end test t = reverse (without_front test (reverse t))

-- the bytes that are trimmed: those of the word at place 3, else space, tab, newline and carriage return
abbrev pub is_trimmed : Words → ℕ → Bool
is_trimmed words b = is_one_of (arg_or words 3 usual_chars) b

-- `string trim s ?chars?`, `string trimleft s ?chars?`, `string trimright s ?chars?`
abbrev pub trim_reply : Words → Reply
trim_reply words = Ok (without_end (is_trimmed words) (without_front (is_trimmed words) (arg words 2)))

abbrev pub trimleft_reply : Words → Reply
trimleft_reply words = Ok (without_front (is_trimmed words) (arg words 2))

abbrev pub trimright_reply : Words → Reply
trimright_reply words = Ok (without_end (is_trimmed words) (arg words 2))

-- `string repeat s n`: the text n times, where n is at least 0
abbrev pub repeat_by : Bytes → Bytes → ℤ → Reply
repeat_by s n (pos count) = Ok (repeat count s)
repeat_by s n (negsuc k) = Err (bad_value n (codes "string"))

abbrev pub repeat_in : Bytes → Bytes → Reply
repeat_in s n = unless (integer_error n) (repeat_by s n (integer n))

abbrev pub repeat_reply : Words → Reply
repeat_reply words = repeat_in (arg words 2) (arg words 3)

-- a subcommand with its own number of words, the two names among them
abbrev pub counted : ℕ → ℕ → Words → Reply → Reply
counted least most words reply =
    if nat_lt (length words) least then Err (wrong_words (codes "string"))
    else if nat_lt most (length words) then Err (wrong_words (codes "string"))
    else reply
