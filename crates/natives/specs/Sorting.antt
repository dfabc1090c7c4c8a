-- Sorting: the order that `lsort` is asked for, and the list in that order.
use Rattle.std.specs.Prelude.{◌-◌, List, [], ◌∷◌, drop, take, length, Bool, false, not, ◌||◌, Option, None, Some, if◌then◌else◌, codes, bytes_eq, Ok}
use Rattle.std.specs.declared.cmp.Ordering.{Ordering}
use Rattle.std.specs.Ordering.{nat_cmp, int_cmp, is_lt}
use Rattle.std.specs.Cmp.Lexicographic.{slice_cmp}
use Rattle.txt_core.specs.Names.{Bytes, Words}
use Rattle.txt_core.specs.Quoting.{quoting}
use Rattle.natives.specs.Answers.{Reply, unless}
use Rattle.natives.specs.Words.{arg}
use Rattle.natives.specs.Options.{last_is, options_error}
use Rattle.natives.specs.Checks.{list_error, items, integer_error, integer}

-- an element put before the first that isn't before it
abbrev pub placed : {A : Type 0} → (A → A → Bool) → A → List A → List A
placed before x [] = x ∷ []
placed before x (y ∷ ys) = if before y x then y ∷ placed before x ys else x ∷ y ∷ ys

-- The list in order: each element in turn, from the last one on, is put before the first that isn't
-- before it, so elements of which neither is before the other stay in their order.
abbrev pub in_order : {A : Type 0} → (A → A → Bool) → List A → List A
in_order before [] = []
in_order before (x ∷ xs) = placed before x (in_order before xs)

abbrev pub is_sort_option : Bytes → Bool
is_sort_option word = bytes_eq word (codes "-ascii") || bytes_eq word (codes "-integer") || bytes_eq word (codes "-increasing") || bytes_eq word (codes "-decreasing")

abbrev pub is_no_sort_option : Bytes → Bool
is_no_sort_option word = not (is_sort_option word)

-- the order of two elements by their numbers, or by their bytes, where a front is before the whole
abbrev pub order_of : Bool → Bytes → Bytes → Ordering
order_of numbers x y = if numbers then int_cmp (integer x) (integer y) else slice_cmp nat_cmp x y

-- whether one is before another in the order that is asked for, which falls or rises
abbrev pub sorts_before : Bool → Bool → Bytes → Bytes → Bool
sorts_before numbers falls x y = if falls then is_lt (order_of numbers y x) else is_lt (order_of numbers x y)

-- each element must be a number where they are sorted by number; the first that is none gives the error
abbrev pub first_error : Option Bytes → Option Bytes → Option Bytes
first_error None later = later
first_error (Some text) later = Some text

unfoldable pub numbers_error : Words → Option Bytes
numbers_error [] = None
numbers_error (x ∷ xs) = first_error (integer_error x) (numbers_error xs)

abbrev pub elements_error : Bool → Words → Option Bytes
elements_error numbers list = if numbers then numbers_error list else None

abbrev pub lsort_in : Bool → Bool → Words → Reply
lsort_in numbers falls list = unless (elements_error numbers list) (Ok (quoting (in_order (sorts_before numbers falls) list)))

abbrev pub lsort_list : Words → Bytes → Reply
lsort_list options list =
    unless (list_error list) (lsort_in (last_is (codes "-integer") (codes "-ascii") false options) (last_is (codes "-decreasing") (codes "-increasing") false options) (items list))

-- `lsort ?-ascii? ?-integer? ?-increasing? ?-decreasing? list`: the list in order, by bytes or by
-- number, rising or falling; elements that tie stay in their order. The last word is the list, whatever
-- it spells, and each word before it must be an option.
abbrev pub sort_options : Words → Words
sort_options words = take (length words - 2) (drop 1 words)

abbrev pub lsort_reply : Words → Reply
lsort_reply words =
    unless (options_error is_no_sort_option (codes "lsort") (sort_options words)) (lsort_list (sort_options words) (arg words (length words - 1)))
