-- Indexes: words that name a place of a list or of a text.
use Rattle.std.specs.Prelude.{◌≡◌, refl, true, false, ℕ, List, take, drop, ℤ, pos, negsuc, ◌+ℤ◌, ◌-ℤ◌, Option, None, Some, unwrap_or, slice_get, if◌then◌else◌, codes, bytes_eq, nat_eq}
use Rattle.std.specs.List.{starts_with}
use Rattle.std.proofs.Common.{ap}
use Rattle.txt_core.specs.Names.{Bytes}
use Rattle.txt_core.specs.Number.{number}
use Rattle.txt_core.specs.ErrorTexts.{bad_value}

-- the place that stands so many places before the last
abbrev pub place_before : ℤ → Option ℤ → Option ℤ
place_before last None = None
place_before last (Some n) = Some (last -ℤ n)

-- The place that an index names, where `end` names the place last: `end-N` is so many places
-- before it, where N is any number, and a number is itself. Any other word names none.
unfoldable pub place_of : ℤ → Bytes → Option ℤ
place_of last word =
    if bytes_eq word (codes "end") then Some last
    else if starts_with nat_eq word (codes "end-") then place_before last (number (drop 4 word))
    else number word

-- an index must be of one of these forms; the error names the word and the command
abbrev pub no_place : Bytes → Bytes → Option ℤ → Option Bytes
no_place command word None = Some (bad_value word command)
no_place command word (Some place) = None

unfoldable pub index_error : Bytes → ℤ → Bytes → Option Bytes
index_error command last word = no_place command word (place_of last word)

-- the place that it names
unfoldable pub index : ℤ → Bytes → ℤ
index last word = unwrap_or (place_of last word) (pos 0)

-- the last place of so many
abbrev pub last_of : ℕ → ℤ
last_of count = pos count -ℤ pos 1

-- a place before the first one is cut to the first one
abbrev pub cut : ℤ → ℕ
cut (pos n) = n
cut (negsuc n) = 0

-- what stands at a place, where there is something
abbrev pub at_place : {A : Type 0} → List A → ℤ → Option A
at_place xs (pos n) = slice_get xs n
at_place xs (negsuc n) = None

-- what stands from one place up to another, both included, as far as it is there
abbrev pub part_between : {A : Type 0} → List A → ℤ → ℤ → List A
part_between xs a b = drop (cut a) (take (cut (b +ℤ pos 1)) xs)

-- the three forms by themselves
pub end_place : (last : ℤ) (word : Bytes) → bytes_eq word (codes "end") ≡ true → place_of last word ≡ Some last
unfolding place_of
end_place last word e = rw e refl

pub before_end_place : (last : ℤ) (word : Bytes) → bytes_eq word (codes "end") ≡ false → starts_with nat_eq word (codes "end-") ≡ true → place_of last word ≡ place_before last (number (drop 4 word))
unfolding place_of
before_end_place last word e f = rw (e, f) refl

pub number_place : (last : ℤ) (word : Bytes) → bytes_eq word (codes "end") ≡ false → starts_with nat_eq word (codes "end-") ≡ false → place_of last word ≡ number word
unfolding place_of
number_place last word e f = rw (e, f) refl

-- what the check finds, by the place that a word names
pub place_found : (command : Bytes) (last : ℤ) (word : Bytes) (place : ℤ) → place_of last word ≡ Some place → (index_error command last word ≡ None) × (index last word ≡ place)
unfolding index_error index
place_found command last word place e = (ap (no_place command word) e, ap (λ (o : Option ℤ). unwrap_or o (pos 0)) e)

pub no_place_found : (command : Bytes) (last : ℤ) (word : Bytes) → place_of last word ≡ None → index_error command last word ≡ Some (bad_value word command)
unfolding index_error
no_place_found command last word e = ap (no_place command word) e
