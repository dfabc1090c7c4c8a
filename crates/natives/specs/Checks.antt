-- The checks of words: each gives the text of its error, where it finds one.
use Rattle.std.specs.Prelude.{◌≡◌, ℕ, [], ℤ, pos, Option, None, Some, Result, Ok, Err, unwrap_or}
use Rattle.std.proofs.Common.{ap}
use Rattle.txt_core.specs.Names.{Bytes, Words}
use Rattle.txt_core.specs.Number.{number}
use Rattle.txt_core.specs.Lists.{Listing, elements, bad_at}
use Rattle.txt_core.specs.Listing.{listing}
use Rattle.txt_core.specs.ErrorTexts.{no_integer, no_list}

-- a text that must be a number, by the number that it is: that, or the error
abbrev pub numbered : Option ℤ → Bytes → Result ℤ Bytes
numbered (Some n) text = Ok n
numbered None text = Err (no_integer text)

-- the error, where there is one
abbrev pub error_in : Result ℤ Bytes → Option Bytes
error_in (Ok n) = None
error_in (Err message) = Some message

unfoldable pub integer_error : Bytes → Option Bytes
integer_error text = error_in (numbered (number text) text)

-- the number that it is
unfoldable pub integer : Bytes → ℤ
integer text = unwrap_or (number text) (pos 0)

-- a text that must be a list
abbrev pub bad_list : Listing → Option Bytes
bad_list (elements list) = None
bad_list (bad_at place) = Some (no_list place)

unfoldable pub list_error : Bytes → Option Bytes
list_error text = bad_list (listing text)

-- the elements that it has
abbrev pub listed : Listing → Words
listed (elements list) = list
listed (bad_at place) = []

unfoldable pub items : Bytes → Words
items text = listed (listing text)

-- what the checks find, by what a reading of the text gives
pub number_found : (text : Bytes) (n : ℤ) → number text ≡ Some n → (integer_error text ≡ None) × (integer text ≡ n)
unfolding integer_error integer
number_found text n e = (ap (λ (o : Option ℤ). error_in (numbered o text)) e, ap (λ (o : Option ℤ). unwrap_or o (pos 0)) e)

pub no_number_found : (text : Bytes) → number text ≡ None → integer_error text ≡ Some (no_integer text)
unfolding integer_error
no_number_found text e = ap (λ (o : Option ℤ). error_in (numbered o text)) e

pub list_found : (text : Bytes) (list : Words) → listing text ≡ elements list → (list_error text ≡ None) × (items text ≡ list)
unfolding list_error items
list_found text list e = (ap bad_list e, ap listed e)

pub no_list_found : (text : Bytes) (place : ℕ) → listing text ≡ bad_at place → list_error text ≡ Some (no_list place)
unfolding list_error
no_list_found text place e = ap bad_list e
