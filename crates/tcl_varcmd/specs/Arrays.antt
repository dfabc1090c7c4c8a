-- The commands on arrays, and `info exists`.
use Rattle.std.specs.Prelude.{◌%◌, ◌==◌, List, [], ◌∷◌, length, map, filter, slice_get, Option, Some, None, if◌then◌else◌, codes, decimal, bytes_eq}
use Rattle.std.specs.FinMap as finite
use Rattle.txt_core.specs.Names.{Bytes, Words}
use Rattle.txt_core.specs.Lists.{Listing, elements, bad_at}
use Rattle.txt_core.specs.Listing.{listing}
use Rattle.txt_core.specs.Quoting.{quoting}
use Rattle.tcl_frame.specs.Stack.{Stack}
use Rattle.tcl_frame.specs.Frames.{has, is_array, elements_of, removed, pairs_written}
use Rattle.tcl_varcmd.specs.declared.part.Part.{Part}
use Rattle.tcl_varcmd.specs.declared.part.Part.TheVariants.{Exists, Size, Unset, Get, Names, Set}
use Rattle.tcl_varcmd.specs.declared.array.Listed.{Listed}
use Rattle.tcl_varcmd.specs.declared.array.Listed.TheVariants.{Elements, Indexes}
use Rattle.txt_core.specs.ErrorTexts.{unknown_subcommand, bad_value, no_list}
pub use Rattle.txt_core.specs.Truth.{truth_text}
use Rattle.txt_core.specs.Picking.{picks}
use Rattle.tcl_varcmd.specs.Answers.{Came, gives, fails, unless}
use Rattle.natives.specs.Checks.{items}
use Rattle.tcl_varcmd.specs.Errors.{array_error, count_error}
use Rattle.natives.specs.Words.{arg}

-- an element: its index and its value
abbrev pub Pair : Type 0
Pair = Bytes × Bytes

-- the elements that are listed: all, or those whose index matches a pattern
abbrev pub picked : Option Bytes → List Pair → List Pair
picked pattern pairs = filter (λ pair. picks pattern pair.0) pairs

-- indexes and values in turn
abbrev pub in_turn : List Pair → Words
in_turn [] = []
in_turn (pair ∷ pairs) = pair.0 ∷ pair.1 ∷ in_turn pairs

-- what `array get` and `array names` list of elements: their indexes and values in turn, or their indexes
abbrev pub listed_words : Listed → List Pair → Words
listed_words Elements pairs = in_turn pairs
listed_words Indexes pairs = map (λ pair. pair.0) pairs

-- a list must have as many values as indexes
abbrev pub uneven : Bytes → Words → Option Bytes
uneven text list = if length list % 2 == 1 then Some (bad_value text (codes "array")) else None

abbrev pub in_pairs : Bytes → Listing → Option Bytes
in_pairs text (elements list) = uneven text list
in_pairs text (bad_at place) = Some (no_list place)

-- a text that must be such a list
unfoldable pub pairs_error : Bytes → Option Bytes
pairs_error text = in_pairs text (listing text)

-- `array set a list`: the indexes and values of the list are written to the array, which is made where it is absent. The array goes
-- before the list, and all checks before any effect
abbrev pub array_set : Stack → Bytes → Bytes → Came
array_set stack array list =
    unless (array_error stack array) stack (
    unless (pairs_error list) stack (gives [] (pairs_written stack array (items list))))

-- `array unset a` removes an array that is there
abbrev pub unset_array : Stack → Bytes → Came
unset_array stack array = gives [] (if is_array stack array then removed stack array else stack)

-- the elements that `array get` and `array names` list
abbrev pub listed_pairs : Stack → Words → List Pair
listed_pairs stack words = picked (slice_get words 3) (finite.entries (elements_of stack (arg words 2)))

-- the subcommands: `exists a`, `size a` and `unset a`, which removes an array that is there; `get a ?glob?` and
-- `names a ?glob?`; `set a list`
abbrev pub array_part : Stack → Option Part → Words → Came
array_part stack None words = fails (unknown_subcommand (arg words 1) (codes "array")) stack
array_part stack (Some Exists) words =
    unless (count_error 3 3 words (codes "array")) stack (gives (truth_text (is_array stack (arg words 2))) stack)
array_part stack (Some Size) words =
    unless (count_error 3 3 words (codes "array")) stack (gives (decimal (length (finite.entries (elements_of stack (arg words 2))))) stack)
array_part stack (Some Unset) words =
    unless (count_error 3 3 words (codes "array")) stack (unset_array stack (arg words 2))
array_part stack (Some Get) words = gives (quoting (in_turn (listed_pairs stack words))) stack
array_part stack (Some Names) words = gives (quoting (map (λ pair. pair.0) (listed_pairs stack words))) stack
array_part stack (Some Set) words = unless (count_error 4 4 words (codes "array")) stack (array_set stack (arg words 2) (arg words 3))

-- the subcommand of this name
abbrev pub part_named : Bytes → Option Part
part_named name =
    if bytes_eq name (codes "exists") then Some Exists
    else if bytes_eq name (codes "size") then Some Size
    else if bytes_eq name (codes "unset") then Some Unset
    else if bytes_eq name (codes "get") then Some Get
    else if bytes_eq name (codes "names") then Some Names
    else if bytes_eq name (codes "set") then Some Set
    else None

-- `array`: first the number of words that any subcommand may have, then the subcommand
abbrev pub array_came : Stack → Words → Came
array_came stack words = unless (count_error 3 4 words (codes "array")) stack (array_part stack (part_named (arg words 1)) words)

-- `info exists name`: whether a scalar, an array or an element of this name is there
abbrev pub info_came : Stack → Words → Came
info_came stack words = unless (count_error 3 3 words (codes "info")) stack (gives (truth_text (has stack (arg words 2))) stack)
