-- What the questions do that take a list.
use Rattle.std.specs.Prelude.{◌%◌, ◌==◌, [], ◌∷◌, ◌++◌, length, drop, Bool, false, ◌||◌, if◌then◌else◌}
use Rattle.std.specs.FinMap as map
use Rattle.txt_core.specs.Names.{Words}
use Rattle.txt_core.specs.Lists.{Listing, elements, bad_at}
use Rattle.txt_core.specs.Listing.{listing}
use Rattle.txt_core.specs.Quoting.{quoting}
use Rattle.nsv_bucket.specs.declared.reply.NsvReply.TheVariants.{Said}
use Rattle.nsv_bucket.specs.Arrays.{Array, Arrays, array_of, text_at}
use Rattle.txt_core.specs.Limits.{is_long}
use Rattle.txt_core.specs.ErrorTexts.{no_list}
use Rattle.txt_core.specs.Keyed.{with_pairs}
use Rattle.txt_core.specs.Words.{arg}
use Rattle.nsv_bucket.specs.Replies.{Outcome, over_limit, refused, bad_pairs}
use Rattle.nsv_bucket.specs.Writes.{stored}

-- `nsv_lappend ARRAY KEY VALUE VALUE*` puts the values as elements behind those of the value, or of the empty list
-- where the key is absent, and gives the new list
abbrev pub lappended : Arrays → Words → Listing → Outcome
lappended arrays words (bad_at place) = refused arrays (no_list place)
lappended arrays words (elements standing) = stored arrays (arg words 1) (arg words 2) (quoting (standing ++ drop 3 words))

abbrev pub lappend_step : Arrays → Words → Outcome
lappend_step arrays words = lappended arrays words (listing (text_at (array_of arrays (arg words 1)) (arg words 2)))

-- whether a list is one of pairs
abbrev pub is_even : Words → Bool
is_even list = length list % 2 == 0

-- whether a value of the pairs is too long
abbrev pub has_long_value : Words → Bool
has_long_value (key ∷ value ∷ rest) = is_long value || has_long_value rest
has_long_value _ = false

-- the pairs are written over the array, which takes this name; a list of uneven length and a value that is too long are refused
abbrev pub paired : Arrays → Words → Array → Listing → Outcome
paired arrays words array (bad_at place) = refused arrays (no_list place)
paired arrays words array (elements pairs) =
    if is_even pairs then (if has_long_value pairs then over_limit arrays else (Said [], map.insert arrays (arg words 2) (with_pairs array pairs)))
    else refused arrays (bad_pairs (arg words 3))

-- `nsv_array set ARRAY LIST` writes each key of the list with the value behind it; an absent array is made, also by an empty list
abbrev pub array_set_step : Arrays → Words → Outcome
array_set_step arrays words = paired arrays words (array_of arrays (arg words 2)) (listing (arg words 3))

-- `nsv_array reset ARRAY LIST` makes the array anew, with the keys of the list alone
abbrev pub array_reset_step : Arrays → Words → Outcome
array_reset_step arrays words = paired arrays words map.empty (listing (arg words 3))
