-- What the questions do that write or remove one key.
use Rattle.std.specs.Prelude.{ℤ, ◌+ℤ◌, [], ◌++◌, drop, slice_get, if◌then◌else◌, Option, None, Some, codes}
use Rattle.std.specs.FinMap as map
use Rattle.std.specs.Fmt.{signed_decimal}
use Rattle.std.specs.List.{concat}
use Rattle.std.specs.Option.{option_map_or, unwrap_or}
use Rattle.txt_core.specs.Names.{Bytes, Words}
use Rattle.txt_core.specs.Limits.{is_long}
use Rattle.txt_core.specs.ErrorTexts.{no_integer, overflow}
use Rattle.txt_core.specs.Number.{number, fits}
use Rattle.txt_core.specs.Words.{arg}
use Rattle.nsv_bucket.specs.declared.reply.NsvReply.TheVariants.{Said}
use Rattle.nsv_bucket.specs.Arrays.{Arrays, array_of, text_at, value_of, with_value, without_key}
use Rattle.nsv_bucket.specs.Replies.{Outcome, over_limit, refused}
use Rattle.nsv_bucket.specs.Reads.{at_array, at_key}

-- the value is stored and answered; one that is too long is refused
abbrev pub stored : Arrays → Bytes → Bytes → Bytes → Outcome
stored arrays name key value = if is_long value then over_limit arrays else (Said value, with_value arrays name key value)

-- the value of a key with these bytes behind it is stored and answered; one that is too long is refused
abbrev pub grown : Arrays → Bytes → Bytes → Bytes → Outcome
grown arrays name key more = stored arrays name key (text_at (array_of arrays name) key ++ more)

-- `nsv_set ARRAY KEY VALUE` gives the value
abbrev pub set_step : Arrays → Words → Outcome
set_step arrays words = stored arrays (arg words 1) (arg words 2) (arg words 3)

-- the sum, where it is a number of 64 bits with a sign
abbrev pub sum_of : ℤ → ℤ → Option ℤ
sum_of old more = if fits (old +ℤ more) then Some (old +ℤ more) else None

-- what comes of a text that has to be a number
abbrev pub at_number : Arrays → Bytes → (ℤ → Outcome) → Outcome
at_number arrays text next = option_map_or next (number text) (refused arrays (no_integer text))

-- `nsv_incr ARRAY KEY ?NUMBER?` adds the number, or 1, to the value, or to 0 where the key is absent, and gives the
-- sum. The old value is looked at before the number.
abbrev pub incr_step : Arrays → Words → Outcome
incr_step arrays words =
    at_number arrays (unwrap_or (value_of arrays (arg words 1) (arg words 2)) (codes "0")) (λ old.
    at_number arrays (unwrap_or (slice_get words 3) (codes "1")) (λ more.
    option_map_or (λ sum. stored arrays (arg words 1) (arg words 2) (signed_decimal sum)) (sum_of old more) (refused arrays overflow)))

-- `nsv_append ARRAY KEY VALUE VALUE*` puts the values behind the value, or behind the empty text where the key is
-- absent, and gives the new value
abbrev pub append_step : Arrays → Words → Outcome
append_step arrays words = grown arrays (arg words 1) (arg words 2) (concat (drop 3 words))

-- `nsv_unset ARRAY KEY` removes the key, and gives the empty text
abbrev pub unset_key : Arrays → Bytes → Bytes → Outcome
unset_key arrays name key = at_key arrays name key (λ _. (Said [], without_key arrays name key))

-- `nsv_unset ARRAY` removes the array, and gives the empty text
abbrev pub unset_array : Arrays → Bytes → Outcome
unset_array arrays name = at_array arrays name (λ _. (Said [], map.remove arrays name))

-- `nsv_unset ARRAY ?KEY?`
abbrev pub unset_step : Arrays → Words → Outcome
unset_step arrays words = option_map_or (unset_key arrays (arg words 1)) (slice_get words 2) (unset_array arrays (arg words 1))
