-- What the questions answer that change nothing.
use Rattle.std.specs.Prelude.{slice_get, is_some, decimal}
use Rattle.std.specs.FinMap as map
use Rattle.std.specs.Option.{option_map_or}
use Rattle.txt_core.specs.Names.{Bytes, Words}
use Rattle.txt_core.specs.Quoting.{quoting}
use Rattle.txt_core.specs.Words.{arg}
use Rattle.txt_core.specs.Truth.{truth_text}
use Rattle.nsv_bucket.specs.Arrays.{Array, Arrays, array_of, value_of}
use Rattle.nsv_bucket.specs.Listings.{names_in, pairs_in}
use Rattle.nsv_bucket.specs.Replies.{Outcome, answered, refused, no_shared_array, no_key}

-- what comes of an array that has to stand
abbrev pub at_array : Arrays → Bytes → (Array → Outcome) → Outcome
at_array arrays name next = option_map_or next (map.get arrays name) (refused arrays (no_shared_array name))

-- what comes of a value that has to stand; an absent array goes before an absent key
abbrev pub at_key : Arrays → Bytes → Bytes → (Bytes → Outcome) → Outcome
at_key arrays name key next = at_array arrays name (λ array. option_map_or next (map.get array key) (refused arrays (no_key key name)))

-- `nsv_get ARRAY KEY` gives the value
abbrev pub get_step : Arrays → Words → Outcome
get_step arrays words = at_key arrays (arg words 1) (arg words 2) (answered arrays)

-- `nsv_exists ARRAY KEY` gives 1 where the array has the key, else 0
abbrev pub exists_step : Arrays → Words → Outcome
exists_step arrays words = answered arrays (truth_text (is_some (value_of arrays (arg words 1) (arg words 2))))

-- `nsv_names BUCKET ?PATTERN?` gives the list of the names of this bucket's arrays, in byte order
abbrev pub names_step : Arrays → Words → Outcome
names_step arrays words = answered arrays (quoting (names_in (slice_get words 2) (map.entries arrays)))

-- `nsv_array get ARRAY ?PATTERN?` gives the list of keys and values, in byte order of the keys; empty where there is no array
abbrev pub array_get_step : Arrays → Words → Outcome
array_get_step arrays words = answered arrays (quoting (pairs_in (slice_get words 3) (map.entries (array_of arrays (arg words 2)))))

-- `nsv_array names ARRAY ?PATTERN?` gives the list of keys, in byte order; empty where there is no array
abbrev pub array_names_step : Arrays → Words → Outcome
array_names_step arrays words = answered arrays (quoting (names_in (slice_get words 3) (map.entries (array_of arrays (arg words 2)))))

-- `nsv_array size ARRAY` gives the number of keys; 0 where there is no array
abbrev pub array_size_step : Arrays → Words → Outcome
array_size_step arrays words = answered arrays (decimal (map.len (array_of arrays (arg words 2))))

-- `nsv_array exists ARRAY` gives 1 where there is the array, else 0
abbrev pub array_exists_step : Arrays → Words → Outcome
array_exists_step arrays words = answered arrays (truth_text (map.contains_key arrays (arg words 2)))
