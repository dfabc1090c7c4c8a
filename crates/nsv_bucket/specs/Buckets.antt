-- The eight buckets, and which of them is asked.
use Rattle.std.specs.Prelude.{ℕ, ◌-◌, ◌%◌, List, sum, slice_get, slice_index, slice_set, replicate, if◌then◌else◌, codes, bytes_eq}
use Rattle.std.specs.FinMap as map
use Rattle.std.specs.Option.{unwrap_or}
use Rattle.txt_core.specs.Names.{Bytes, Words}
use Rattle.txt_core.specs.Limits.{bucket_count}
use Rattle.txt_core.specs.Words.{arg}
use Rattle.nsv_bucket.specs.declared.reply.NsvReply.{NsvReply}
use Rattle.nsv_bucket.specs.Arrays.{Arrays}
use Rattle.nsv_bucket.specs.Questions.{is_bucket_number, first_digit}
use Rattle.nsv_bucket.specs.Steps.{array_step}

-- the number of the bucket in which the array of this name lies: the sum of the name's bytes modulo 8
abbrev pub bucket_of : Bytes → ℕ
bucket_of name = sum name % bucket_count

-- the bucket that a word names: the digit that it is; bucket 0 where it is the number of none
abbrev pub bucket_named : Bytes → ℕ
bucket_named word = if is_bucket_number word then slice_index word 0 - first_digit else 0

-- The bucket to which words are put. Those of `nsv_names` name it by their second word. Those of `nsv_array` are about
-- the array that is their third word, and all others about the array that is their second; a word that is absent counts
-- as the empty name.
abbrev pub bucket_asked : Words → ℕ
bucket_asked words =
    if bytes_eq (arg words 0) (codes "nsv_names") then bucket_named (arg words 1)
    else if bytes_eq (arg words 0) (codes "nsv_array") then bucket_of (arg words 2)
    else bucket_of (arg words 1)

-- all shared arrays: those of each bucket, in order
abbrev pub AllArrays : Type 0
AllArrays = List Arrays

-- the arrays of the bucket with a number; none where there is no such bucket
abbrev pub arrays_of : AllArrays → ℕ → Arrays
arrays_of buckets bucket = unwrap_or (slice_get buckets bucket) map.empty

-- eight buckets with no array
abbrev pub no_arrays : AllArrays
no_arrays = replicate bucket_count map.empty

-- the bucket to which the words are put answers them; the others are as they were
abbrev pub buckets_step : AllArrays → Words → NsvReply × AllArrays
buckets_step buckets words =
    let step = array_step (arrays_of buckets (bucket_asked words)) words in
    (step.0, slice_set buckets (bucket_asked words) step.1)
