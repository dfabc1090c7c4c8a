-- Which words are a question on shared arrays, and which one.
use Rattle.std.specs.Prelude.{ℕ, ◌+◌, ◌-◌, length, slice_index, Bool, true, ◌&&◌, ◌==◌, nat_le, if◌then◌else◌, Option, None, Some, codes, bytes_eq, is_none}
use Rattle.txt_core.specs.Names.{Bytes, Words}
use Rattle.txt_core.specs.Limits.{bucket_count}
use Rattle.txt_core.specs.Words.{arg}
use Rattle.nsv_bucket.specs.declared.question.ArrayQuestion.{ArrayQuestion}
use Rattle.nsv_bucket.specs.declared.question.ArrayQuestion.TheVariants.{Set, Get, Exists, Incr, Append, Lappend, Unset, Names, ArraySet, ArrayReset, ArrayGet, ArrayNames, ArraySize, ArrayExists}

-- the digit of the first bucket, 0
abbrev pub first_digit : ℕ
first_digit = 48

-- the digit of the last bucket
abbrev pub last_digit : ℕ
last_digit = first_digit + (bucket_count - 1)

-- the number of a bucket: one of their digits
abbrev pub is_bucket_number : Bytes → Bool
is_bucket_number word = (length word == 1) && (nat_le first_digit (slice_index word 0) && nat_le (slice_index word 0) last_digit)

-- the fewest words that a question has, the command's name and the subcommand's among them
abbrev pub least_words : ArrayQuestion → ℕ
least_words Set = 4
least_words Get = 3
least_words Exists = 3
least_words Incr = 3
least_words Append = 4
least_words Lappend = 4
least_words Unset = 2
least_words Names = 2
least_words ArraySet = 4
least_words ArrayReset = 4
least_words ArrayGet = 3
least_words ArrayNames = 3
least_words ArraySize = 3
least_words ArrayExists = 3

-- the most words that a question has; none where there is no such number
abbrev pub most_words : ArrayQuestion → Option ℕ
most_words Set = Some 4
most_words Get = Some 3
most_words Exists = Some 3
most_words Incr = Some 4
most_words Append = None
most_words Lappend = None
most_words Unset = Some 3
most_words Names = Some 3
most_words ArraySet = Some 4
most_words ArrayReset = Some 4
most_words ArrayGet = Some 4
most_words ArrayNames = Some 4
most_words ArraySize = Some 3
most_words ArrayExists = Some 3

-- a number is at most another one, where there is one
abbrev pub is_at_most : ℕ → Option ℕ → Bool
is_at_most count None = true
is_at_most count (Some most) = nat_le count most

-- a question takes so many words
abbrev pub takes : ArrayQuestion → ℕ → Bool
takes question count = nat_le (least_words question) count && is_at_most count (most_words question)

-- the words have this name, and a number that the question takes
abbrev pub asks : Words → Bytes → ArrayQuestion → Bool
asks words name question = bytes_eq (arg words 0) name && takes question (length words)

-- the question that a subcommand of `nsv_array` is
abbrev pub subcommand_named : Bytes → Option ArrayQuestion
subcommand_named name =
    if bytes_eq name (codes "set") then Some ArraySet
    else if bytes_eq name (codes "reset") then Some ArrayReset
    else if bytes_eq name (codes "get") then Some ArrayGet
    else if bytes_eq name (codes "names") then Some ArrayNames
    else if bytes_eq name (codes "size") then Some ArraySize
    else if bytes_eq name (codes "exists") then Some ArrayExists
    else None

-- a subcommand's question, where the words have a number that it takes
abbrev pub where_counted : Words → Option ArrayQuestion → Option ArrayQuestion
where_counted words None = None
where_counted words (Some question) = if takes question (length words) then Some question else None

-- the words are of `nsv_array`
abbrev pub is_of_array : Words → Bool
is_of_array words = bytes_eq (arg words 0) (codes "nsv_array")

-- on one array of `nsv_array`
abbrev pub array_question_of : Words → Option ArrayQuestion
array_question_of words = if is_of_array words then where_counted words (subcommand_named (arg words 1)) else None

-- The words are those of `nsv_array`, in a number that one of its subcommands takes, but without a subcommand. `get` takes
-- each number that one of them takes.
abbrev pub lacks_subcommand : Words → Bool
lacks_subcommand words = is_of_array words && takes ArrayGet (length words) && is_none (subcommand_named (arg words 1))

-- one that may have more words than any other
abbrev pub adding_question_of : Words → Option ArrayQuestion
adding_question_of words =
    if asks words (codes "nsv_append") Append then Some Append
    else if asks words (codes "nsv_lappend") Lappend then Some Lappend
    else array_question_of words

-- The question that the words are; none where they have another name, a number of words that its entry doesn't
-- allow, or a subcommand that `nsv_array` lacks. `nsv_names` has the number of the bucket as its second word.
abbrev pub question_of : Words → Option ArrayQuestion
question_of words =
    if asks words (codes "nsv_set") Set then Some Set
    else if asks words (codes "nsv_get") Get then Some Get
    else if asks words (codes "nsv_exists") Exists then Some Exists
    else if asks words (codes "nsv_incr") Incr then Some Incr
    else if asks words (codes "nsv_unset") Unset then Some Unset
    else if asks words (codes "nsv_names") Names && is_bucket_number (arg words 1) then Some Names
    else adding_question_of words
