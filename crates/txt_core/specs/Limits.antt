-- The limits that several parts of the server have in common.
use Rattle.std.specs.Prelude.{ℕ, length, Bool, nat_lt, min}
use Rattle.txt_core.specs.Names.{Bytes, Moment}

-- how many bytes a value may have: a word, a variable, an element, a result, the text of an error, a page
abbrev pub most_bytes : ℕ
most_bytes = 1048576

-- whether a text is over the limit of a value
abbrev pub is_long : Bytes → Bool
is_long text = nat_lt most_bytes (length text)

-- how deep scripts, brackets and indexes, or parentheses, may stand in one another
abbrev pub most_nested : ℕ
most_nested = 200

-- the last moment: the last second of the year 9999, in seconds since the beginning of 1970
abbrev pub last_moment : ℕ
last_moment = 253402300799

-- a later moment counts as the last one
abbrev pub moment_of : ℕ → Moment
moment_of moment = min moment last_moment

-- what a run may spend
abbrev pub run_budget : ℕ
run_budget = 200000

-- how many workers there may be
abbrev pub most_workers : ℕ
most_workers = 16

-- in how many buckets the shared arrays stand
abbrev pub bucket_count : ℕ
bucket_count = 8
