-- The commands on shared arrays, which are questions: their number of words and the subcommand are looked at here, and all else
-- by what holds the arrays.
use Rattle.std.specs.Prelude.{◌≡◌, ℕ, [], ◌∷◌, ◌++◌, length, drop, decimal, Bool, nat_lt, if◌then◌else◌, codes, is_some, Result, Ok, Err}
use Rattle.std.specs.Ordering.{nat_cmp, is_lt}
use Rattle.std.specs.Cmp.Lexicographic.{slice_cmp}
use Rattle.txt_core.specs.Names.{Bytes, Words}
use Rattle.txt_core.specs.ErrorTexts.{wrong_words, no_list}
use Rattle.txt_core.specs.Limits.{bucket_count}
use Rattle.txt_core.specs.Lists.{Listing, elements, bad_at}
use Rattle.txt_core.specs.Listing.{listing}
use Rattle.txt_core.specs.Quoting.{quoting}
use Rattle.tcl_list.specs.declared.fault.ListFault.{ListFault}
use Rattle.tcl_list.specs.declared.fault.ListFault.TheVariants.{Bad, NoMemory}
use Rattle.natives.specs.Sorting.{in_order}
use Rattle.natives.specs.Words.{arg}
use Rattle.nsv_bucket.specs.Questions.{question_of, lacks_subcommand}
use Rattle.outside.specs.declared.question.Answer.{Answer}
use Rattle.outside.specs.declared.question.Answer.TheVariants.{Said, Failed, Page, NoPage, PageFault}
use Rattle.outside.specs.declared.question.Question.{Question}
use Rattle.outside.specs.declared.question.Service.TheVariants as service
use Rattle.tcl_host.specs.Leaf.{Leaf, wants}
use Rattle.server_host.specs.Hosts.{HostState, with_gathered}
use Rattle.tcl_host.specs.Checks.{gives, fails, is_counted, shaped, no_subcommand}

-- ---- commands that ask one question

-- the words are asked of the shared arrays
abbrev pub asks_nsv : Words → HostState → Leaf HostState
asks_nsv words host = wants (record { service = service.Nsv; words = words }) host

-- the words are a question on shared arrays: their number is right, and the subcommand where there is to be one
abbrev pub is_question : Words → Bool
is_question words = is_some (question_of words)

-- why words of a command on shared arrays aren't asked
abbrev pub unasked : Words → HostState → Leaf HostState
unasked words host = if lacks_subcommand words then no_subcommand words host else fails (wrong_words (arg words 0)) host

-- A command on shared arrays, but for `nsv_names`, is one question: its own words. They are asked exactly where they are a
-- question.
abbrev pub nsv : Words → HostState → Leaf HostState
nsv words host = if is_question words then asks_nsv words host else unasked words host

-- ---- `nsv_names`

-- no answer is kept
abbrev pub ungathered : HostState → HostState
ungathered host = with_gathered host []

-- the names of a bucket are asked for, with the pattern where there is one
abbrev pub names_question : Words → ℕ → Question
names_question words bucket = record { service = service.Nsv; words = codes "nsv_names" ∷ decimal bucket ∷ drop 1 words }

-- the first bucket is asked, and nothing is gathered yet
abbrev pub asks_names : Words → HostState → Leaf HostState
asks_names words host = wants (names_question words 0) (ungathered host)

-- `nsv_names ?GLOB?` asks the buckets one after the other, from bucket 0 on
abbrev pub nsv_names : Words → HostState → Leaf HostState
nsv_names words host = shaped (is_counted 1 2 words) words (asks_names words) host

-- names in front of others; a place where an answer is bad takes the place of all
abbrev pub with_names : Listing → Result Words ℕ → Result Words ℕ
with_names (elements names) (Ok more) = Ok (names ++ more)
with_names (elements names) (Err place) = Err place
with_names (bad_at place) more = Err place

-- The names of all answers, each of which is a list; or the place where the first one that is none is bad.
abbrev pub all_names : Words → Result Words ℕ
all_names [] = Ok []
all_names (answer ∷ answers) = with_names (listing answer) (all_names answers)

-- whether a text stands before another one by bytes; a front stands before the whole
abbrev pub by_bytes : Bytes → Bytes → Bool
by_bytes x y = is_lt (slice_cmp nat_cmp x y)

-- the result is the list of all names, sorted by bytes
abbrev pub names_end : Result Words ℕ → HostState → Leaf HostState
names_end (Ok names) host = gives (quoting (in_order by_bytes names)) host
names_end (Err place) host = fails (no_list place) host

-- so many answers are there: the next bucket is asked, or all have answered, and no answer is kept
abbrev pub names_next : Words → Words → HostState → Leaf HostState
names_next words gathered host =
    if nat_lt (length gathered) bucket_count then wants (names_question words (length gathered)) (with_gathered host gathered)
    else names_end (all_names gathered) (ungathered host)

-- a bucket answers `nsv_names`; a refusal ends the command, and no answer is kept
abbrev pub names_answered : Words → Answer → HostState → Leaf HostState
names_answered words (Said text) host = names_next words (host.gathered ++ text ∷ []) host
names_answered words (Failed why) host = fails why (ungathered host)
names_answered words (Page page) host = fails [] (ungathered host)
names_answered words NoPage host = fails [] (ungathered host)
names_answered words PageFault host = fails [] (ungathered host)

-- The program gathers the names, or finds the place. Want of memory says nothing.
abbrev pub Gathers : Result Words ℕ → Result Words ListFault → Type 0
Gathers all (Ok names) = all ≡ Ok names
Gathers all (Err (Bad at)) = all ≡ Err at
Gathers all (Err NoMemory) = Unit {0}
