-- The events of a rehearsal, and how a file spells them.
use Rattle.std.specs.Prelude.{ℕ, List, [], ◌∷◌, ◌++◌, length, decimal, codes, Option, Some, None}
use Rattle.std.specs.List.{join_with_byte}
use Rattle.txt_core.specs.Names.{Bytes, Words, Moment}
use Rattle.txt_core.specs.Limits.{most_bytes}
use Rattle.rehearse.specs.declared.keyword.Keyword.{Keyword}
use Rattle.rehearse.specs.declared.keyword.Keyword.TheVariants as keywords

-- who takes steps: a worker by its number, from 0, or the scheduler
pub data Actor : Type 0 where
  worker : (number : ℕ) → Actor
  scheduler : Actor

pub data Event : Type 0 where
  -- says how many workers there are
  workers : (count : ℕ) → Event
  -- sets the moment that the clock shows, in seconds since 1970
  clock : (moment : Moment) → Event
  -- sets the page of a path
  page : (path text : Bytes) → Event
  -- runs a block as a start script
  define : (block : Bytes) → Event
  -- gives a worker a connection with this input
  connect : (number : ℕ) (input : Bytes) → Event
  -- lets an actor take one step
  step : (actor : Actor) → Event
  -- lets an actor take steps until it is idle
  run : (actor : Actor) → Event

-- ---- spelling

abbrev pub line_end : Bytes
line_end = 10 ∷ []

-- A line is words with one space between, and a newline.
abbrev pub line_of : Words → Bytes
line_of words = join_with_byte 32 words ++ line_end

-- behind a line there may be a block, which is followed by a newline
abbrev pub block_end : Option Bytes → Bytes
block_end (Some block) = block ++ line_end
block_end None = []

-- the first word of each event
abbrev pub name_of : Keyword → Bytes
name_of keywords.Workers = codes "workers"
name_of keywords.Clock = codes "clock"
name_of keywords.Page = codes "page"
name_of keywords.Define = codes "define"
name_of keywords.Connect = codes "connect"
name_of keywords.Step = codes "step"
name_of keywords.Run = codes "run"

abbrev pub actor_word : Actor → Bytes
actor_word (worker number) = decimal number
actor_word scheduler = codes "s"

-- The words of an event's line. Numbers are decimal without extra zeros; where there is a block, the last word is its length.
abbrev pub words_of : Event → Words
words_of (workers count) = name_of keywords.Workers ∷ decimal count ∷ []
words_of (clock moment) = name_of keywords.Clock ∷ decimal moment ∷ []
words_of (page path text) = name_of keywords.Page ∷ path ∷ decimal (length text) ∷ []
words_of (define block) = name_of keywords.Define ∷ decimal (length block) ∷ []
words_of (connect number input) = name_of keywords.Connect ∷ decimal number ∷ decimal (length input) ∷ []
words_of (step actor) = name_of keywords.Step ∷ actor_word actor ∷ []
words_of (run actor) = name_of keywords.Run ∷ actor_word actor ∷ []

abbrev pub block_of : Event → Option Bytes
block_of (workers count) = None
block_of (clock moment) = None
block_of (page path text) = Some text
block_of (define block) = Some block
block_of (connect number input) = Some input
block_of (step actor) = None
block_of (run actor) = None

abbrev pub spelled : Event → Bytes
spelled e = line_of (words_of e) ++ block_end (block_of e)

-- the file of these events
abbrev pub file_of : List Event → Bytes
file_of [] = []
file_of (e ∷ events) = spelled e ++ file_of events

-- ---- limits

-- the byte of a file past which no event may go
abbrev pub most_file : ℕ
most_file = 67108864

-- the most bytes of a page, of a block that is run, and of a connection's input
abbrev pub most_page : ℕ
most_page = most_bytes

abbrev pub most_block : ℕ
most_block = 8388608

abbrev pub most_input : ℕ
most_input = 16777216
