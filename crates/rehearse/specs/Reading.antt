-- What the readers of the program find.
use Rattle.std.specs.Prelude.{◌≡◌, ℕ, ◌+◌, ◌≤◌, [], ◌∷◌, ◌++◌, length, Bool, not, ◌==◌, IsTrue, Option, Some, None, decimal, codes}
use Rattle.std.specs.List.{list_all, join_with_byte}
use Rattle.txt_core.specs.Names.{Bytes, Words}
use Rattle.txt_core.specs.Paths.{slash}
use Rattle.rehearse.specs.declared.event.Event as code_event
use Rattle.rehearse.specs.declared.event.Event.TheVariants as code_events
use Rattle.rehearse.specs.declared.head.Actor as code_actor
use Rattle.rehearse.specs.declared.head.Actor.TheVariants as code_actors
use Rattle.rehearse.specs.declared.head.Head.{Head}
use Rattle.rehearse.specs.declared.head.Head.TheVariants as heads
use Rattle.rehearse.specs.declared.keyword.Keyword.TheVariants as keywords
use Rattle.rehearse.specs.Events.{Actor, worker, scheduler, name_of, actor_word, Event, workers, clock, page, define, connect, step, run, most_page, most_block, most_input}
use Rattle.rehearse.specs.Numbers.{IsSmall}
use Rattle.rehearse.specs.Plays.{IsPath}

-- another byte than this one
abbrev pub is_other : ℕ → ℕ → Bool
is_other byte b = not (b == byte)

-- A text is cut at the first of these bytes: the first part has none, and the second is behind it.
abbrev pub CutAt : ℕ → Bytes → Bytes × Bytes → Type 0
CutAt byte text x = IsTrue (list_all (is_other byte) x.0) × (text ≡ x.0 ++ byte ∷ x.1)

-- ---- lines

abbrev pub actor_of : code_actor.Actor → Actor
actor_of (code_actors.Worker number) = worker number
actor_of code_actors.Scheduler = scheduler

abbrev pub IsShortActor : Actor → Type 0
IsShortActor (worker number) = IsSmall number
IsShortActor scheduler = Unit {0}

-- the word of an actor, whose number is small
abbrev pub IsActor : code_actor.Actor → Bytes → Type 0
IsActor actor word = IsShortActor (actor_of actor) × (word ≡ actor_word (actor_of actor))

-- a slash stands in front, and no space behind it
abbrev pub IsPathWord : Bytes → Type 0
IsPathWord path = (rest : Bytes) × (path ≡ slash ∷ rest) × IsTrue (list_all (is_other 32) rest)

-- the words of the line
abbrev pub head_words : Head → Words
head_words (heads.Workers count) = name_of keywords.Workers ∷ decimal count ∷ []
head_words (heads.Clock moment) = name_of keywords.Clock ∷ decimal moment ∷ []
head_words (heads.Page path size) = name_of keywords.Page ∷ path.now ∷ decimal size ∷ []
head_words (heads.Define size) = name_of keywords.Define ∷ decimal size ∷ []
head_words (heads.Connect number size) = name_of keywords.Connect ∷ decimal number ∷ decimal size ∷ []
head_words (heads.Step actor) = name_of keywords.Step ∷ actor_word (actor_of actor) ∷ []
head_words (heads.Run actor) = name_of keywords.Run ∷ actor_word (actor_of actor) ∷ []

-- the length of the block
abbrev pub head_block : Head → Option ℕ
head_block (heads.Workers count) = None
head_block (heads.Clock moment) = None
head_block (heads.Page path size) = Some size
head_block (heads.Define size) = Some size
head_block (heads.Connect number size) = Some size
head_block (heads.Step actor) = None
head_block (heads.Run actor) = None

-- its numbers are small, its block isn't too long, and its path may be one
abbrev pub IsShortHead : Head → Type 0
IsShortHead (heads.Workers count) = IsSmall count
IsShortHead (heads.Clock moment) = IsSmall moment
IsShortHead (heads.Page path size) = IsPathWord path.now × (size ≤ most_page)
IsShortHead (heads.Define size) = size ≤ most_block
IsShortHead (heads.Connect number size) = IsSmall number × (size ≤ most_input)
IsShortHead (heads.Step actor) = IsShortActor (actor_of actor)
IsShortHead (heads.Run actor) = IsShortActor (actor_of actor)

abbrev pub IsHead : Head → Bytes → Type 0
IsHead head line = IsShortHead head × (line ≡ join_with_byte 32 (head_words head))

-- the words behind `page`, and those behind `connect`
abbrev pub PageAt : Head → Bytes → Type 0
PageAt head words = IsHead head (name_of keywords.Page ++ 32 ∷ words)

abbrev pub ConnectAt : Head → Bytes → Type 0
ConnectAt head words = IsHead head (name_of keywords.Connect ++ 32 ∷ words)

-- how many bytes stand behind the line
abbrev pub behind_line : Option ℕ → ℕ
behind_line None = 0
behind_line (Some size) = size + 1

-- the event of the line has so many bytes
abbrev pub SizeOf : Bytes → ℕ → Type 0
SizeOf line size = (head : Head) × IsHead head line × (size ≡ length line + 1 + behind_line (head_block head))

-- ---- events

-- what an event of the program is
abbrev pub event_of : code_event.Event → Event
event_of (code_events.Workers count) = workers count
event_of (code_events.Clock moment) = clock moment
event_of (code_events.Page path text) = page path.now text.now
event_of (code_events.Define block) = define block.now
event_of (code_events.Connect number input) = connect number input.now
event_of (code_events.Step actor) = step (actor_of actor)
event_of (code_events.Run actor) = run (actor_of actor)

-- The numbers of the event are small, its block isn't too long, and its path is one. Every event that may come is so.
abbrev pub IsShort : Event → Type 0
IsShort (workers count) = IsSmall count
IsShort (clock moment) = IsSmall moment
IsShort (page path text) = IsPath path × (length text ≤ most_page)
IsShort (define block) = length block ≤ most_block
IsShort (connect number input) = IsSmall number × (length input ≤ most_input)
IsShort (step actor) = IsShortActor actor
IsShort (run actor) = IsShortActor actor

-- An event of this line, whatever its block has in it.
abbrev pub HasHead : Head → Event → Type 0
HasHead (heads.Workers count) e = e ≡ workers count
HasHead (heads.Clock moment) e = e ≡ clock moment
HasHead (heads.Page path size) e = (text : Bytes) × (length text ≡ size) × (e ≡ page path.now text)
HasHead (heads.Define size) e = (block : Bytes) × (length block ≡ size) × (e ≡ define block)
HasHead (heads.Connect number size) e = (input : Bytes) × (length input ≡ size) × (e ≡ connect number input)
HasHead (heads.Step actor) e = e ≡ step (actor_of actor)
HasHead (heads.Run actor) e = e ≡ run (actor_of actor)
