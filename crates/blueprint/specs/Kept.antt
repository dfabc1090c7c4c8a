-- What the program answers and keeps.
use Rattle.std.specs.Prelude.{◌≡◌, ◌≤◌, ℕ, ◌+◌, List, [], ◌∷◌, ◌++◌, length, Bool, false, if◌then◌else◌, unwrap_or, Option, Some, None, IsSome, Result, Ok, Err}
use Rattle.std.specs.Option.{is_some}
use Rattle.std.specs.List.{AllByRecursion}
use Rattle.std.specs.BTreeMap.{BTreeMap, get, is_at}
use Rattle.txt_core.specs.Names.{Bytes, Words, Names}
pub use Rattle.txt_core.specs.Order.{text_cmp}
use Rattle.cmd_table.specs.declared.definition.Def.{Def}
use Rattle.cmd_table.specs.Table.{Table, command_of, names_of}
use Rattle.cmd_table.specs.Commands.{Commands}
use Rattle.blueprint.specs.declared.reply.ScriptFault.{ScriptFault}
use Rattle.blueprint.specs.declared.reply.ScriptFault.TheVariants as faults
use Rattle.blueprint.specs.declared.reply.Published.{Published}
use Rattle.blueprint.specs.declared.reply.Published.TheVariants as replies
use Rattle.blueprint.specs.declared.names.Row.{Row}
use Rattle.blueprint.specs.declared.room.Room.{Room}
use Rattle.blueprint.specs.Scripts.{script_of}
use Rattle.blueprint.specs.Reading.{Scripted, scripted, definitions, no_definition}
use Rattle.blueprint.specs.States as states
use Rattle.blueprint.specs.States.{State, rows_of, most_definitions, most_script, Allowed}

-- what is answered for commands or a script: the definitions, or the number of the first command that is none. Want of memory is
-- free.
abbrev pub IsFound : Scripted → Result (List Def) ScriptFault → Type 0
IsFound expected (Ok defs) = expected ≡ definitions defs
IsFound expected (Err (faults.NotADefinition number)) = expected ≡ no_definition number
IsFound expected (Err faults.NoMemory) = Unit {0}

abbrev pub IsScripted : Bytes → Result (List Def) ScriptFault → Type 0
IsScripted script result = IsFound (scripted script) result

-- words in front of those that are still to be read
abbrev pub put_words : Words → Option Words → Option Words
put_words front (Some words) = Some (front ++ words)
put_words front None = None

-- definitions in front of those that are still to be read
abbrev pub put_defs : List Def → Scripted → Scripted
put_defs front (definitions defs) = definitions (front ++ defs)
put_defs front (no_definition number) = no_definition number

-- ---- the names that are commands

abbrev pub same_name : Bytes → Bytes → Bool
same_name first second = is_at (text_cmp first) second

-- what is kept of names
abbrev pub Slots : Type 0
Slots = BTreeMap Bytes Bool

-- whether a name is a command
abbrev pub is_there : Slots → Bytes → Bool
is_there slots name = unwrap_or (get text_cmp slots name) false

-- whether names are commands, once this one is as it is said
abbrev pub with_name : Bytes → Bool → (Bytes → Bool) → Bytes → Bool
with_name name there others other = if same_name name other then there else others other

-- whether they were before changes, the first of which stands first
abbrev pub undone : List Row → (Bytes → Bool) → Bytes → Bool
undone [] names = names
undone (row ∷ rows) names = with_name row.name row.before (undone rows names)

-- a name that was changed has its place
abbrev pub HasPlace : Slots → Row → Type 0
HasPlace slots row = IsSome (get text_cmp slots row.name)

abbrev pub HavePlaces : Slots → List Row → Type 0
HavePlaces slots rows = AllByRecursion (HasPlace slots) rows

-- what the names were before the changes stays the same, whatever else is changed
abbrev pub HasSamePast : Slots → List Row → Slots → List Row → Type 0
HasSamePast slots rows after more = (name : Bytes) → undone more (is_there after) name ≡ undone rows (is_there slots) name

-- where each name that was changed had its place, each has
abbrev pub KeepsPlaces : Slots → List Row → Slots → List Row → Type 0
KeepsPlaces slots rows after more = HavePlaces slots rows → HavePlaces after more

-- what is kept of the names is what is a command
abbrev pub AreCommands : Slots → Table → Type 0
AreCommands slots table = (name : Bytes) → is_there slots name ≡ is_some (command_of table name)

-- ---- the definitions, epoch by epoch

-- the definitions of several lists, one list behind the other
abbrev pub all_of : List (List Def) → List Def
all_of [] = []
all_of (defs ∷ lists) = defs ++ all_of lists

-- the lines of several lists
abbrev pub lines_of : List (List Def) → Bytes
lines_of [] = []
lines_of (defs ∷ lists) = script_of defs ++ lines_of lists

-- lists of definitions as rows of epochs that rise by one from this one on
abbrev pub rows_from : ℕ → List (List Def) → List states.Row
rows_from epoch [] = []
rows_from epoch (defs ∷ lists) = rows_of epoch defs ++ rows_from (epoch + 1) lists

-- what the program keeps, as a state
abbrev pub state_of : Names → ℕ → List Def → List (List Def) → State
state_of natives base saved later = record { natives = natives; base = base; epoch = base + length later; rows = rows_from base (saved ∷ later) }

-- what it keeps beside is right
pub record Keeps (natives built : Names) (slots : Slots) (base : ℕ) (saved : List Def) (later : List (List Def)) (count size : ℕ) : Type 0 where
  pub built_ins : built ≡ names_of (Commands natives [])
  pub names : AreCommands slots (Commands natives (saved ++ all_of later))
  pub allowed : Allowed (state_of natives base saved later)
  pub counted : count ≡ length (saved ++ all_of later)
  pub sized : size ≡ length (script_of (saved ++ all_of later))
  pub few : count ≤ most_definitions
  pub short : size ≤ most_script

-- ---- definitions that are tried

-- a refusal, which is the one that is expected or want of memory
abbrev pub IsRefused : Published → Published → Type 0
IsRefused expected replies.NoMemory = Unit {0}
IsRefused expected (replies.Done epoch) = ⊥
IsRefused expected (replies.NotADefinition number) = replies.NotADefinition number ≡ expected
IsRefused expected (replies.NotApplicable place) = replies.NotApplicable place ≡ expected
IsRefused expected (replies.Full limit) = replies.Full limit ≡ expected

-- how much there is then, where the definitions are taken, or a refusal
abbrev pub IsChecked : Published → ℕ → List Def → Result Room Published → Type 0
IsChecked expected epoch all (Ok room) = (expected ≡ replies.Done room.epoch) × (room.epoch ≡ epoch + 1) × (room.count ≡ length all) × (room.size ≡ length (script_of all))
IsChecked expected epoch all (Err refusal) = IsRefused expected refusal
