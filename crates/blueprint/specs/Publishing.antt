-- What comes of definitions that are to be published, and of a script that is to be saved.
use Rattle.std.specs.Prelude.{◌≡◌, ℕ, ◌+◌, List, [], ◌++◌, length, ◌==◌, ◌||◌, nat_lt, if◌then◌else◌, Option, Some, None}
use Rattle.txt_core.specs.Names.{Bytes, Names}
use Rattle.cmd_table.specs.declared.definition.Def.{Def}
use Rattle.cmd_table.specs.Commands.{Commands}
use Rattle.blueprint.specs.declared.reply.Published.{Published}
use Rattle.blueprint.specs.declared.reply.Published.TheVariants as replies
use Rattle.blueprint.specs.declared.reply.Limit.TheVariants.{Count, Bytes as In_bytes}
use Rattle.blueprint.specs.Scripts.{script_of}
use Rattle.blueprint.specs.Reading.{Scripted, scripted, no_definition}
use Rattle.blueprint.specs.Reading as reading
use Rattle.blueprint.specs.States.{State, definitions, rows_of, first_misfit, most_definitions, most_script, last_epoch}

-- by how much it would hold: more definitions than may be, or no further epoch, goes before too many bytes of script
abbrev pub by_room : ℕ → List Def → Published
by_room epoch all =
    if nat_lt most_definitions (length all) || (epoch == last_epoch) then replies.Full Count
    else if nat_lt most_script (length (script_of all)) then replies.Full In_bytes
    else replies.Done (epoch + 1)

-- by the first definition that doesn't apply, if any: that goes before all limits
abbrev pub by_misfit : Option ℕ → Published → Published
by_misfit (Some place) room = replies.NotApplicable place
by_misfit None room = room

-- what is answered where definitions are put behind others
abbrev pub answer : Names → ℕ → List Def → List Def → Published
answer natives epoch before made = by_misfit (first_misfit (Commands natives before) made) (by_room epoch (before ++ made))

-- A publication puts its definitions behind those that stand, at once, and raises the epoch by 1.
abbrev pub publish_answer : State → List Def → Published
publish_answer state made = answer state.natives state.epoch (definitions state) made

abbrev pub with_published : State → List Def → State
with_published state made = record { natives = state.natives; base = state.base; epoch = state.epoch + 1; rows = state.rows ++ rows_of (state.epoch + 1) made }

-- A save puts its definitions in the place of all, and raises the epoch by 1.
abbrev pub save_answer : State → Scripted → Published
save_answer state (no_definition number) = replies.NotADefinition number
save_answer state (reading.definitions made) = answer state.natives state.epoch [] made

abbrev pub with_saved : State → List Def → State
with_saved state made = record { natives = state.natives; base = state.epoch + 1; epoch = state.epoch + 1; rows = rows_of (state.epoch + 1) made }

abbrev pub saved_defs : Scripted → List Def
saved_defs (no_definition number) = []
saved_defs (reading.definitions made) = made

-- the state after an answer: where it is done another one, else the same
abbrev pub after : Published → State → State → State
after (replies.Done epoch) state other = other
after (replies.NotADefinition number) state other = state
after (replies.NotApplicable place) state other = state
after (replies.Full limit) state other = state
after replies.NoMemory state other = state

-- what is answered, and the state after it; want of memory leaves the state, and nothing tells when it comes
abbrev pub Answers : State → Published → State → Published → State → Type 0
Answers state expected other replies.NoMemory now = now ≡ state
Answers state expected other (replies.Done epoch) now = (replies.Done epoch ≡ expected) × (now ≡ other)
Answers state expected other (replies.NotADefinition number) now = (replies.NotADefinition number ≡ expected) × (now ≡ state)
Answers state expected other (replies.NotApplicable place) now = (replies.NotApplicable place ≡ expected) × (now ≡ state)
Answers state expected other (replies.Full limit) now = (replies.Full limit ≡ expected) × (now ≡ state)

abbrev pub Publishes : State → List Def → Published → State → Type 0
Publishes state made reply now = Answers state (publish_answer state made) (with_published state made) reply now

abbrev pub Saves : State → Bytes → Published → State → Type 0
Saves state script reply now = Answers state (save_answer state (scripted script)) (with_saved state (saved_defs (scripted script))) reply now
