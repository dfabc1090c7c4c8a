-- What holds of the definitions themselves.
use Rattle.std.specs.Prelude.{◌≡◌, ◌<◌, ◌++◌, ℕ, List, [], None}
use Rattle.std.specs.List.{AllByRecursion}
use Rattle.cmd_table.specs.declared.definition.Def.{Def}
use Rattle.cmd_table.specs.Commands.{Commands}
use Rattle.blueprint.specs.declared.reply.Look.TheVariants.{Same, Since, Whole}
use Rattle.blueprint.specs.Scripts.{script_of}
use Rattle.blueprint.specs.Reading as reading
use Rattle.blueprint.specs.Reading.{IsMade, scripted}
use Rattle.blueprint.specs.States.{State, definitions, first_misfit, Allowed}
use Rattle.blueprint.specs.Looking.{Looks}
use Rattle.blueprint.specs.Objects.{Reaches}

-- definitions that their commands make are those of their script
abbrev pub ScriptsAreRead : Type 0
ScriptsAreRead = (defs : List Def) → AllByRecursion IsMade defs → scripted (script_of defs) ≡ reading.definitions defs

-- ---- what one knows who saw an earlier state, and looks at the one that it has become

-- where the epoch is the same, so is the state
abbrev pub EqualEpochsAreOneState : Type 0
EqualEpochsAreOneState = (earlier now : State) → Allowed earlier → Allowed now → Reaches earlier now → earlier.epoch ≡ now.epoch → earlier ≡ now

-- and so are the definitions
abbrev pub EqualEpochsHaveEqualDefinitions : Type 0
EqualEpochsHaveEqualDefinitions = (earlier now : State) → Allowed earlier → Allowed now → Reaches earlier now → earlier.epoch ≡ now.epoch → definitions earlier ≡ definitions now

-- `Same` tells that the state is the earlier one
abbrev pub SameIsUnchanged : Type 0
SameIsUnchanged = (earlier now : State) → Allowed earlier → Allowed now → Reaches earlier now → Looks now earlier.epoch Same → earlier ≡ now

-- `Since` tells the epoch of now, and the definitions of now are the earlier ones and then those that it tells
abbrev pub SinceIsAdded : Type 0
SinceIsAdded =
    (earlier now : State) → Allowed earlier → Allowed now → Reaches earlier now → (epoch : ℕ) (defs : List Def) → Looks now earlier.epoch (Since epoch defs)
    → (epoch ≡ now.epoch) × (definitions now ≡ definitions earlier ++ defs)

-- and these apply in order behind the earlier ones
abbrev pub SinceApplies : Type 0
SinceApplies =
    (earlier now : State) → Allowed earlier → Allowed now → Reaches earlier now → (epoch : ℕ) (defs : List Def) → Looks now earlier.epoch (Since epoch defs)
    → first_misfit (Commands now.natives (definitions earlier)) defs ≡ None

-- `Whole` tells the epoch of now and all definitions of now, which apply in order from the built-in names; this holds whatever epoch
-- was named
abbrev pub WholeIsAll : Type 0
WholeIsAll =
    (now : State) → Allowed now → (seen epoch : ℕ) (defs : List Def) → Looks now seen (Whole epoch defs)
    → (epoch ≡ now.epoch) × (defs ≡ definitions now) × (first_misfit (Commands now.natives []) defs ≡ None)

-- where the epoch of an earlier state was named, a save came since then
abbrev pub WholeIsBehindASave : Type 0
WholeIsBehindASave =
    (earlier now : State) → Allowed earlier → Allowed now → Reaches earlier now → (epoch : ℕ) (defs : List Def) → Looks now earlier.epoch (Whole epoch defs)
    → earlier.epoch < now.base
