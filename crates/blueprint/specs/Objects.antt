-- A blueprint as an object: its steps, and the order of its states.
use Rattle.std.specs.Prelude.{◌≡◌, ◌<◌, ◌++◌, ◌⊎◌, List}
use Rattle.std.specs.List.{AllByRecursion}
use Rattle.blueprint.specs.declared.reply.BlueCall.{BlueCall}
use Rattle.blueprint.specs.declared.reply.BlueCall.TheVariants as calls
use Rattle.blueprint.specs.declared.reply.BlueReply.{BlueReply}
use Rattle.blueprint.specs.declared.reply.BlueReply.TheVariants as replies
use Rattle.blueprint.specs.States.{Row, State}
use Rattle.blueprint.specs.Publishing.{Publishes, Saves}
use Rattle.blueprint.specs.Looking.{Looks}

-- the call takes the first state to this reply and the second state
abbrev pub BlueprintSteps : State → BlueCall → BlueReply → State → Type 0
BlueprintSteps state (calls.Look epoch) (replies.Look look) now = Looks state epoch look × (now ≡ state)
BlueprintSteps state (calls.Publish made) (replies.Published published) now = Publishes state made published now
BlueprintSteps state (calls.Save script) (replies.Published published) now = Saves state script published now
BlueprintSteps state (calls.Look epoch) (replies.Published published) now = ⊥
BlueprintSteps state (calls.Publish made) (replies.Look look) now = ⊥
BlueprintSteps state (calls.Save script) (replies.Look look) now = ⊥

-- no save came between: the rows are a front of the later ones, and each further row has a later epoch
abbrev pub GrewTo : State → State → Type 0
GrewTo state now = (state.base ≡ now.base) × ((further : List Row) × (now.rows ≡ state.rows ++ further) × AllByRecursion (λ row. state.epoch < row.epoch) further)

-- The one state may have become the other: they are the same, or the names are, the epoch is later, and a save came between or
-- none did.
abbrev pub Reaches : State → State → Type 0
Reaches state now = (state ≡ now) ⊎ ((state.natives ≡ now.natives) × (state.epoch < now.epoch) × ((state.epoch < now.base) ⊎ GrewTo state now))
