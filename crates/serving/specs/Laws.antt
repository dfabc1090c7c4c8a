-- What holds of the definitions themselves.
use Rattle.std.specs.Prelude.{◌≡◌, List, [], ◌∷◌}
use Rattle.std.specs.List.{AllByRecursion}
use Rattle.cmd_table.specs.declared.definition.Def.{Def}
use Rattle.blueprint.specs.Reading.{IsMade}
use Rattle.blueprint.specs.Scripts.{script_of}
use Rattle.blueprint.specs.declared.reply.BlueCall.TheVariants.{Publish}
use Rattle.serving.specs.Calls.{publish_call}
use Rattle.serving.specs.declared.publishing.Asked.TheVariants.{Puts}

-- A question whose one word is the script of definitions that their own commands make is the call that publishes these definitions. So
-- it is never refused at once.
abbrev pub MadeIsPublished : Type 0
MadeIsPublished = (defs : List Def) → AllByRecursion IsMade defs → publish_call (script_of defs ∷ []) ≡ Puts (Publish defs)
