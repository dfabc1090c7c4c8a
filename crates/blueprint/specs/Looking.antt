-- What a look at a blueprint answers.
use Rattle.std.specs.Prelude.{◌≡◌, ◌≢◌, ℕ, List, ◌==◌, ◌&&◌, map, filter, nat_le, nat_lt, if◌then◌else◌}
use Rattle.cmd_table.specs.declared.definition.Def.{Def}
use Rattle.blueprint.specs.declared.reply.Look.{Look}
use Rattle.blueprint.specs.declared.reply.Look.TheVariants.{Same, Since, Whole, NoMemory}
use Rattle.blueprint.specs.States.{Row, State, definitions}

-- the definitions that were published after an epoch
abbrev pub since : ℕ → List Row → List Def
since epoch rows = map (λ row. row.def) (filter (λ row. nat_lt epoch row.epoch) rows)

-- To one who last saw this epoch: nothing is new; or what was added since then, where no save came between; or all that stands.
-- One who names a later epoch than there is gets all.
abbrev pub look_answer : State → ℕ → Look
look_answer state epoch =
    if epoch == state.epoch then Same
    else if nat_le state.base epoch && nat_lt epoch state.epoch then Since state.epoch (since epoch state.rows)
    else Whole state.epoch (definitions state)

-- what a look answers; where nothing is new it takes no memory
abbrev pub Looks : State → ℕ → Look → Type 0
Looks state epoch NoMemory = epoch ≢ state.epoch
Looks state epoch Same = Same ≡ look_answer state epoch
Looks state epoch (Since now defs) = Since now defs ≡ look_answer state epoch
Looks state epoch (Whole now defs) = Whole now defs ≡ look_answer state epoch
