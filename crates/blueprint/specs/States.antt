-- What a blueprint is.
use Rattle.std.specs.Prelude.{◌≡◌, ◌≤◌, ℕ, List, [], ◌∷◌, length, map, Option, Some, None, ◌+◌, if◌then◌else◌}
use Rattle.txt_core.specs.Names.{Names}
use Rattle.cmd_table.specs.declared.definition.Def.{Def}
use Rattle.cmd_table.specs.Table.{Table}
use Rattle.cmd_table.specs.Commands.{defined, fits, Commands}
use Rattle.blueprint.specs.Scripts.{script_of}

-- a definition, with the epoch in which it was published
pub record Row : Type 0 where
  pub epoch : ℕ
  pub def : Def

-- The names of the natives, behind those of the other built-ins; the epoch of the last save, or 0; the epoch; and the rows.
pub record State : Type 0 where
  pub natives : Names
  pub base : ℕ
  pub epoch : ℕ
  pub rows : List Row

-- a new blueprint: nothing was published
abbrev pub fresh : Names → State
fresh natives = record { natives = natives; base = 0; epoch = 0; rows = [] }

-- its definitions are those of its rows
abbrev pub definitions : State → List Def
definitions state = map (λ row. row.def) state.rows

-- definitions as rows of an epoch
abbrev pub rows_of : ℕ → List Def → List Row
rows_of epoch defs = map (λ def. record { epoch = epoch; def = def }) defs

-- ---- limits

-- the most definitions
abbrev pub most_definitions : ℕ
most_definitions = 10000

-- the most bytes of script
abbrev pub most_script : ℕ
most_script = 4194304

-- the last epoch
abbrev pub last_epoch : ℕ
last_epoch = 18446744073709551615

-- ---- allowed states

-- The first definition that doesn't apply behind those before it: its place, where the first of all has this place. None where
-- each applies.
abbrev pub misfit_from : ℕ → Table → List Def → Option ℕ
misfit_from place table [] = None
misfit_from place table (def ∷ defs) = if fits table def then misfit_from (place + 1) (defined table def) defs else Some place

-- places are counted from 0
abbrev pub first_misfit : Table → List Def → Option ℕ
first_misfit table defs = misfit_from 0 table defs

-- from row to row the epochs never fall, and they lie between these two
abbrev pub AreBetween : ℕ → ℕ → List Row → Type 0
AreBetween least most [] = least ≤ most
AreBetween least most (row ∷ rows) = (least ≤ row.epoch) × AreBetween row.epoch most rows

-- The states that the type allows: definitions that apply in order from its names and are within the limits, in rows whose epochs
-- never fall and lie from the base to the epoch.
pub record Allowed (state : State) : Type 0 where
  pub applies : first_misfit (Commands state.natives []) (definitions state) ≡ None
  pub count : length state.rows ≤ most_definitions
  pub bytes : length (script_of (definitions state)) ≤ most_script
  pub epochs : AreBetween state.base state.epoch state.rows
  pub last : state.epoch ≤ last_epoch
