-- What serving costs, in entries of command tables that are written or removed.
use Rattle.std.specs.Prelude.{ℕ, ◌+◌, ◌*◌, Bool, true, false, length, Option, None, Some}
use Rattle.txt_core.specs.Names.{Names}
use Rattle.cmd_table.specs.Commands.{built_ins, Writes}
use Rattle.blueprint.specs.States as blueprints
use Rattle.blueprint.specs.States.{definitions}
use Rattle.blueprint.specs.Looking.{look_answer}
use Rattle.blueprint.specs.declared.reply.BlueReply.{BlueReply}
use Rattle.blueprint.specs.declared.reply.BlueReply.TheVariants as blue_reply
use Rattle.blueprint.specs.declared.reply.Look.{Look}
use Rattle.blueprint.specs.declared.reply.Look.TheVariants as look
use Rattle.shared_state.specs.Views.{BlueEntry}
use Rattle.ictl.specs.Main.{Progress}
use Rattle.worker.specs.Runs.{progress_state, inside_of}
use Rattle.worker.specs.Clean.{Standing}

-- an interpreter that is built on a blueprint writes an entry for each built-in name, those of the natives among them, and those of the
-- definitions
abbrev pub Build : Names → blueprints.State → ℕ
Build names blueprint = length built_ins + length names + Writes (definitions blueprint)

-- an interpreter that knows an epoch writes what was added since; nothing at the same epoch; and all where a save came between
abbrev pub renewal_by : Names → blueprints.State → Look → ℕ
renewal_by names blueprint look.Same = 0
renewal_by names blueprint (look.Since epoch defs) = Writes defs
renewal_by names blueprint (look.Whole epoch defs) = Build names blueprint
renewal_by names blueprint look.NoMemory = Build names blueprint

-- one that is marked is built anew, whatever it knows
abbrev pub renewal_of : Names → blueprints.State → Standing → Bool → ℕ
renewal_of names blueprint standing true = Build names blueprint
renewal_of names blueprint standing false = renewal_by names blueprint (look_answer blueprint standing.edition.epoch)

-- What it costs that the interpreter of a worker is one of this blueprint: where there is none it is built.
abbrev pub renewal : Names → Option Standing → blueprints.State → ℕ
renewal names None blueprint = Build names blueprint
renewal names (Some standing) blueprint = renewal_of names blueprint standing standing.marked

-- What it may cost that a look came to no run: nothing where memory wanted in the look; else the renewal behind it counts twice, since
-- a refused update takes back what it wrote. (A refused building takes nothing back, and costs less.)
abbrev pub vain_cost_by : BlueReply → ℕ → ℕ
vain_cost_by (blue_reply.Look look.NoMemory) cost = 0
vain_cost_by reply cost = 2 * cost

abbrev pub vain_cost : Names → Option Standing → BlueEntry → ℕ
vain_cost names standing entry = vain_cost_by entry.reply (renewal names standing entry.before)

-- What a run costs, as far as it came: what it made is written, and taken back by the reset; and the runs inside it wrote theirs, each
-- from the making of its interpreter on.
abbrev pub run_cost : Progress → ℕ
run_cost progress = 2 * Writes (progress_state progress).made + inside_of progress
