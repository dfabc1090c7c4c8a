-- Workers whose interpreter is as newly made.
use Rattle.std.specs.Prelude.{◌≡◌, Bool, Option, None, Some}
use Rattle.txt_core.specs.Names.{Names}
use Rattle.turn_cell.specs.Members.{Left}
use Rattle.turn_cell.specs.Cells.{pass_view}
use Rattle.blueprint.specs.States as blueprints
use Rattle.server_host.specs.declared.edition.Edition.{Edition}
use Rattle.ictl.specs.declared.interp.Interp.{Interp}
use Rattle.ictl.specs.Interps.{IsNew}
use Rattle.shared_state.specs.declared.shared.Passes.{Passes}
use Rattle.shared_state.specs.Views.{BlueView}
use Rattle.worker.specs.Runs.{edition_of}
use Rattle.worker.specs.declared.worker.Worker.{Worker}

-- ---- where a worker's interpreter stands

-- the blueprint that its interpreter was made from, and whether the last run marked it
pub record Standing : Type 0 where
  pub edition : Edition
  pub marked : Bool

abbrev pub edition_in : Interp → Edition
edition_in interp = interp.blueprint.value

abbrev pub standing_in : Option Interp → Option Standing
standing_in None = None
standing_in (Some interp) = Some (record { edition = edition_in interp; marked = interp.settling.run.engine.host.marked })

abbrev pub standing_of : Worker → Option Standing
standing_of worker = standing_in worker.interp

-- ---- clean workers

-- one of the pass's own turns left the blueprint in a state, which the type allows, of this epoch and these definitions
abbrev pub Saw : BlueView → Edition → Type 0
Saw view edition = (state : blueprints.State) × Left view.own state × blueprints.Allowed state × (edition ≡ edition_of state)

abbrev pub IsCleanInterp : Names → BlueView → Option Interp → Type 0
IsCleanInterp names view None = Unit {0}
IsCleanInterp names view (Some interp) = IsNew names interp × Saw view (edition_in interp)

-- The worker has no interpreter; or one that is as newly made from a blueprint that its pass saw. The mark of the last run stands beside
-- that.
abbrev pub IsClean : Names → Passes → Worker → Type 0
IsClean names passes worker = IsCleanInterp names (pass_view passes.blueprint) worker.interp
