-- Looks at the blueprint, and interpreters that are made to be of it.
use Rattle.std.specs.Prelude.{◌≡◌, ◌⊎◌, ℕ, Bool, true, false, Option, None, Some}
use Rattle.txt_core.specs.Names.{Names}
use Rattle.blueprint.specs.States as blueprints
use Rattle.blueprint.specs.Objects.{Reaches}
use Rattle.blueprint.specs.Looking.{Looks as Answers}
use Rattle.blueprint.specs.declared.reply.BlueCall.TheVariants as blue_call
use Rattle.blueprint.specs.declared.reply.BlueReply.{BlueReply}
use Rattle.blueprint.specs.declared.reply.BlueReply.TheVariants as blue_reply
use Rattle.blueprint.specs.declared.reply.Look.{Look}
use Rattle.blueprint.specs.declared.reply.Look.TheVariants as looks
use Rattle.ictl.specs.Interps.{IsNew}
use Rattle.ictl.specs.Renewing.{IsUnmarked}
use Rattle.ictl.specs.declared.interp.Interp.{Interp}
use Rattle.shared_state.specs.Cells.{HaveSameNames}
use Rattle.shared_state.specs.Views.{BlueEntry}
use Rattle.shared_state.specs.declared.shared.Passes.{Passes}
use Rattle.worker.specs.Turns.{GainsLook}
use Rattle.worker.specs.Runs.{edition_of}
use Rattle.worker.specs.Clean.{Standing, edition_in, standing_in}

-- ---- looks

-- the place of a look that was answered
abbrev pub place_told : ℕ → Look → ℕ
place_told place looks.NoMemory = 0
place_told place looks.Same = place
place_told place (looks.Since epoch defs) = place
place_told place (looks.Whole epoch defs) = place

-- what the blueprint replied to a look
abbrev pub look_in : BlueReply → Look
look_in (blue_reply.Look look) = look
look_in (blue_reply.Published published) = looks.NoMemory

-- what is answered of a look: that of the entry
pub record TellsLook (p : Passes) (place : ℕ) (known : ℕ) (look : Look) (q : Passes) : Type 0 where
  pub entry : BlueEntry
  pub at : place ≡ place_told entry.place look
  pub call : entry.call ≡ blue_call.Look known
  pub reply : entry.reply ≡ blue_reply.Look look
  pub gains : GainsLook p entry q

-- the epoch that is named where no interpreter can be used again: nothing is told of it
abbrev pub no_epoch : ℕ
no_epoch = blueprints.last_epoch

abbrev pub epoch_unmarked : Standing → Bool → ℕ
epoch_unmarked standing true = no_epoch
epoch_unmarked standing false = standing.edition.epoch

-- the epoch that a look names: that of the interpreter, unless it is marked
abbrev pub known_epoch : Option Standing → ℕ
known_epoch None = no_epoch
known_epoch (Some standing) = epoch_unmarked standing standing.marked

-- the epoch that a look tells to one that named another
abbrev pub epoch_told : ℕ → Look → ℕ
epoch_told known looks.Same = known
epoch_told known (looks.Since epoch defs) = epoch
epoch_told known (looks.Whole epoch defs) = epoch
epoch_told known looks.NoMemory = 0

-- ---- renewals

-- the interpreter is of a state that may have become this one
abbrev pub Follows : Option Interp → blueprints.State → Type 0
Follows None state = Unit {0}
Follows (Some interp) state = (old : blueprints.State) × blueprints.Allowed old × Reaches old state × (edition_in interp ≡ edition_of old)

abbrev pub AreNew : Names → Option Interp → Type 0
AreNew names None = Unit {0}
AreNew names (Some interp) = IsNew names interp

-- A look on a blueprint of these names found this state, and told what is new to this interpreter, which is of an earlier one.
pub record IsRenewedBy (names : Names) (interp : Option Interp) (state : blueprints.State) (look : Look) : Type 0 where
  pub tells : Answers state (known_epoch (standing_in interp)) look
  pub allows : blueprints.Allowed state
  pub natives : HaveSameNames names state.natives
  pub are_new : AreNew names interp
  pub follows : Follows interp state

-- an interpreter as newly made from a state of the blueprint, with no mark
abbrev pub IsOf : Names → blueprints.State → Interp → Type 0
IsOf names state interp =
    IsNew names interp × (edition_in interp ≡ edition_of state) × IsUnmarked interp

-- what is left of an interpreter whose renewal was refused: all of it where the look was refused, and else all of it or nothing
abbrev pub IsLeft : Look → Option Interp → Option Interp → Type 0
IsLeft looks.NoMemory before after = after ≡ before
IsLeft looks.Same before after = (after ≡ before) ⊎ (after ≡ None)
IsLeft (looks.Since epoch defs) before after = (after ≡ before) ⊎ (after ≡ None)
IsLeft (looks.Whole epoch defs) before after = (after ≡ before) ⊎ (after ≡ None)
