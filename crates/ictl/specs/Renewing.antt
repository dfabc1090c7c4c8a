-- Interpreters that are renewed by a look at the blueprint.
use Rattle.std.specs.Prelude.{◌≡◌, ℕ, List, false, Option, None, Some}
use Rattle.txt_core.specs.Names.{Names}
use Rattle.cmd_table.specs.Commands.{Writes}
use Rattle.cmd_table.specs.declared.definition.Def.{Def}
use Rattle.blueprint.specs.declared.reply.Look.{Look}
use Rattle.blueprint.specs.declared.reply.Look.TheVariants.{Same, Since, Whole, NoMemory}
use Rattle.ictl.specs.Fresh.{build_steps}
use Rattle.ictl.specs.Interps.{IsNew, IsNewOnSome, StaysNew, AllApply, IsUpdated, KeepsMarked}
use Rattle.ictl.specs.declared.interp.Interp.{Interp}

-- an interpreter, where there is one, may take these definitions: it is as newly made, and they apply in order behind its own
abbrev pub MayAdd : Option Interp → List Def → Type 0
MayAdd None defs = Unit {0}
MayAdd (Some interp) defs = IsNewOnSome interp × AllApply defs interp

-- what a look told may be put to the interpreter, where there is one
abbrev pub MayRenew : Option Interp → Look → Type 0
MayRenew kept Same = Unit {0}
MayRenew kept (Since epoch defs) = MayAdd kept defs
MayRenew kept (Whole epoch defs) = Unit {0}
MayRenew kept NoMemory = Unit {0}

-- the last run didn't mark it
abbrev pub IsUnmarked : Interp → Type 0
IsUnmarked interp = interp.settling.run.engine.host.marked ≡ false

-- it is the one that there was, and isn't marked
abbrev pub IsAsItWas : Option Interp → Interp → Type 0
IsAsItWas kept new = (kept ≡ Some new) × IsUnmarked new

-- it is the one that there was, with these definitions behind its own, at this epoch, with the mark that it had
abbrev pub Adds : Option Interp → ℕ → List Def → Interp → Type 0
Adds None epoch defs new = ⊥
Adds (Some interp) epoch defs new = StaysNew new interp × IsUpdated epoch defs new interp × KeepsMarked new interp

-- it is newly made from these definitions at this epoch, with no mark
abbrev pub Builds : Names → ℕ → List Def → Interp → Type 0
Builds names epoch defs new = IsNew names new × (new.blueprint.value ≡ record { epoch = epoch; defs = defs }) × IsUnmarked new

-- It was made by what a look told, of the interpreter that there was, if there was one: where nothing is new that is as it was; it has
-- what was added; and where all is told it is newly made.
abbrev pub Renews : Names → Option Interp → Look → Interp → Type 0
Renews names kept Same new = IsAsItWas kept new
Renews names kept (Since epoch defs) new = Adds kept epoch defs new
Renews names kept (Whole epoch defs) new = Builds names epoch defs new
Renews names kept NoMemory new = ⊥

-- the entries of its table that a renewal writes
abbrev pub renewal_steps : Names → Look → ℕ
renewal_steps names Same = 0
renewal_steps names (Since epoch defs) = Writes defs
renewal_steps names (Whole epoch defs) = build_steps names defs
renewal_steps names NoMemory = 0
