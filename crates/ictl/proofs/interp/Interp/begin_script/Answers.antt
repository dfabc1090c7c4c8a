use Rattle.std.proofs.Common.{ℕ, List, sym, ap, ◌∙◌, [], subst}
use Rattle.natives.specs.Names.{names_of}
use Rattle.server_host.specs.declared.edition.Edition.{Edition}
use Rattle.server_host.specs.Hosts.{HostState, scripting}
use Rattle.ictl.specs.Main.{Script}
use Rattle.ictl.proofs.Beginnings.{begun_state}
use Rattle.ictl.specs.Interps.{IsWithin}
use Rattle.ictl.proofs.Withins.{begun_none, new_writes, wants}
use Rattle.ictl.proofs.interp.Interp.begin_script.Goals as goal

pub run_script-requires-clause-state : goal.run_script-requires-clause-state
run_script-requires-clause-state g c =
    begun_state (names_of c.args.natives.now) c.args.self.now c.begin_script.new.self (λ (b : Edition). scripting c.args.moment b) c.requires.1
    (c.in_ok-begin_script.ensures.ok ∙ ap (λ (h : HostState). scripting c.args.moment h.blueprint) c.host_mut.ensures.value)

pub run_script-requires-clause-inner : goal.run_script-requires-clause-inner
run_script-requires-clause-inner g c = c.requires.1.inner

pub returns-clause-next : goal.returns-clause-next
returns-clause-next g c = c.in_ok-next.ensures.next

pub returns-clause-falls : goal.returns-clause-falls
returns-clause-falls g c = c.in_ok-next.ensures.falls

pub returns-clause-stands : goal.returns-clause-stands
returns-clause-stands g c = λ further.
    sym (ap (λ (s : List ℕ). Script (names_of c.args.natives.now) c.args.self.now.blueprint.value s c.args.moment further) c.in_ok-script.ensures) ∙ c.in_ok-next.ensures.stands further

pub returns-in_err-script-clause-most : goal.returns-in_err-script-clause-most
returns-in_err-script-clause-most g c =
    wants c.from_residual.result _ (begun_none _ c.args.steps.now _ (new_writes (names_of c.args.natives.now) c.args.self.now c.requires))

pub returns-in_err-begin_script-clause-most : goal.returns-in_err-begin_script-clause-most
returns-in_err-begin_script-clause-most g c =
    wants c.from_residual-in_err-begin_script.result _ (begun_none _ c.args.steps.now _ (new_writes (names_of c.args.natives.now) c.args.self.now c.requires))

pub returns-in_err-next-clause-most : goal.returns-in_err-next-clause-most
returns-in_err-next-clause-most g c =
    wants c.from_residual-in_err-next.result _ (subst (λ (s : List ℕ). IsWithin 0 c.args.steps.now c.run_script.new.steps c.run_script.new.self (Script (names_of c.args.natives.now) c.args.self.now.blueprint.value s c.args.moment [])) c.in_ok-script.ensures c.in_err-next.ensures.most)
