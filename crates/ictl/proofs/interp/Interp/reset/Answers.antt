use Rattle.std.proofs.Common.{◌≡◌, ap, subst, min, ℕ, ◌∙◌, arith, Option}
use Rattle.server_host.specs.Hosts.{HostState}
use Rattle.tcl_eval.specs.State.{State}
use Rattle.ictl.specs.Interps.{spare_of}
use Rattle.ictl.specs.declared.inner.InnerRun.{InnerRun}
use Rattle.ictl.specs.declared.interp.Interp.{Interp}
use Rattle.ictl.specs.Interps.{restored}
use Rattle.ictl.proofs.Resets.{new_again, steps_back, mark_back_on}
use Rattle.ictl.proofs.interp.Interp.reset.Goals as goal

pub clear-requires : goal.clear-requires
clear-requires g c = omega (arith, c.min-mark.ensures, c.mark.ensures)

pub returns-clause-is_new : goal.returns-clause-is_new
returns-clause-is_new g c = λ names sound.
    new_again names c.args.self.now c.clear.new.self c.leave.new.self c.min-mark.result c.put_back.new.self
    (c.min-mark.ensures ∙ ap (λ (n : ℕ). min c.args.self.now.mark n) c.mark.ensures) c.clear.ensures.state c.clear.ensures.table c.clear.ensures.idle
    (subst (λ (i : Option InnerRun). c.put_back.new.self ≡ restored (record c.args.self.now { settling = record c.args.self.now.settling { run = record { engine = c.clear.new.self }; inner = i } })) c.leave_inner.ensures c.put_back.ensures)
    c.leave.ensures sound

pub returns-clause-steps : goal.returns-clause-steps
returns-clause-steps g c = λ names sound.
    steps_back names c.args.self.now c.min-mark.result c.clear.new.steps c.args.steps.now (c.min-mark.ensures ∙ ap (λ (n : ℕ). min c.args.self.now.mark n) c.mark.ensures) c.clear.ensures.steps sound

pub returns-clause-blueprint : goal.returns-clause-blueprint
returns-clause-blueprint g c = ap (λ (i : Interp). i.blueprint.value) c.put_back.ensures

pub returns-clause-marked : goal.returns-clause-marked
returns-clause-marked g c =
    ap (λ (i : Interp). i.settling.run.engine.host.marked) c.put_back.ensures
    ∙ mark_back_on (spare_of c.args.self.now) c.clear.new.self.host c.args.self.now.settling.run.engine.host (ap (λ (s : State HostState). s.host) c.clear.ensures.state)
