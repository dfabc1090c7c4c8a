use Rattle.std.proofs.Common.{◌≡◌, ◌≤◌, ◌+◌, refl, sym, subst, ap, ◌∙◌, arith}
use Rattle.natives.specs.Names.{names_of}
use Rattle.cmd_table.specs.Commands.{Writes}
use Rattle.server_host.specs.declared.edition.Edition.{Edition}
use Rattle.server_host.specs.Hosts.{HostState, defining}
use Rattle.tcl_eval.specs.State.{Out}
use Rattle.tcl_eval.specs.Laws.{state_in}
use Rattle.ictl.specs.Settle.{Defined}
use Rattle.ictl.specs.Main.{defined_end}
use Rattle.ictl.specs.Standing.{comes_to}
use Rattle.ictl.specs.Interps.{Holds, spare_of}
use Rattle.ictl.specs.Falls.{Suffices, first_number}
use Rattle.ictl.specs.declared.defining.DefineRun.{DefineRun}
use Rattle.ictl.specs.declared.interp.Interp.{Interp}
use Rattle.ictl.specs.Within.{RunWrites}
use Rattle.ictl.proofs.Beginnings.{begun_state}
use Rattle.ictl.proofs.Withins.{define_begins_at, define_bounded_at, define_cut, begun_none, new_writes, wants}
use Rattle.ictl.proofs.interp.Interp.begin_define.Goals as goal

pub stop-requires-clause-value : goal.stop-requires-clause-value
stop-requires-clause-value g c = ap (λ (d : DefineRun). d.value) c.new-defining.ensures

pub stop-requires-clause-asks : goal.stop-requires-clause-asks
stop-requires-clause-asks g c = c.in_ok-came.ensures.asks

pub defined-requires-clause-asks : goal.defined-requires-clause-asks
defined-requires-clause-asks g c = c.in_ok-last.ensures.asks

pub defined-requires-clause-inner : goal.defined-requires-clause-inner
defined-requires-clause-inner g c = c.requires.1.inner

pub returns-clause-next : goal.returns-clause-next
returns-clause-next g c = c.defined.ensures.next

pub stop-requires-clause-suffices : goal.stop-requires-clause-suffices
stop-requires-clause-suffices g c =
    subst (λ (d : DefineRun). Suffices c.in_ok-came.came c.start.new.self d.questions) (sym c.new-defining.ensures) (c.in_ok-came.ensures.suffices 1800000 (omega arith))

pub returns-clause-stands : goal.returns-clause-stands
returns-clause-stands g c = λ further.
    let names = names_of c.args.natives.now in
    let old = c.args.self.now in
    let bp = old.blueprint.value in
    let m = c.args.moment in
    let state = begun_state names old c.begin_definitions.new.self (λ (b : Edition). defining m b) c.requires.1 (c.in_ok-begin_definitions.ensures.ok ∙ ap (λ (h : HostState). defining c.args.moment h.blueprint) c.host_mut.ensures.value) in
    let few : c.new-defining.result.questions ≡ 1800000 = ap (λ (d : DefineRun). d.questions) c.new-defining.ensures in
    sym (c.defined.ensures.gives names 0 further
    ∙ ap (λ (x : Defined). defined_end 0 x) (c.in_ok-last.ensures.gives names bp m further)
    ∙ define_begins_at names bp c.in_ok-script.script c.args.script.now m c.new-defining.result.questions (comes_to names c.in_ok-came.came c.start.new.self) _ further c.depth_of_runs-depth.result c.depth_of_runs-depth.ensures few
    (λ given. sym (c.in_ok-came.ensures.gives given)) state c.in_ok-script.ensures)

pub returns-clause-steps : goal.returns-clause-steps
returns-clause-steps g c =
    let old = c.args.self.now in
    subst (λ (i : Interp). c.start.new.steps + Writes old.settling.run.engine.made ≡ c.args.steps.now + Writes i.settling.run.engine.made) (sym c.defined.ensures.task.1) c.start.ensures.counts

pub returns-clause-spare : goal.returns-clause-spare
returns-clause-spare g c = ap (λ (i : Interp). spare_of i) c.defined.ensures.task.1

pub returns-clause-holds : goal.returns-clause-holds
returns-clause-holds g c =
    subst (λ (i : Interp). Holds i c.args.self.now) (sym c.defined.ensures.task.1) (record { engine = c.start.ensures.lasts; blueprint = refl; mark = refl; routes = refl; cleanups = refl; authorises = refl })

pub returns-clause-falls : goal.returns-clause-falls
returns-clause-falls g c =
    let few : c.new-defining.result.questions ≡ 1800000 = ap (λ (d : DefineRun). d.questions) c.new-defining.ensures in
    c.defined.ensures.falls first_number (c.in_ok-last.ensures.falls first_number (omega (arith, few)))

pub returns-in_err-script-clause-most : goal.returns-in_err-script-clause-most
returns-in_err-script-clause-most g c =
    wants c.from_residual.result _ (begun_none _ c.args.steps.now _ (new_writes (names_of c.args.natives.now) c.args.self.now c.requires))

pub returns-in_err-begin_definitions-clause-most : goal.returns-in_err-begin_definitions-clause-most
returns-in_err-begin_definitions-clause-most g c =
    wants c.from_residual-in_err-begin_definitions.result _ (begun_none _ c.args.steps.now _ (new_writes (names_of c.args.natives.now) c.args.self.now c.requires))

pub returns-in_err-came-clause-most : goal.returns-in_err-came-clause-most
returns-in_err-came-clause-most g c =
    let names = names_of c.args.natives.now in
    let old = c.args.self.now in
    let bp = old.blueprint.value in
    let m = c.args.moment in
    let state = begun_state names old c.begin_definitions.new.self (λ (b : Edition). defining m b) c.requires.1 (c.in_ok-begin_definitions.ensures.ok ∙ ap (λ (h : HostState). defining c.args.moment h.blueprint) c.host_mut.ensures.value) in
    let new : Interp = record old { settling = record old.settling { run = c.start.new.self }; moment = m } in
    let within = define_cut names bp c.in_ok-script.script c.args.script.now m old new c.args.steps.now c.start.new.steps _ _ _ _ _ _ _ c.start.ensures.most refl refl c.depth_of_runs-depth.ensures refl refl refl state c.in_ok-script.ensures (new_writes names old c.requires) c.start.ensures.counts in
    wants c.from_residual-in_err-came.result _ within

pub returns-in_err-last-clause-most : goal.returns-in_err-last-clause-most
returns-in_err-last-clause-most g c =
    let names = names_of c.args.natives.now in
    let old = c.args.self.now in
    let bp = old.blueprint.value in
    let m = c.args.moment in
    let state = begun_state names old c.begin_definitions.new.self (λ (b : Edition). defining m b) c.requires.1 (c.in_ok-begin_definitions.ensures.ok ∙ ap (λ (h : HostState). defining c.args.moment h.blueprint) c.host_mut.ensures.value) in
    let new : Interp = record old { settling = record old.settling { run = c.start.new.self }; moment = m } in
    let most : RunWrites (Writes c.start.new.self.engine.made) (comes_to names c.in_ok-came.came c.start.new.self) = (λ given. subst (λ (o : Out HostState). Writes c.start.new.self.engine.made ≤ Writes (state_in o).made) (c.in_ok-came.ensures.gives given) (c.start.ensures.most given)) in
    let within = define_bounded_at names bp c.in_ok-script.script c.args.script.now m 1800000 old new c.args.steps.now c.start.new.steps (comes_to names c.in_ok-came.came c.start.new.self) _ c.depth_of_runs-depth.result c.depth_of_runs-depth.ensures most refl (λ given. sym (c.in_ok-came.ensures.gives given)) state c.in_ok-script.ensures (new_writes names old c.requires) c.start.ensures.counts in
    wants c.from_residual-in_err-last.result _ within
