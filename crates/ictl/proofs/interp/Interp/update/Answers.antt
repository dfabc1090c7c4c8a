use Rattle.std.proofs.Common.{refl, ap, ◌∙◌}
use Rattle.server_host.specs.declared.edition.Edition.{Edition}
use Rattle.server_host.specs.Hosts.{HostState, with_blueprint}
use Rattle.tcl_eval.specs.State.{State}
use Rattle.ictl.specs.Interps.{interp_state}
use Rattle.ictl.specs.declared.interp.Interp.{Interp}
use Rattle.ictl.proofs.Resets.{authorised_in, newly_made}
use Rattle.ictl.proofs.Updates.{updated_state, still_new}
use Rattle.ictl.proofs.interp.Interp.update.Goals as goal

pub returns-in-Ok-clause-ok : goal.returns-in-Ok-clause-ok
returns-in-Ok-clause-ok g c = λ names new.
    let old = c.args.self.now in
    let later = c.in_ok-tables.tables.blueprint.value in
    let between = c.define_more.new.self in
    let is = c.in-Ok.ensures.ok.1 in
    let state = updated_state names old (interp_state between) later c.args.epoch c.args.defs.now new c.in-Ok.ensures.ok.0 c.in_ok-tables.ensures.blueprint in
    newly_made names _ old.settling.run.engine.host.marked
    (ap (λ (h : HostState). let s : State HostState = record (interp_state between) { host = h } in s) (c.set_blueprint.ensures ∙ ap (λ (h : HostState). with_blueprint h c.in_ok-tables.shared.value) c.host_mut.ensures.value ∙ ap (λ (b : Edition). with_blueprint between.settling.run.engine.host b) c.in_ok-tables.ensures.shared)
    ∙ state)
    c.define_more.ensures.idle c.mark-self.ensures
    c.in_ok-tables.ensures.routes c.in_ok-tables.ensures.cleanups
    (authorised_in names later.defs between.settling.run.engine.table.table c.in_ok-name.name c.has_procedure-self.result c.has_procedure-self.ensures c.in_ok-name.ensures
    (ap (λ (s : State HostState). s.commands) state))
    refl (c.define_more.ensures.inner ∙ new.1.inner) (ap (λ (i : Interp). i.visit) is ∙ new.1.visit) (ap (λ (i : Interp). i.moment) is ∙ new.1.moment) (ap (λ (i : Interp). i.task) is ∙ new.1.task)
