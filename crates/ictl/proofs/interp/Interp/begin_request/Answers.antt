use Rattle.std.proofs.Common.{sym, ap, ◌∙◌, arith, ◌+◌, [], subst}
use Rattle.natives.specs.Names.{names_of}
use Rattle.http_req.specs.declared.request.Request.{Request}
use Rattle.server_host.specs.declared.edition.Edition.{Edition}
use Rattle.server_host.specs.Hosts.{HostState, serving}
use Rattle.ictl.specs.Falls.{first_number}
use Rattle.ictl.specs.declared.interp.Interp.{Interp}
use Rattle.ictl.proofs.Interpreters.{from_none, moved_on, ok_same}
use Rattle.ictl.proofs.Beginnings.{begun_state, request_begins, visit_is}
use Rattle.ictl.specs.Main.{Main}
use Rattle.ictl.specs.Visits.{visit_by}
use Rattle.ictl.specs.Interps.{IsWithin, interp_written}
use Rattle.ictl.proofs.Withins.{begun_none, err_same, new_writes, within_from, moved_within, wants}
use Rattle.ictl.proofs.interp.Interp.begin_request.Goals as goal

pub enter-requires : goal.enter-requires
enter-requires g c = c.requires.1.visit

pub first_stage-requires : goal.first_stage-requires
first_stage-requires g c = (omega arith, c.requires.1.inner)

pub moves-requires : goal.moves-requires
moves-requires g c = c.in_ok-step.ensures.next

pub returns-in_default-clause-most : goal.returns-in_default-clause-most
returns-in_default-clause-most g c = begun_none _ c.args.steps.now _ (new_writes (names_of c.args.natives.now) c.args.self.now c.requires)

pub returns-in_err-step-clause-most : goal.returns-in_err-step-clause-most
returns-in_err-step-clause-most g c =
    wants c.from_residual.result _ (let names = names_of c.args.natives.now in
    let old = c.args.self.now in
    let bp = old.blueprint.value in
    let visit = visit_is names old c.args.request c.enter.new.self c.requires (c.in-Ok.ensures bp.defs c.requires.0.routes ∙ ap (λ (r : Request). visit_by old.authorises r bp.defs) c.get.ensures) in
    let state = begun_state names old c.serve.new.self (λ (b : Edition). serving c.args.request c.args.moment b) c.requires.1 (c.serve.ensures ∙ ap (λ (h : HostState). serving c.args.request c.args.moment h.blueprint) c.host_mut.ensures.value) in
    let between : Interp = record old {
      settling = record old.settling { run = record { engine = record old.settling.run.engine { host = c.serve.new.self } }; questions = 1800000 };
      moment = c.args.moment;
      visit = c.enter.new.self;
    } in
    within_from 0 (0 + interp_written names between) c.args.steps.now c.args.steps.now c.first_stage.new.steps c.first_stage.new.self _ (omega arith)
    (subst (IsWithin (0 + interp_written names between) c.args.steps.now c.first_stage.new.steps c.first_stage.new.self) (request_begins names bp c.args.request c.args.moment c.enter.new.self _ [] visit state) (c.in_err-step.ensures.most 0)))

pub returns-clause-next : goal.returns-clause-next
returns-clause-next g c = c.moves.ensures.next

pub returns-clause-falls : goal.returns-clause-falls
returns-clause-falls g c = ok_same c.moves.result _ _ (λ next h. h first_number (c.in_ok-step.ensures.falls first_number (omega arith))) c.moves.ensures.falls

pub returns-clause-stands : goal.returns-clause-stands
returns-clause-stands g c =
    let names = names_of c.args.natives.now in
    let old = c.args.self.now in
    let bp = old.blueprint.value in
    let visit = visit_is names old c.args.request c.enter.new.self c.requires (c.in-Ok.ensures bp.defs c.requires.0.routes ∙ ap (λ (r : Request). visit_by old.authorises r bp.defs) c.get.ensures) in
    let state = begun_state names old c.serve.new.self (λ (b : Edition). serving c.args.request c.args.moment b) c.requires.1 (c.serve.ensures ∙ ap (λ (h : HostState). serving c.args.request c.args.moment h.blueprint) c.host_mut.ensures.value) in
    let between : Interp = record old {
      settling = record old.settling { run = record { engine = record old.settling.run.engine { host = c.serve.new.self } }; questions = 1800000 };
      moment = c.args.moment;
      visit = c.enter.new.self;
    } in
    ok_same c.moves.result _ _
    (λ next h further.
    sym (from_none names next c.moves.new.self _ further _
    (moved_on names c.in_ok-step.step next between c.first_stage.new.self c.moves.new.self 0 c.args.steps.now c.first_stage.new.steps c.moves.new.steps further _
    c.first_stage.ensures.counts c.moves.ensures.counts (c.in_ok-step.ensures.gives 0 further) (λ n. h n further))
    ∙ request_begins names bp c.args.request c.args.moment c.enter.new.self _ further visit state))
    c.moves.ensures.gives

pub returns-clause-visit : goal.returns-clause-visit
returns-clause-visit g c =
    let names = names_of c.args.natives.now in
    let old = c.args.self.now in
    let visit = visit_is names old c.args.request c.enter.new.self c.requires (c.in-Ok.ensures old.blueprint.value.defs c.requires.0.routes ∙ ap (λ (r : Request). visit_by old.authorises r old.blueprint.value.defs) c.get.ensures) in
    ok_same c.moves.result _ _
    (λ next h. (c.moves.ensures.same.visit ∙ c.first_stage.ensures.same.visit ∙ visit, c.moves.ensures.same.moment ∙ c.first_stage.ensures.same.moment))
    c.moves.ensures.next

pub returns-clause-most : goal.returns-clause-most
returns-clause-most g c =
    let names = names_of c.args.natives.now in
    let old = c.args.self.now in
    let bp = old.blueprint.value in
    let visit = visit_is names old c.args.request c.enter.new.self c.requires (c.in-Ok.ensures bp.defs c.requires.0.routes ∙ ap (λ (r : Request). visit_by old.authorises r bp.defs) c.get.ensures) in
    let state = begun_state names old c.serve.new.self (λ (b : Edition). serving c.args.request c.args.moment b) c.requires.1 (c.serve.ensures ∙ ap (λ (h : HostState). serving c.args.request c.args.moment h.blueprint) c.host_mut.ensures.value) in
    let between : Interp = record old {
      settling = record old.settling { run = record { engine = record old.settling.run.engine { host = c.serve.new.self } }; questions = 1800000 };
      moment = c.args.moment;
      visit = c.enter.new.self;
    } in
    err_same c.moves.result _ _
    (λ h. within_from 0 (0 + interp_written names between) c.args.steps.now c.args.steps.now c.moves.new.steps c.moves.new.self (Main names bp c.args.request c.args.moment []) (omega arith)
    (moved_within names c.in_ok-step.step between c.first_stage.new.self c.moves.new.self 0 c.args.steps.now c.first_stage.new.steps c.moves.new.steps (Main names bp c.args.request c.args.moment []) c.first_stage.ensures.counts
    (c.in_ok-step.ensures.gives 0 [] ∙ request_begins names bp c.args.request c.args.moment c.enter.new.self _ [] visit state) (λ n. h n)))
    c.moves.ensures.most
