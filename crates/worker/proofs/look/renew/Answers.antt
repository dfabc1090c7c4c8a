use Rattle.std.proofs.Common.{Option, sym, subst}
use Rattle.std.specs.Prelude.{OnErr}
use Rattle.natives.specs.Names.{names_of}
use Rattle.ictl.specs.declared.interp.Interp.{Interp}
use Rattle.worker.specs.Renewing.{IsLeft}
use Rattle.worker.proofs.Renewals.{Laws, ok_any, err_any, renewed_ok, may_renew, renewed_most, renewed_costs, left_none}
use Rattle.worker.proofs.look.renew.Goals as goal

pub renew-requires : goal.renew-requires
renew-requires g c =
    let laws : Laws = record { order = c.tables_are_maps.ensures.order; there = c.tables_are_maps.ensures.built; unchanged = c.equal_epochs_are_one_state.ensures.same; added = c.since_is_added.ensures; applies = c.since_applies.ensures; writes = c.fresh_globals.ensures.writes } in
    may_renew laws (names_of c.args.natives.now) c.take.result c.args.worker.now.interp c.requires.0 c.args.look c.take.ensures.value c.requires.1

pub returns-in_default-clause-of : goal.returns-in_default-clause-of
returns-in_default-clause-of g c = λ state r.
    let laws : Laws = record { order = c.tables_are_maps.ensures.order; there = c.tables_are_maps.ensures.built; unchanged = c.equal_epochs_are_one_state.ensures.same; added = c.since_is_added.ensures; applies = c.since_applies.ensures; writes = c.fresh_globals.ensures.writes } in
    renewed_ok c.renew.result laws (names_of c.args.natives.now) c.take.result c.args.worker.now.interp state c.args.look c.take.ensures.value r c.renew.ensures.of

pub returns-in_default-clause-steps : goal.returns-in_default-clause-steps
returns-in_default-clause-steps g c = λ state r.
    let laws : Laws = record { order = c.tables_are_maps.ensures.order; there = c.tables_are_maps.ensures.built; unchanged = c.equal_epochs_are_one_state.ensures.same; added = c.since_is_added.ensures; applies = c.since_applies.ensures; writes = c.fresh_globals.ensures.writes } in
    renewed_costs c.renew.result laws (names_of c.args.natives.now) c.args.worker.now.interp state c.args.look c.args.steps.now c.renew.new.steps r c.renew.ensures.steps

pub returns-in_default-clause-most : goal.returns-in_default-clause-most
returns-in_default-clause-most g c = λ state r.
    let laws : Laws = record { order = c.tables_are_maps.ensures.order; there = c.tables_are_maps.ensures.built; unchanged = c.equal_epochs_are_one_state.ensures.same; added = c.since_is_added.ensures; applies = c.since_applies.ensures; writes = c.fresh_globals.ensures.writes } in
    renewed_most laws (names_of c.args.natives.now) c.args.worker.now.interp state c.args.look c.args.steps.now c.renew.new.steps r c.renew.ensures.most

pub returns-in_default-clause-err : goal.returns-in_default-clause-err
returns-in_default-clause-err g c =
    subst (λ (o : Option Interp). OnErr c.renew.result (IsLeft c.args.look c.args.worker.now.interp o)) (sym c.take.ensures.after) (err_any c.renew.result (left_none c.args.look _ c.in_default.not-NoMemory))

pub returns-in_default-clause-refused : goal.returns-in_default-clause-refused
returns-in_default-clause-refused g c = err_any c.renew.result (λ is. absurd (c.in_default.not-NoMemory is))

pub returns-in_default-clause-told : goal.returns-in_default-clause-told
returns-in_default-clause-told g c = ok_any c.renew.result c.in_default.not-NoMemory
