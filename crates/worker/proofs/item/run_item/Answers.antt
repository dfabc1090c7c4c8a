use Rattle.std.proofs.Common.{◌≡◌, ◌∙◌, ◌+◌, ◌≤◌, ◌++◌, ◌∷◌, [], ℕ, List, refl, sym, arith}
use Rattle.std.specs.Prelude.{min, Some}
use Rattle.cmd_table.specs.Commands.{Writes}
use Rattle.natives.specs.Names.{names_of}
use Rattle.ictl.specs.Interps.{interp_state}
use Rattle.worker.specs.Clean.{edition_in}
use Rattle.worker.specs.Turns.{OnBlueprint}
use Rattle.worker.specs.Sessions.{at}
use Rattle.worker.proofs.Turning.{keeps_names}
use Rattle.worker.proofs.Looking.{renewable}
use Rattle.worker.proofs.OneItem.{ticked, ran_item, ran_clean, unbegun_clean, begins_none_by, standing_again}
use Rattle.worker.proofs.item.run_item.Goals as goal

pub renew-requires : goal.renew-requires
renew-requires g c =
    let t = c.look-turn.ensures.looks in
    (t.entry.before, renewable (names_of c.args.natives.now) c.args.passes.now c.look-turn.new.passes c.args.worker.now c.look-turn.result.turn c.look-turn.result.look t c.requires.cells.1 c.requires.clean)

pub begin-run-requires : goal.begin-run-requires
begin-run-requires g c =
    let t = c.look-turn.ensures.looks in
    let r = renewable (names_of c.args.natives.now) c.args.passes.now c.look-turn.new.passes c.args.worker.now c.look-turn.result.turn c.look-turn.result.look t c.requires.cells.1 c.requires.clean in
    (c.in-Ok.ensures.of t.entry.before r).0

-- what was done, behind a look, on the interpreter that is of what it found
pub returns-clause-item : goal.returns-clause-item
returns-clause-item g c = λ count before at by.
    let names = names_of c.args.natives.now in
    let t = c.look-turn.ensures.looks in
    let r = renewable names c.args.passes.now c.look-turn.new.passes c.args.worker.now c.look-turn.result.turn c.look-turn.result.look t c.requires.cells.1 c.requires.clean in
    let of = c.in-Ok.ensures.of t.entry.before r in
    let sound = c.run_request-done.ensures.sound names (c.begin-run.ensures.sound names of.0.0) in
    ran_item names _ count before _ c.args.manner.requests c.args.request c.run_request-done.result.sent _ _ _ c.look-turn.result.look c.look-turn.new.passes c.run_request-done.new.run.interp c.renew.new.steps c.run_request-done.new.steps
    t c.in-Ok.ensures.told c.look-turn.ensures.epoch
    (ticked _ _ c.moment.result c.moment_of-moment.result c.moment.ensures c.moment_of-moment.ensures)
    (c.run_request-done.ensures.ran c.args.request c.in-Ok.interp c.renew.new.steps before t.entry.before c.begin-run.ensures c.requires.manner.0 c.requires.manner.1 of.1 by) at c.bytes_sent.ensures
    (standing_again c.end_run-interp.result.1 (edition_in c.run_request-done.new.run.interp) _ _ c.end_run-interp.ensures.blueprint ((c.run_request-done.ensures.blueprint ∙ c.begin-run.ensures.blueprint) ∙ of.1) c.end_run-interp.ensures.marked)
    (c.in-Ok.ensures.steps t.entry.before r) (c.end_run-interp.ensures.steps names sound)

pub returns-clause-clean : goal.returns-clause-clean
returns-clause-clean g c =
    let names = names_of c.args.natives.now in
    let t = c.look-turn.ensures.looks in
    let r = renewable names c.args.passes.now c.look-turn.new.passes c.args.worker.now c.look-turn.result.turn c.look-turn.result.look t c.requires.cells.1 c.requires.clean in
    let of = c.in-Ok.ensures.of t.entry.before r in
    let sound = c.run_request-done.ensures.sound names (c.begin-run.ensures.sound names of.0.0) in
    let ran = c.run_request-done.ensures.ran c.args.request c.in-Ok.interp c.renew.new.steps c.args.manner.answered t.entry.before c.begin-run.ensures c.requires.manner.0 c.requires.manner.1 of.1 (omega arith) in
    (ran_clean names c.args.passes.now c.look-turn.new.passes c.run_request-done.new.passes c.look-turn.result.turn _ c.look-turn.result.look t (ran.turns ++ ran.more) c.in-Ok.interp c.end_run-interp.result.1
    ran.gains of.1 (c.end_run-interp.ensures.blueprint ∙ (c.run_request-done.ensures.blueprint ∙ c.begin-run.ensures.blueprint)) (c.end_run-interp.ensures.is_new names sound))

pub returns-clause-cells : goal.returns-clause-cells
returns-clause-cells g c =
    let names = names_of c.args.natives.now in
    let t = c.look-turn.ensures.looks in
    let r = renewable names c.args.passes.now c.look-turn.new.passes c.args.worker.now c.look-turn.result.turn c.look-turn.result.look t c.requires.cells.1 c.requires.clean in
    let of = c.in-Ok.ensures.of t.entry.before r in
    let ran = c.run_request-done.ensures.ran c.args.request c.in-Ok.interp c.renew.new.steps c.args.manner.answered t.entry.before c.begin-run.ensures c.requires.manner.0 c.requires.manner.1 of.1 (omega arith) in
    (c.run_request-done.ensures.cells, keeps_names names c.look-turn.new.passes c.run_request-done.new.passes (ran.turns ++ ran.more) ran.gains (keeps_names names c.args.passes.now c.look-turn.new.passes (OnBlueprint t.entry ∷ []) t.gains.1 c.requires.cells.1))

-- no run was begun
pub returns-in_default-clause-clean : goal.returns-in_default-clause-clean
returns-in_default-clause-clean g c =
    unbegun_clean (names_of c.args.natives.now) c.args.passes.now c.look-turn.new.passes c.look-turn.result.turn _ c.look-turn.result.look c.look-turn.ensures.looks c.args.worker.now c.renew.new.worker c.requires.clean c.in_default.ensures.err

pub returns-in_default-clause-cells : goal.returns-in_default-clause-cells
returns-in_default-clause-cells g c = (c.look-turn.ensures.cells, keeps_names (names_of c.args.natives.now) c.args.passes.now c.look-turn.new.passes (OnBlueprint c.look-turn.ensures.looks.entry ∷ []) c.look-turn.ensures.looks.gains.1 c.requires.cells.1)

pub returns-in_default-clause-unbegun : goal.returns-in_default-clause-unbegun
returns-in_default-clause-unbegun g c =
    let names = names_of c.args.natives.now in
    let t = c.look-turn.ensures.looks in
    let r = renewable names c.args.passes.now c.look-turn.new.passes c.args.worker.now c.look-turn.result.turn c.look-turn.result.look t c.requires.cells.1 c.requires.clean in
    let a = at c.args.passes.now c.args.worker.now (g.C.Clock.held c.args.clock.now) (g.K.Sink.taken c.args.sink.now) (g.P.Pages.faults c.args.pages.now) c.args.steps.now in
    let b = at c.look-turn.new.passes c.renew.new.worker (g.C.Clock.held c.moment.new.self) (g.K.Sink.taken c.args.sink.now) (g.P.Pages.faults c.args.pages.now) c.renew.new.steps in
    begins_none_by names a b c.look-turn.result.turn _ c.moment_of-moment.result c.look-turn.result.look t c.args.worker.now.interp c.renew.new.worker.interp
    refl refl c.in_default.ensures.err (ticked _ _ c.moment.result c.moment_of-moment.result c.moment.ensures c.moment_of-moment.ensures) refl refl
    (c.renew.ensures.most t.entry.before r) c.in_default.ensures.refused
