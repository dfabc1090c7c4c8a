use Rattle.std.proofs.Common.{◌≡◌, ◌∙◌, ◌+◌, ◌∷◌, ◌++◌, ℕ, List, [], length, refl, sym, ap, subst, arith}
use Rattle.std.specs.Prelude.{min, Some}
use Rattle.natives.specs.Names.{names_of}
use Rattle.serving.specs.Connections.{asks_close}
use Rattle.worker.specs.Lists.{listed}
use Rattle.worker.specs.Items.{bytes_of}
use Rattle.worker.specs.Sessions.{at, answered_by}
use Rattle.worker.specs.Working.{end_behind}
use Rattle.worker.specs.declared.served.Served.{Served}
use Rattle.worker.proofs.OneItem.{ticked}
use Rattle.worker.proofs.Ending.{sink_causes}
use Rattle.worker.proofs.Stepping.{steps_want, begins_none, steps_item, answered_more, same_steps}
use Rattle.worker.proofs.item.serve_request.Goals as goal

-- no room: nothing was done yet
pub returns-then-is_err-clause-steps : goal.returns-then-is_err-clause-steps
returns-then-is_err-clause-steps g c =
    let names = names_of c.args.natives.now in
    let served = listed c.args.served.now in
    let a = at c.args.passes.now c.args.worker.now (g.C.Clock.held c.args.clock.now) (g.K.Sink.taken c.args.sink.now) (g.P.Pages.faults c.args.pages.now) c.args.steps.now in
    let b = at c.args.passes.now c.args.worker.now (g.C.Clock.held c.moment.new.self) (g.K.Sink.taken c.args.sink.now) (g.P.Pages.faults c.args.pages.now) c.args.steps.now in
    same_steps names (g.P.Pages.held c.args.pages.now) c.args.request a _ served (listed c.reserve.new.self) c.end_in_want.result c.reserve.ensures.same
    (steps_want names (g.P.Pages.held c.args.pages.now) c.args.request a b served c.end_in_want.result c.moment_of.result (g.K.Sink.taken c.end_in_want.new.sink)
    (begins_none names c.moment_of.result a (g.C.Clock.held c.moment.new.self) (ticked _ _ c.moment.result c.moment_of.result c.moment.ensures c.moment_of.ensures)) c.end_in_want.ensures.ends)

-- memory wanted before a run was begun
pub returns-in-Err-clause-steps : goal.returns-in-Err-clause-steps
returns-in-Err-clause-steps g c =
    let names = names_of c.args.natives.now in
    let served = listed c.args.served.now in
    let a = at c.args.passes.now c.args.worker.now (g.C.Clock.held c.args.clock.now) (g.K.Sink.taken c.args.sink.now) (g.P.Pages.faults c.args.pages.now) c.args.steps.now in
    let b = at c.run_item.new.passes c.run_item.new.worker (g.C.Clock.held c.run_item.new.clock) (g.K.Sink.taken c.run_item.new.sink) (g.P.Pages.faults c.run_item.new.pages) c.run_item.new.steps in
    same_steps names (g.P.Pages.held c.args.pages.now) c.args.request a _ served (listed c.reserve.new.self) c.end_in_want-in-Err.result c.reserve.ensures.same
    (steps_want names (g.P.Pages.held c.args.pages.now) c.args.request a b served c.end_in_want-in-Err.result c.in-Err.unbegun.moment (g.K.Sink.taken c.end_in_want-in-Err.new.sink) c.in-Err.ensures.unbegun c.end_in_want-in-Err.ensures.ends)

pub returns-in-Err-clause-causes : goal.returns-in-Err-clause-causes
returns-in-Err-clause-causes g c = rw c.in-Err.ensures.untouched at c.end_in_want-in-Err.ensures.causes

-- one item more
pub returns-in-Ok-clause-steps : goal.returns-in-Ok-clause-steps
returns-in-Ok-clause-steps g c =
    let before = answered_by (listed c.args.served.now) in
    let count = length (listed c.args.served.now) in
    let place : c.len-place.result ≡ count = c.len-place.ensures ∙ ap length c.reserve.ensures.same in
    steps_item (names_of c.args.natives.now) _ c.args.request _ _ (listed c.args.served.now) (listed c.push_reserved.new.self) c.in-Ok.item c.in-Ok.sent c.end_behind-end.result
    (c.in-Ok.ensures.item count before (omega (arith, place)) c.requires.counts)
    (c.push_reserved.ensures.items ∙ ap (λ (l : List Served). l ++ c.in-Ok.item ∷ []) c.reserve.ensures.same)
    (c.end_behind-end.ensures before c.requires.counts ∙ (λ i. end_behind c.in-Ok.item.outcome c.in-Ok.sent ((c.asks_close.ensures ∙ ap asks_close c.get-asked.ensures) i) (place i + 1) (before + bytes_of c.in-Ok.item.answers)))

pub returns-in-Ok-clause-counts : goal.returns-in-Ok-clause-counts
returns-in-Ok-clause-counts g c =
    let before = answered_by (listed c.args.served.now) in
    c.count_all.ensures before c.requires.counts
    ∙ ap (λ (n : ℕ). min n 18446744073709551615) (sym (ap answered_by (c.push_reserved.ensures.items ∙ ap (λ (l : List Served). l ++ c.in-Ok.item ∷ []) c.reserve.ensures.same) ∙ answered_more (listed c.args.served.now) c.in-Ok.item))

pub returns-in-Ok-clause-causes : goal.returns-in-Ok-clause-causes
returns-in-Ok-clause-causes g c =
    rw (c.end_behind-end.ensures (answered_by (listed c.args.served.now)) c.requires.counts)
    (sink_causes c.in-Ok.item.outcome c.in-Ok.sent _ _ _ _ _ c.in-Ok.ensures.causes)
