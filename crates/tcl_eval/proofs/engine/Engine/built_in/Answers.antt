use Rattle.std.proofs.Common.{◌∙◌, ap, []}
use Rattle.tcl_eval.specs.Eval.{nested, built_in}
use Rattle.tcl_eval.specs.Stack.{stack_next}
use Rattle.tcl_eval.specs.Engine.{state_of}
use Rattle.tcl_eval.specs.declared.engine.Engine.{Engine}
use Rattle.tcl_eval.proofs.Fronts.{on_err}
use Rattle.tcl_eval.proofs.engine.Engine.built_in.Goals as goal

pub do_running-requires : goal.do_running-requires
do_running-requires g c =
    let none = rw c.in-None.is at (c.in_ok-value.ensures.means [] (nested [] g.H.Host.table 0)) in
    none.0

pub returns-in-Some-clause-means : goal.returns-in-Some-clause-means
returns-in-Some-clause-means g c = λ ns gv.
    let some = rw c.in-Some.is at (c.in_ok-value.ensures.means ns (nested ns g.H.Host.table c.args.levels)) in
    some gv

pub returns-in_ok-acted-in-None-clause-means : goal.returns-in_ok-acted-in-None-clause-means
returns-in_ok-acted-in-None-clause-means g c = λ ns gv.
    let t = g.H.Host.table in
    let inner = nested ns t c.args.levels in
    let none = rw c.in-None.is at (c.in_ok-value.ensures.means ns inner) in
    c.in_ok-acted-in-None.ensures.means ns gv
    ∙ ap (λ (e : Engine g.row.H.Denot). built_in ns t inner c.args.verb c.args.words (stack_next ns t e.stack.items) (state_of e) e.budget gv) none.1

pub returns-in_err-acted-in-None-clause-kept : goal.returns-in_err-acted-in-None-clause-kept
returns-in_err-acted-in-None-clause-kept g c =
    let none = rw c.in-None.is at (c.in_ok-value.ensures.means [] (nested [] g.H.Host.table 0)) in
    on_err _ (c.in_err-acted-in-None.ensures.kept ∙ ap (λ (e : Engine g.row.H.Denot). e.made) none.1)
