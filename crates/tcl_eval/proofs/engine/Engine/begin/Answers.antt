use Rattle.std.proofs.Common.{◌∙◌, ap, sym, List}
use Rattle.natives.specs.Names.{names_of}
use Rattle.tcl_eval.specs.Eval.{run_work, eval}
use Rattle.tcl_eval.specs.Stack.{stack_next}
use Rattle.tcl_eval.specs.Engine.{state_of, acted_next, gives}
use Rattle.tcl_eval.specs.declared.stack.Frame.{Frame}
use Rattle.tcl_eval.proofs.Acts.{fell_on}
use Rattle.tcl_eval.proofs.Counts.{counted_both}
use Rattle.tcl_eval.proofs.Fronts.{on_err, eval_front, front_same}
use Rattle.tcl_eval.specs.State.{Given}
use Rattle.tcl_eval.specs.Laws.{state_in, IsFront}
use Rattle.tcl_eval.proofs.engine.Engine.begin.Goals as goal

pub returns-clause-stands : goal.returns-clause-stands
returns-clause-stands g c = λ further.
    let ns = names_of c.args.natives.now in
    let t = g.H.Host.table in
    let e = c.args.self.now in
    sym (c.in_ok-outcome.ensures.means further ∙ c.in_ok-acted.ensures.means further
    ∙ ap (λ (fs : List Frame). run_work ns t c.args.depth c.args.work (stack_next ns t fs) (state_of e) e.budget further) c.requires.idle.0)

pub returns-clause-falls : goal.returns-clause-falls
returns-clause-falls g c =
    fell_on c.in_ok-acted.acted c.in_ok-outcome.outcome c.run_on.new.self c.first.new.self c.args.self.now.budget c.in_ok-outcome.ensures.falls c.in_ok-acted.ensures.fell

pub returns-clause-counts : goal.returns-clause-counts
returns-clause-counts g c =
    counted_both c.run_on.new.steps c.first.new.steps c.args.steps.now c.run_on.new.self c.first.new.self c.args.self.now c.in_ok-outcome.ensures.counts c.in_ok-acted.ensures.counts

pub returns-in_err-acted-clause-front : goal.returns-in_err-acted-clause-front
returns-in_err-acted-clause-front g c =
    let ns = names_of c.args.natives.now in
    let t = g.H.Host.table in
    let e = c.args.self.now in
    let front : (given : Given) → IsFront c.first.new.self.made (state_in (eval ns t c.args.depth c.args.work (state_of e) e.budget given)).made =
    λ given. eval_front ns t c.args.depth c.args.work c.first.new.self.made (state_of e) e.budget given c.in_err-acted.ensures.kept in
    on_err _ front

pub returns-in_err-outcome-clause-front : goal.returns-in_err-outcome-clause-front
returns-in_err-outcome-clause-front g c =
    let ns = names_of c.args.natives.now in
    let t = g.H.Host.table in
    let e = c.args.self.now in
    let begun = c.first.new.self in
    let front : (given : Given) → IsFront c.run_on.new.self.made (state_in (eval ns t c.args.depth c.args.work (state_of e) e.budget given)).made =
    λ given. front_same c.run_on.new.self.made (gives ns t (acted_next ns t c.in_ok-acted.acted begun.question) begun given) (eval ns t c.args.depth c.args.work (state_of e) e.budget given)
    (c.in_ok-acted.ensures.means given ∙ ap (λ (fs : List Frame). run_work ns t c.args.depth c.args.work (stack_next ns t fs) (state_of e) e.budget given) c.requires.idle.0)
    (c.in_err-outcome.ensures.front given) in
    on_err _ front
