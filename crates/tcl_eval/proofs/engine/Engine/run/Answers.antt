use Rattle.natives.specs.Names.{names_of}
use Rattle.std.proofs.Common.{◌∙◌, arith}
use Rattle.tcl_eval.proofs.Counts.{counted_on}
use Rattle.tcl_eval.specs.Stack.{step_next}
use Rattle.tcl_eval.proofs.Fronts.{on_err, step_front}
use Rattle.tcl_eval.specs.Engine.{gives}
use Rattle.tcl_eval.specs.State.{Given}
use Rattle.tcl_eval.specs.Laws.{state_in, IsFront}
use Rattle.tcl_eval.proofs.engine.Engine.run.Goals as goal

pub steps-preserved-in-Goes : goal.steps-preserved-in-Goes
steps-preserved-in-Goes g c =
    let settled = rw (c.in-Ready.is, c.in-Branch.is) at c.in_ok-value.ensures.means in
    let went = rw c.in-Goes.is at c.in_ok-next-in-Branch.ensures.means in
    let remains = c.in_ok-next-in-Branch.ensures.remains in
    let before = c.in_ok-value.ensures.keeps in
    record {
      means = λ gv. went gv ∙ settled gv ∙ c.steps.invariant.means gv;
      closed = remains.1 ∙ before.1 ∙ c.steps.invariant.closed;
      lower = omega (arith, remains.0, before.0, c.steps.invariant.lower);
      steps = c.steps.invariant.steps;
      counts = counted_on c.steps.steps c.args.steps.now c.go_on.new.self c.settle.new.self c.args.self.now c.in_ok-next-in-Branch.ensures.holds
          (counted_on c.steps.steps c.args.steps.now c.settle.new.self c.steps.self c.args.self.now c.in_ok-value.ensures.holds c.steps.invariant.counts);
    }

pub returns-in-TooDeep-2-clause-means : goal.returns-in-TooDeep-2-clause-means
returns-in-TooDeep-2-clause-means g c = λ gv.
    let settled = rw (c.in-Ready.is, c.in-Branch.is) at c.in_ok-value.ensures.means in
    let went = rw c.in-TooDeep-2.is at c.in_ok-next-in-Branch.ensures.means in
    went gv ∙ settled gv ∙ c.steps.invariant.means gv

pub returns-in-Spent-2-clause-means : goal.returns-in-Spent-2-clause-means
returns-in-Spent-2-clause-means g c = λ gv.
    let settled = rw (c.in-Ready.is, c.in-Branch.is) at c.in_ok-value.ensures.means in
    let went = rw c.in-Spent-2.is at c.in_ok-next-in-Branch.ensures.means in
    went gv ∙ settled gv ∙ c.steps.invariant.means gv

pub steps-preserved-in-Some-1 : goal.steps-preserved-in-Some-1
steps-preserved-in-Some-1 g c =
    let settled = rw (c.in-Ready.is, c.in-Command.is) at c.in_ok-value.ensures.means in
    let went = rw c.in-Goes-2.is at c.in_ok-next-in-Some.ensures.means in
    let remains = c.in_ok-next-in-Some.ensures.remains in
    let before = c.in_ok-value.ensures.keeps in
    record {
      means = λ gv. went gv ∙ settled gv ∙ c.steps.invariant.means gv;
      closed = remains.1 ∙ before.1 ∙ c.steps.invariant.closed;
      lower = omega (arith, remains.0, before.0, c.steps.invariant.lower);
      steps = c.steps.invariant.steps;
      counts = counted_on c.steps.steps c.args.steps.now c.call.new.self c.settle.new.self c.args.self.now c.in_ok-next-in-Some.ensures.holds
          (counted_on c.steps.steps c.args.steps.now c.settle.new.self c.steps.self c.args.self.now c.in_ok-value.ensures.holds c.steps.invariant.counts);
    }

pub returns-in-TooDeep-3-clause-means : goal.returns-in-TooDeep-3-clause-means
returns-in-TooDeep-3-clause-means g c = λ gv.
    let settled = rw (c.in-Ready.is, c.in-Command.is) at c.in_ok-value.ensures.means in
    let went = rw c.in-TooDeep-3.is at c.in_ok-next-in-Some.ensures.means in
    went gv ∙ settled gv ∙ c.steps.invariant.means gv

pub returns-in-Spent-3-clause-means : goal.returns-in-Spent-3-clause-means
returns-in-Spent-3-clause-means g c = λ gv.
    let settled = rw (c.in-Ready.is, c.in-Command.is) at c.in_ok-value.ensures.means in
    let went = rw c.in-Spent-3.is at c.in_ok-next-in-Some.ensures.means in
    went gv ∙ settled gv ∙ c.steps.invariant.means gv

pub returns-in_err-value-clause-front : goal.returns-in_err-value-clause-front
returns-in_err-value-clause-front g c =
    let ns = names_of c.args.natives.now in
    let t = g.H.Host.table in
    let e = c.args.self.now in
    let way = step_next ns t c.args.step in
    let front : (given : Given) → IsFront c.settle.new.self.made (state_in (gives ns t way e given)).made =
    λ given. step_front ns t c.steps.step way c.settle.new.self c.steps.self e given c.in_err-value.ensures.holds.1 c.steps.invariant.means in
    on_err _ front

pub returns-in_err-next-in-Branch-clause-front : goal.returns-in_err-next-in-Branch-clause-front
returns-in_err-next-in-Branch-clause-front g c =
    let ns = names_of c.args.natives.now in
    let t = g.H.Host.table in
    let e = c.args.self.now in
    let way = step_next ns t c.args.step in
    let same = c.in_err-next-in-Branch.ensures.holds.1 ∙ c.in_ok-value.ensures.holds.1 in
    let front : (given : Given) → IsFront c.go_on.new.self.made (state_in (gives ns t way e given)).made =
    λ given. step_front ns t c.steps.step way c.go_on.new.self c.steps.self e given same c.steps.invariant.means in
    on_err _ front

pub returns-in_err-called-in-Command-clause-front : goal.returns-in_err-called-in-Command-clause-front
returns-in_err-called-in-Command-clause-front g c =
    let ns = names_of c.args.natives.now in
    let t = g.H.Host.table in
    let e = c.args.self.now in
    let way = step_next ns t c.args.step in
    let front : (given : Given) → IsFront c.settle.new.self.made (state_in (gives ns t way e given)).made =
    λ given. step_front ns t c.steps.step way c.settle.new.self c.steps.self e given c.in_ok-value.ensures.holds.1 c.steps.invariant.means in
    on_err _ front

pub returns-in_err-next-in-Some-clause-front : goal.returns-in_err-next-in-Some-clause-front
returns-in_err-next-in-Some-clause-front g c =
    let ns = names_of c.args.natives.now in
    let t = g.H.Host.table in
    let e = c.args.self.now in
    let way = step_next ns t c.args.step in
    let same = c.in_err-next-in-Some.ensures.holds.1 ∙ c.in_ok-value.ensures.holds.1 in
    let front : (given : Given) → IsFront c.call.new.self.made (state_in (gives ns t way e given)).made =
    λ given. step_front ns t c.steps.step way c.call.new.self c.steps.self e given same c.steps.invariant.means in
    on_err _ front

pub returns-in_err-value-in-None-clause-front : goal.returns-in_err-value-in-None-clause-front
returns-in_err-value-in-None-clause-front g c =
    let ns = names_of c.args.natives.now in
    let t = g.H.Host.table in
    let e = c.args.self.now in
    let way = step_next ns t c.args.step in
    let same = c.in_err-value-in-None.ensures.kept ∙ c.in_ok-value.ensures.holds.1 in
    let front : (given : Given) → IsFront c.do_command.new.self.made (state_in (gives ns t way e given)).made =
    λ given. step_front ns t c.steps.step way c.do_command.new.self c.steps.self e given same c.steps.invariant.means in
    on_err _ front

pub steps-preserved : goal.steps-preserved
steps-preserved g c =
    let ns = names_of c.args.natives.now in
    let settled = rw (c.in-Ready.is, c.in-Expression.is) at c.in_ok-value.ensures.means in
    let went = rw c.in-Goes-3.is at c.in_ok-next-in-Expression.ensures.means in
    let remains = c.in_ok-next-in-Expression.ensures.remains in
    let before = c.in_ok-value.ensures.keeps in
    record {
      means = λ gv. went ns gv ∙ settled gv ∙ c.steps.invariant.means gv;
      closed = remains.1 ∙ before.1 ∙ c.steps.invariant.closed;
      lower = omega (arith, remains.0, before.0, c.steps.invariant.lower);
      steps = c.steps.invariant.steps;
      counts = counted_on c.steps.steps c.args.steps.now c.evaluate_whole.new.self c.settle.new.self c.args.self.now c.in_ok-next-in-Expression.ensures.holds
          (counted_on c.steps.steps c.args.steps.now c.settle.new.self c.steps.self c.args.self.now c.in_ok-value.ensures.holds c.steps.invariant.counts);
    }

pub returns-in-TooDeep-5-clause-means : goal.returns-in-TooDeep-5-clause-means
returns-in-TooDeep-5-clause-means g c = λ gv.
    let settled = rw (c.in-Ready.is, c.in-Expression.is) at c.in_ok-value.ensures.means in
    let went = rw c.in-TooDeep-5.is at c.in_ok-next-in-Expression.ensures.means in
    went (names_of c.args.natives.now) gv ∙ settled gv ∙ c.steps.invariant.means gv

pub returns-in-Spent-5-clause-means : goal.returns-in-Spent-5-clause-means
returns-in-Spent-5-clause-means g c = λ gv.
    let settled = rw (c.in-Ready.is, c.in-Expression.is) at c.in_ok-value.ensures.means in
    let went = rw c.in-Spent-5.is at c.in_ok-next-in-Expression.ensures.means in
    went (names_of c.args.natives.now) gv ∙ settled gv ∙ c.steps.invariant.means gv

pub returns-in_err-next-in-Expression-clause-front : goal.returns-in_err-next-in-Expression-clause-front
returns-in_err-next-in-Expression-clause-front g c =
    let ns = names_of c.args.natives.now in
    let t = g.H.Host.table in
    let e = c.args.self.now in
    let way = step_next ns t c.args.step in
    let same = c.in_err-next-in-Expression.ensures.holds.1 ∙ c.in_ok-value.ensures.holds.1 in
    let front : (given : Given) → IsFront c.evaluate_whole.new.self.made (state_in (gives ns t way e given)).made =
    λ given. step_front ns t c.steps.step way c.evaluate_whole.new.self c.steps.self e given same c.steps.invariant.means in
    on_err _ front
