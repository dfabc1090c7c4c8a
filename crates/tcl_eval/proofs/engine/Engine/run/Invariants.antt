use Rattle.natives.specs.Names.{names_of}
use Rattle.std.proofs.Common.{◌≡◌, ◌≤◌, ◌+◌, None}
use Rattle.tcl_eval.specs.Stack.{step_next, step_free}
use Rattle.tcl_eval.specs.Engine.{Same, Counts, credit}
use Rattle.tcl_eval.proofs.engine.Engine.run.Given as goal

abbrev pub invariant-steps : goal.invariant-steps
invariant-steps g l =
    let t = g.H.Host.table in
    let ns = names_of l.fn.natives in
    record {
      means : Same ns t l.self l.fn.self (step_next ns t l.step) (step_next ns t l.fn.step);
      closed : l.self.question ≡ None;
      lower : l.self.budget ≤ l.fn.self.budget;
      steps : l.fn.steps ≤ l.steps;
      counts : Counts l.steps l.fn.steps l.self l.fn.self;
    }

abbrev pub decreases-steps : goal.decreases-steps
decreases-steps g l = credit l.self + step_free l.step
