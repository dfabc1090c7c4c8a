use Rattle.std.proofs.Common.{◌+◌, ◌≤◌}
use Rattle.natives.specs.Names.{names_of}
use Rattle.tcl_eval.specs.Stack.{stack_weight, step_weight, stack_free, step_free, step_next}
use Rattle.tcl_eval.specs.Engine.{Same, Remains, Holds}
use Rattle.tcl_eval.proofs.engine.Engine.settle.Given as goal

abbrev pub invariant-steps : goal.invariant-steps
invariant-steps g l =
    let t = g.H.Host.table in
    record {
      means : Same (names_of l.natives) t l.self l.fn.self (step_next (names_of l.natives) t l.step) (step_next (names_of l.natives) t l.fn.step);
      keeps : Remains l.self l.fn.self;
      free : stack_free l.self.stack.items + step_free l.step ≤ stack_free l.fn.self.stack.items + step_free l.fn.step;
      holds : Holds l.self l.fn.self;
    }

abbrev pub decreases-steps : goal.decreases-steps
decreases-steps g l = stack_weight l.self.stack.items + step_weight l.step
