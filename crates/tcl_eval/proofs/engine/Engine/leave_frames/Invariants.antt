use Rattle.std.proofs.Common.{◌≡◌, length}
use Rattle.tcl_eval.specs.Engine.{state_of, at_global, Holds}
use Rattle.tcl_eval.proofs.engine.Engine.leave_frames.Given as goal

abbrev pub invariant-frames : goal.invariant-frames
invariant-frames g l = record {
  state : at_global (state_of l.self) ≡ at_global (state_of l.fn.self);
  stack : l.self.stack ≡ l.fn.self.stack;
  budget : l.self.budget ≡ l.fn.self.budget;
  question : l.self.question ≡ l.fn.self.question;
  holds : Holds l.self l.fn.self;
}

abbrev pub decreases-frames : goal.decreases-frames
decreases-frames g l = length l.self.frames.above
