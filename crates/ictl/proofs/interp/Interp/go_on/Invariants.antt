use Rattle.std.proofs.Common.{◌≡◌, ◌≤◌, ℕ, ◌+◌, ◌-◌, List}
use Rattle.outside.specs.declared.question.Answer.{Answer}
use Rattle.natives.specs.Names.{names_of}
use Rattle.ictl.specs.Interps.{Holds, IsSameRun, interp_written, goes_to}
use Rattle.ictl.specs.Steps.{scripts_left}
use Rattle.ictl.specs.Falls.{SettlingAt, IsScriptTask, StopFalls}
use Rattle.ictl.proofs.interp.Interp.go_on.Given as goal

abbrev pub invariant-scripts : goal.invariant-scripts
invariant-scripts g l =
    let names = names_of l.natives in
    record {
      gives : (inside : ℕ) (further : List Answer) → goes_to names l.stop (inside + ((l.steps + interp_written names l.initial.self) - (l.initial.steps + interp_written names l.self))) l.self further ≡ goes_to names l.initial.stop inside l.initial.self further;
      counts : l.initial.steps + interp_written names l.self ≤ l.steps + interp_written names l.initial.self;
      same : IsSameRun l.self l.initial.self;
      holds : Holds l.self l.initial.self;
      at : SettlingAt l.stop l.self.settling;
      script : IsScriptTask l.self.task;
      falls : (before : ℕ) → StopFalls l.initial.stop l.initial.self.task l.initial.self.settling before → StopFalls l.stop l.self.task l.self.settling before;
    }

abbrev pub decreases-scripts : goal.decreases-scripts
decreases-scripts g l = scripts_left l.self.visit l.self.cleanups l.self.task
