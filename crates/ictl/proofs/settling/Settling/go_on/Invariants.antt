use Rattle.std.proofs.Common.{◌≡◌, ◌≤◌, ℕ, ◌+◌, ◌-◌, List, None}
use Rattle.outside.specs.declared.question.Answer.{Answer}
use Rattle.natives.specs.Names.{names_of}
use Rattle.tcl_eval.specs.Engine.{Lasts}
use Rattle.ictl.specs.Settle.{settle}
use Rattle.ictl.specs.Defines.{inner_runs}
use Rattle.ictl.specs.Standing.{comes_to, written}
use Rattle.ictl.specs.Falls.{StopAsks, Suffices}
use Rattle.ictl.proofs.settling.Settling.go_on.Given as goal

abbrev pub invariant-runs : goal.invariant-runs
invariant-runs g l =
    let names = names_of l.natives in
    let bp = l.blueprint.value in
    record {
      gives : (inside : ℕ) (further : List Answer) → settle (inner_runs names bp l.moment) l.self.questions (inside + ((l.steps + written names bp l.initial.self) - (l.initial.steps + written names bp l.self))) (comes_to names l.stop l.self.run) further
          ≡ settle (inner_runs names bp l.moment) l.initial.self.questions inside (comes_to names l.initial.stop l.initial.self.run) further;
      counts : l.initial.steps + written names bp l.self ≤ l.steps + written names bp l.initial.self;
      lasts : Lasts l.self.run.engine l.initial.self.run.engine;
      none : l.self.inner ≡ None;
      asks : StopAsks l.stop l.self.run;
      suffices : Suffices l.stop l.self.run l.self.questions;
      fewer : l.self.questions ≤ l.initial.self.questions;
    }

abbrev pub decreases-runs : goal.decreases-runs
decreases-runs g l = l.self.questions
