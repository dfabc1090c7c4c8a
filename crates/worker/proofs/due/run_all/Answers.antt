use Rattle.std.proofs.Common.{◌≡◌, ◌∙◌, ◌≤◌, ◌+◌, List, length, refl, sym, ap, arith}
use Rattle.std.specs.Prelude.{None}
use Rattle.natives.specs.Names.{names_of}
use Rattle.worker.specs.Lists.{listed}
use Rattle.worker.specs.Sessions.{at}
use Rattle.worker.proofs.Turning.{units_on}
use Rattle.worker.proofs.Listing.{runs_next, runs_each, lost_list}
use Rattle.worker.proofs.due.run_all.Goals as goal

pub scripts-preserved : goal.scripts-preserved
scripts-preserved g c =
    let inv = c.scripts.invariant in
    let a = at c.args.passes.now c.args.worker.now (g.C.Clock.held c.args.clock.now) None (g.P.Pages.faults c.args.pages.now) c.args.steps.now in
    let m = at c.scripts.passes c.scripts.worker (g.C.Clock.held c.scripts.clock) None (g.P.Pages.faults c.scripts.pages) c.scripts.steps in
    let b = at c.run_script-one.new.passes c.run_script-one.new.worker (g.C.Clock.held c.run_script-one.new.clock) None (g.P.Pages.faults c.run_script-one.new.pages) c.run_script-one.new.steps in
    record {
      cells = c.run_script-one.ensures.cells;
      units = units_on c.args.passes.now c.scripts.passes c.run_script-one.new.passes inv.units c.run_script-one.ensures.units;
      number = c.run_script-one.ensures.number ∙ inv.number;
      clean = c.run_script-one.ensures.clean;
      runs = runs_next (names_of c.args.natives.now) (g.P.Pages.held c.args.pages.now) _ c.scripts.due-index c.due-item.result a m b (listed c.scripts.ran) (listed c.push_reserved.new.self) c.run_script-one.result
          (omega (arith, c.scripts-test.true)) c.due-item.is c.push_reserved.ensures.items inv.runs (rw inv.held at c.run_script-one.ensures.runs);
      room = let a = inv.room in let b = c.push_reserved.ensures.room in omega (arith, a, b);
      held = c.run_script-one.ensures.held ∙ inv.held;
    }
