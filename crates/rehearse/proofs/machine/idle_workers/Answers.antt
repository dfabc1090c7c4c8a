use Rattle.std.proofs.Common.{ℕ, arith, subst}
use Rattle.rehearse.specs.World.{all_idle}
use Rattle.rehearse.specs.Playing.{ShowsWorkers}
use Rattle.rehearse.proofs.Moving.{idle_shown, idle_ready}
use Rattle.rehearse.proofs.Opening.{idle_pushed}
use Rattle.rehearse.proofs.machine.idle_workers.Goals as goal

pub loop-number-preserved : goal.loop-number-preserved
loop-number-preserved c =
    idle_pushed c.loop-number.number c.loop-number.made.items c.push.new.self.items c.new.result c.loop-number.invariant c.new.ensures c.in_ok-push.ensures.items

pub returns-clause-shows : goal.returns-clause-shows
returns-clause-shows c = λ names.
    subst (λ (n : ℕ). ShowsWorkers names 0 c.loop-number.made.items (all_idle n)) (omega (arith, c.loop-number.invariant.1)) (idle_shown names 0 c.loop-number.made.items c.loop-number.invariant.0)

pub returns-clause-ready : goal.returns-clause-ready
returns-clause-ready c = λ names now same. idle_ready names now 0 c.loop-number.made.items same c.loop-number.invariant.0
