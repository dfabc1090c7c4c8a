use Rattle.natives.specs.Names.{names_of}
use Rattle.ictl.specs.Interps.{ending_of}
use Rattle.ictl.specs.Falls.{first_number}
use Rattle.ictl.specs.Main.{answered, both}
use Rattle.ictl.proofs.Interpreters.{both_end, over_same, over_holds, unless}
use Rattle.ictl.proofs.Overs.{over_stands, over_falls}
use Rattle.ictl.proofs.Starts.{nothing_behind}
use Rattle.ictl.proofs.interp.Interp.go_behind.Goals as goal

pub returns-then-has_nothing_behind-clause-stands : goal.returns-then-has_nothing_behind-clause-stands
returns-then-has_nothing_behind-clause-stands g c = λ request sound visit inside. unless c.end_here.result _ (λ further.
    let none = c.if-has_nothing_behind.true in
    nothing_behind (names_of c.args.natives.now) c.end_here.result c.args.self.now c.end_here.new.self request inside c.args.steps.now further c.end_here.ensures.ends c.end_here.ensures.task sound visit
    (c.has_nothing_behind.ensures.trace none) (c.has_nothing_behind.ensures.cleanups none))

pub returns-then-has_nothing_behind-clause-same : goal.returns-then-has_nothing_behind-clause-same
returns-then-has_nothing_behind-clause-same g c = over_same c.end_here.new.self c.args.self.now c.end_here.ensures.task

pub returns-then-has_nothing_behind-clause-holds : goal.returns-then-has_nothing_behind-clause-holds
returns-then-has_nothing_behind-clause-holds g c = over_holds c.end_here.new.self c.args.self.now c.end_here.ensures.task

pub returns-then-has_nothing_behind-clause-next : goal.returns-then-has_nothing_behind-clause-next
returns-then-has_nothing_behind-clause-next g c =
    over_stands c.end_here.result (both (ending_of c.args.self.now.task) answered) c.args.self.now c.end_here.new.self c.end_here.ensures.ends c.end_here.ensures.task c.requires.0
    (both_end (ending_of c.args.self.now.task))

pub returns-then-has_nothing_behind-clause-falls : goal.returns-then-has_nothing_behind-clause-falls
returns-then-has_nothing_behind-clause-falls g c = over_falls c.end_here.result _ c.end_here.new.self first_number c.end_here.ensures.ends
