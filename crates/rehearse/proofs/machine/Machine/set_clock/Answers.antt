use Rattle.std.proofs.Common.{refl, arith}
use Rattle.rehearse.proofs.Moving.{sets, too_late, ready_kept}
use Rattle.rehearse.proofs.machine.Machine.set_clock.Goals as goal

pub returns-then-moment-gt-LAST_MOMENT-clause-did : goal.returns-then-moment-gt-LAST_MOMENT-clause-did
returns-then-moment-gt-LAST_MOMENT-clause-did c = λ names listing. too_late names c.args.self.now c.args.moment listing (omega arith)

pub returns-clause-did : goal.returns-clause-did
returns-clause-did c = λ names listing. sets names c.args.self.now _ c.args.moment listing (omega arith) refl refl refl refl refl

pub returns-clause-ready : goal.returns-clause-ready
returns-clause-ready c = λ names ready. ready_kept names c.args.self.now _ ready refl refl refl refl
