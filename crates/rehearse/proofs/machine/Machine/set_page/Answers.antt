use Rattle.std.proofs.Common.{refl}
use Rattle.rehearse.proofs.Moving.{pages_set, ready_kept}
use Rattle.rehearse.proofs.machine.Machine.set_page.Goals as goal

pub returns-clause-did : goal.returns-clause-did
returns-clause-did c = λ names listing.
    pages_set names c.args.self.now _ c.args.path.now c.args.page.now c.in_ok-path.path c.in_ok-page.page listing c.requires.0 c.requires.1 c.in_ok-path.ensures c.in_ok-page.ensures c.in_ok-set.ensures.ok refl refl refl refl refl

pub returns-clause-ready : goal.returns-clause-ready
returns-clause-ready c = λ names ready. ready_kept names c.args.self.now _ ready refl refl refl refl
