use Rattle.natives.specs.Names.{names_of}
use Rattle.rehearse.proofs.machine.Machine.act.Goals as goal

pub returns-in-Workers-clause-did : goal.returns-in-Workers-clause-did
returns-in-Workers-clause-did g c = rw c.in-Workers.is (c.set_workers.ensures.did (names_of c.args.natives.now) c.args.listing.now)

pub returns-in-Workers-clause-ready : goal.returns-in-Workers-clause-ready
returns-in-Workers-clause-ready g c = c.set_workers.ensures.ready (names_of c.args.natives.now) c.requires.ready

pub returns-in-Clock-clause-did : goal.returns-in-Clock-clause-did
returns-in-Clock-clause-did g c = rw c.in-Clock.is (c.set_clock.ensures.did (names_of c.args.natives.now) c.args.listing.now)

pub returns-in-Clock-clause-ready : goal.returns-in-Clock-clause-ready
returns-in-Clock-clause-ready g c = c.set_clock.ensures.ready (names_of c.args.natives.now) c.requires.ready

pub returns-in-Page-clause-did : goal.returns-in-Page-clause-did
returns-in-Page-clause-did g c = rw c.in-Page.is (c.set_page.ensures.did (names_of c.args.natives.now) c.args.listing.now)

pub returns-in-Page-clause-ready : goal.returns-in-Page-clause-ready
returns-in-Page-clause-ready g c = c.set_page.ensures.ready (names_of c.args.natives.now) c.requires.ready

pub returns-in-Define-clause-did : goal.returns-in-Define-clause-did
returns-in-Define-clause-did g c = rw c.in-Define.is c.define.ensures.did

pub returns-in-Connect-clause-did : goal.returns-in-Connect-clause-did
returns-in-Connect-clause-did g c = rw c.in-Connect.is (c.connect.ensures.did (names_of c.args.natives.now) c.args.listing.now)

pub returns-in-Connect-clause-ready : goal.returns-in-Connect-clause-ready
returns-in-Connect-clause-ready g c = c.connect.ensures.ready (names_of c.args.natives.now) c.requires.ready

pub returns-in-Step-clause-did : goal.returns-in-Step-clause-did
returns-in-Step-clause-did g c = rw c.in-Step.is c.step.ensures.did

pub returns-in-Run-clause-did : goal.returns-in-Run-clause-did
returns-in-Run-clause-did g c = rw c.in-Run.is c.run.ensures.did
