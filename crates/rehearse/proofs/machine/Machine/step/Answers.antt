use Rattle.std.proofs.Common.{◌≡◌, true}
use Rattle.natives.specs.Names.{names_of}
use Rattle.rehearse.specs.Reading.{actor_of}
use Rattle.rehearse.proofs.Advancing.{advanced_did, advanced_ready, no_step}
use Rattle.rehearse.proofs.machine.Machine.step.Goals as goal

pub returns-then-not-has-clause-did : goal.returns-then-not-has-clause-did
returns-then-not-has-clause-did g c =
    no_step (names_of c.args.natives.now) (actor_of c.args.actor) c.args.self.now c.args.listing.now
    (λ there. let yes : c.has.result ≡ true = c.has.ensures.1 there in absurd (cc (yes, c.if-not-has.true)))

pub advance-requires-clause-there : goal.advance-requires-clause-there
advance-requires-clause-there g c = c.has.ensures.0 c.if-not-has.false

pub returns-clause-did : goal.returns-clause-did
returns-clause-did g c =
    advanced_did (names_of c.args.natives.now) (actor_of c.args.actor) _ c.args.self.now c.args.listing.now c.advance.new.self c.advance.new.listing c.in_ok-advance.ensures

pub returns-clause-ready : goal.returns-clause-ready
returns-clause-ready g c =
    advanced_ready (names_of c.args.natives.now) (actor_of c.args.actor) _ c.args.self.now c.args.listing.now c.advance.new.self c.advance.new.listing c.requires.ready c.in_ok-advance.ensures
