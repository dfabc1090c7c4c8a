use Rattle.std.proofs.Common.{◌≡◌, true}
use Rattle.natives.specs.Names.{names_of}
use Rattle.rehearse.specs.Reading.{actor_of}
use Rattle.rehearse.proofs.Advancing.{no_run, so_far_begins, so_far_more, so_far_over, so_far_ready, so_far_there, steps_fall}
use Rattle.rehearse.proofs.machine.Machine.run.Goals as goal

pub returns-then-not-has-clause-did : goal.returns-then-not-has-clause-did
returns-then-not-has-clause-did g c =
    no_run (names_of c.args.natives.now) (actor_of c.args.actor) c.args.self.now c.args.listing.now
    (λ there. let yes : c.has.result ≡ true = c.has.ensures.1 there in absurd (cc (yes, c.if-not-has.true)))

pub advance-requires-clause-there : goal.advance-requires-clause-there
advance-requires-clause-there g c = c.has.ensures.0 c.if-not-has.false

pub steps-init : goal.steps-init
steps-init g c =
    so_far_begins (names_of c.args.natives.now) (actor_of c.args.actor) _ c.args.self.now c.args.listing.now c.advance.new.self c.advance.new.listing c.in_ok-idle.ensures

pub advance-requires-in-steps-clause-ready : goal.advance-requires-in-steps-clause-ready
advance-requires-in-steps-clause-ready g c =
    so_far_ready (names_of c.args.natives.now) (actor_of c.args.actor) c.steps.idle c.args.self.now c.args.listing.now c.steps.self c.steps.listing c.requires.ready c.steps.invariant

pub advance-requires-in-steps-clause-there : goal.advance-requires-in-steps-clause-there
advance-requires-in-steps-clause-there g c =
    so_far_there (names_of c.args.natives.now) (actor_of c.args.actor) c.steps.idle c.args.self.now c.args.listing.now c.steps.self c.steps.listing c.steps.invariant

pub steps-preserved : goal.steps-preserved
steps-preserved g c =
    so_far_more (names_of c.args.natives.now) (actor_of c.args.actor) c.steps.idle _ c.args.self.now c.steps.self c.advance-in-steps.new.self
    c.args.listing.now c.steps.listing c.advance-in-steps.new.listing c.steps-test.true c.steps.invariant c.in_ok-idle-2.ensures

pub steps-smaller : goal.steps-smaller
steps-smaller g c =
    steps_fall (names_of c.args.natives.now) (actor_of c.args.actor) c.steps.idle _ c.args.self.now c.steps.self c.advance-in-steps.new.self
    c.args.listing.now c.steps.listing c.advance-in-steps.new.listing c.steps-test.true c.steps.invariant c.in_ok-idle-2.ensures

pub returns-clause-did : goal.returns-clause-did
returns-clause-did g c =
    so_far_over (names_of c.args.natives.now) (actor_of c.args.actor) c.steps.idle c.args.self.now c.args.listing.now c.steps.self c.steps.listing c.steps-test.false c.steps.invariant

pub returns-clause-ready : goal.returns-clause-ready
returns-clause-ready g c =
    so_far_ready (names_of c.args.natives.now) (actor_of c.args.actor) c.steps.idle c.args.self.now c.args.listing.now c.steps.self c.steps.listing c.requires.ready c.steps.invariant
