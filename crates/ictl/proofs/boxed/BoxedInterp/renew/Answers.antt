use Rattle.std.proofs.Common.{arith}
use Rattle.natives.specs.Names.{names_of}
use Rattle.ictl.proofs.Renewals.{newly_built, nothing_written}
use Rattle.ictl.proofs.boxed.BoxedInterp.renew.Goals as goal

pub returns-in-Same-clause-of : goal.returns-in-Same-clause-of
returns-in-Same-clause-of g c = rw c.in-Same.is c.unmarked.ensures

pub returns-in-Same-clause-steps : goal.returns-in-Same-clause-steps
returns-in-Same-clause-steps g c = rw c.in-Same.is (nothing_written c.unmarked.result c.args.steps.now)

pub updated-requires : goal.updated-requires
updated-requires g c = rw c.in-Since.is at c.requires

pub returns-in-Since-clause-of : goal.returns-in-Since-clause-of
returns-in-Since-clause-of g c = rw c.in-Since.is c.updated.ensures.of

pub returns-in-Since-clause-steps : goal.returns-in-Since-clause-steps
returns-in-Since-clause-steps g c = rw c.in-Since.is c.updated.ensures.steps

pub returns-in-Since-clause-most : goal.returns-in-Since-clause-most
returns-in-Since-clause-most g c = rw c.in-Since.is c.updated.ensures.most

pub returns-in-Whole-clause-of : goal.returns-in-Whole-clause-of
returns-in-Whole-clause-of g c =
    rw c.in-Whole.is (newly_built c.build.result (names_of c.args.natives.now) c.in-Whole.epoch c.in-Whole.defs c.build.ensures.is_new c.build.ensures.blueprint c.build.ensures.unmarked)

pub returns-in-Whole-clause-steps : goal.returns-in-Whole-clause-steps
returns-in-Whole-clause-steps g c = rw c.in-Whole.is c.build.ensures.steps

pub returns-in-Whole-clause-most : goal.returns-in-Whole-clause-most
returns-in-Whole-clause-most g c = rw c.in-Whole.is (let most = c.build.ensures.most in omega (arith, most))
