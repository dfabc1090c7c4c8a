use Rattle.std.proofs.Common.{◌+◌, ◌++◌, arith}
use Rattle.load_gen.specs.Load.{rounds}
use Rattle.load_gen.proofs.Rounds.{at_first, one_more, at_last}
use Rattle.load_gen.proofs.push_rounds.Goals as goal

pub loop-k-init : goal.loop-k-init
loop-k-init c = (c.requires.below, omega arith, λ more. at_first c.args.file.now c.args.first c.args.count more c.args.drawn)

pub loop-k-preserved : goal.loop-k-preserved
loop-k-preserved c = (
  c.next-x.ensures.below,
  omega (arith, c.loop-k-test.true),
  λ more. one_more c.loop-k.file c.push_round.new.file (c.args.file.now ++ rounds (c.args.count + more) c.args.first c.args.drawn) (c.args.first + c.args.count + more) c.loop-k.k c.loop-k.x c.next-x.result
      (omega (arith, c.loop-k-test.true)) c.next-x.ensures.next c.in_ok-push_round.ensures (c.loop-k.invariant.2 more),
)

pub returns-clause-rounds : goal.returns-clause-rounds
returns-clause-rounds c = λ more.
    at_last c.loop-k.file (c.args.file.now ++ rounds (c.args.count + more) c.args.first c.args.drawn) (c.args.first + c.args.count) more c.loop-k.k c.loop-k.x
    (omega (arith, c.loop-k-test.false, c.loop-k.invariant.1)) (c.loop-k.invariant.2 more)
