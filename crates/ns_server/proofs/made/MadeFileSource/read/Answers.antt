use Rattle.std.proofs.Common.{◌++◌, arith}
use Rattle.ns_server.proofs.Making.{made_gives}
use Rattle.ns_server.proofs.made.MadeFileSource.read.Goals as goal

pub returns-in-Ok : goal.returns-in-Ok
returns-in-Ok c = (
  made_gives (c.args.self.now.at_hand ++ c.args.self.now.behind) c.fill.new.self.at_hand c.fill.new.self.behind c.give.new.self.at_hand c.give.new.self.behind c.args.into.now c.give.new.into c.give.result
      c.fill.ensures.rest c.give.ensures.gives c.give.ensures.behind.0 c.give.ensures.fits c.give.ensures.length c.give.ensures.some c.in-Ok.ensures.some,
  omega (arith, c.fill.ensures.kept, c.give.ensures.behind.1),
)
