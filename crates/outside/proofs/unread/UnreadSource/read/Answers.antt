use Rattle.std.proofs.Common.{length, arith}
use Rattle.outside.proofs.MemoryLemmas.{gives_bytes}
use Rattle.outside.proofs.unread.UnreadSource.read.Goals as goal

pub returns : goal.returns
returns c = (
  gives_bytes c.args.self.now c.args.into.now c.take_into.new.buffer c.take_into.new.self (length c.args.into.now) c.take_into.result
      c.requires.room c.requires.room c.take_into.ensures.count c.take_into.ensures.filled c.take_into.ensures.left,
  omega arith,
)
