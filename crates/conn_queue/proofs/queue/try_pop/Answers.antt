use Rattle.conn_queue.proofs.Keeping.{takes, learns_nothing}
use Rattle.conn_queue.proofs.queue.try_pop.Goals as goal

pub pop_as-requires-clause-rule : goal.pop_as-requires-clause-rule
pop_as-requires-clause-rule g c = (takes _ _ c.requires.shares, learns_nothing _ _)
