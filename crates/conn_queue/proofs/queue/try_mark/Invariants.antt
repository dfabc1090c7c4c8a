use Rattle.crossbeam_queue.specs.Passes.{ruled_capacity}
use Rattle.conn_queue.proofs.queue.try_mark.Given as goal

abbrev pub ghosts-push : goal.ghosts-push
ghosts-push g a = record { room = ruled_capacity a.queue.now }
