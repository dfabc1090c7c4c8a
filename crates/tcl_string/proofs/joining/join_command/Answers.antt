use Rattle.natives.specs.Cutting.{join_reply}
use Rattle.natives.specs.Pure.{pure_join}
use Rattle.tcl_string.proofs.Saying.{comes_within}
use Rattle.tcl_string.proofs.joining.join_command.Goals as goal

pub returns : goal.returns
returns c = rw (pure_join c.args.words.now) (comes_within (join_reply c.args.words.now) c.join_reply.result c.within_limit.result c.join_reply.ensures c.within_limit.ensures)
