use Rattle.natives.specs.Formatting.{format_reply}
use Rattle.natives.specs.Pure.{pure_format}
use Rattle.tcl_string.proofs.Saying.{comes_within}
use Rattle.tcl_string.proofs.formatting.format_command.Goals as goal

pub returns : goal.returns
returns c = rw (pure_format c.args.words.now) (comes_within (format_reply c.args.words.now) c.format_reply.result c.within_limit.result c.format_reply.ensures c.within_limit.ensures)
