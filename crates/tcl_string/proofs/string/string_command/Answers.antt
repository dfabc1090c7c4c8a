use Rattle.natives.specs.Subcommands.{string_reply}
use Rattle.natives.specs.Pure.{pure_string}
use Rattle.tcl_string.proofs.Saying.{comes_within}
use Rattle.tcl_string.proofs.string.string_command.Goals as goal

pub returns : goal.returns
returns c = rw (pure_string c.args.words.now) (comes_within (string_reply c.args.words.now) c.string_reply.result c.within_limit.result c.string_reply.ensures c.within_limit.ensures)
