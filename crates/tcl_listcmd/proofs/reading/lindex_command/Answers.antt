use Rattle.natives.specs.Lists.{lindex_reply}
use Rattle.natives.specs.Pure.{pure_lindex}
use Rattle.tcl_listcmd.proofs.reading.lindex_command.Goals as goal

pub returns : goal.returns
returns c = rw (pure_lindex c.args.words.now) (c.within_limit.ensures (lindex_reply c.args.words.now) c.lindex.ensures)
