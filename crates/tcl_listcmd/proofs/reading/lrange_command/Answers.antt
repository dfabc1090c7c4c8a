use Rattle.natives.specs.Lists.{lrange_reply}
use Rattle.natives.specs.Pure.{pure_lrange}
use Rattle.tcl_listcmd.proofs.reading.lrange_command.Goals as goal

pub returns : goal.returns
returns c = rw (pure_lrange c.args.words.now) (c.within_limit.ensures (lrange_reply c.args.words.now) c.lrange.ensures)
