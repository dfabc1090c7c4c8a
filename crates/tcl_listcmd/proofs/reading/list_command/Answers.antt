use Rattle.natives.specs.Lists.{list_reply}
use Rattle.natives.specs.Pure.{pure_list}
use Rattle.tcl_listcmd.proofs.reading.list_command.Goals as goal

pub returns : goal.returns
returns c = rw (pure_list c.args.words.now) (c.within_limit.ensures (list_reply c.args.words.now) c.list.ensures)
