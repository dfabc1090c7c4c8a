use Rattle.natives.specs.Lists.{linsert_reply}
use Rattle.natives.specs.Pure.{pure_linsert}
use Rattle.tcl_listcmd.proofs.changing.linsert_command.Goals as goal

pub returns : goal.returns
returns c = rw (pure_linsert c.args.words.now) (c.within_limit.ensures (linsert_reply c.args.words.now) c.linsert.ensures)
