use Rattle.natives.specs.Lists.{lreplace_reply}
use Rattle.natives.specs.Pure.{pure_lreplace}
use Rattle.tcl_listcmd.proofs.changing.lreplace_command.Goals as goal

pub returns : goal.returns
returns c = rw (pure_lreplace c.args.words.now) (c.within_limit.ensures (lreplace_reply c.args.words.now) c.lreplace.ensures)
