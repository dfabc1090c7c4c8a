use Rattle.natives.specs.Lists.{llength_reply}
use Rattle.natives.specs.Pure.{pure_llength}
use Rattle.tcl_listcmd.proofs.reading.llength_command.Goals as goal

pub returns : goal.returns
returns c = rw (pure_llength c.args.words.now) (c.within_limit.ensures (llength_reply c.args.words.now) c.llength.ensures)
