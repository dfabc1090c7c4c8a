use Rattle.natives.specs.Lists.{concat_reply}
use Rattle.natives.specs.Pure.{pure_concat}
use Rattle.tcl_listcmd.proofs.concat.concat_command.Goals as goal

pub returns : goal.returns
returns c = rw (pure_concat c.args.words.now) (c.within_limit.ensures (concat_reply c.args.words.now) c.concat.ensures)
