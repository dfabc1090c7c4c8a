use Rattle.natives.specs.Searching.{lsearch_reply}
use Rattle.natives.specs.Pure.{pure_lsearch}
use Rattle.tcl_listcmd.proofs.searching.lsearch_command.Goals as goal

pub returns : goal.returns
returns c = rw (pure_lsearch c.args.words.now) (c.within_limit.ensures (lsearch_reply c.args.words.now) c.lsearch.ensures)
