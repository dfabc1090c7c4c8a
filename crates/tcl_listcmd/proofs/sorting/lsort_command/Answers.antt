use Rattle.natives.specs.Sorting.{lsort_reply}
use Rattle.natives.specs.Pure.{pure_lsort}
use Rattle.tcl_listcmd.proofs.sorting.lsort_command.Goals as goal

pub returns : goal.returns
returns c = rw (pure_lsort c.args.words.now) (c.within_limit.ensures (lsort_reply c.args.words.now) c.lsort.ensures)
