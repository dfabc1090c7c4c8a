use Rattle.tcl_list.proofs.Quoting.{listing_quoting}
use Rattle.tcl_list.proofs.law.quote_splits.Goals as goal

pub returns : goal.returns
returns c = listing_quoting
