use Rattle.tcl_parse.proofs.Canonical.{spelled_canonical}
use Rattle.tcl_parse.proofs.law.canonical_tree.Goals as goal

pub returns : goal.returns
returns c = spelled_canonical
