use Rattle.rehearse.proofs.OneListing as listing
use Rattle.rehearse.proofs.law.one_outcome.Goals as goal

pub returns : goal.returns
returns c = listing.one_outcome
