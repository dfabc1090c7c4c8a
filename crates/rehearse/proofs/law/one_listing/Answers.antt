use Rattle.rehearse.proofs.OneListing as listing
use Rattle.rehearse.proofs.law.one_listing.Goals as goal

pub returns : goal.returns
returns c = listing.one_listing
