use Rattle.txt_core.specs.Listing.{lists_listing, listing_is}
use Rattle.tcl_list.proofs.law.one_listing.Goals as goal

pub returns-clause-gives : goal.returns-clause-gives
returns-clause-gives c = lists_listing

pub returns-clause-only : goal.returns-clause-only
returns-clause-only c = listing_is
