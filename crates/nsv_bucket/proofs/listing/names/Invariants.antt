use Rattle.std.proofs.Common.{◌≡◌, ◌++◌}
use Rattle.std.specs.Option.{option_copied}
use Rattle.nsv_bucket.specs.Listings.{names_in}
use Rattle.nsv_bucket.proofs.listing.names.Given as goal

-- what is found, and what is left to find
abbrev pub invariant-loop-key : goal.invariant-loop-key
invariant-loop-key g l = l.found ++ names_in (option_copied l.pattern) l.key-iterator ≡ names_in (option_copied l.pattern) l.map.entries
