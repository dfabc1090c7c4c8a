use Rattle.std.proofs.Common.{◌≡◌, length, vec_len}
use Rattle.tcl_varcmd.specs.Linking.{unlinked_all}
use Rattle.tcl_varcmd.proofs.names.unlink_all.Given as goal

-- what is left to take away brings back what all links do
abbrev pub invariant-links : goal.invariant-links
invariant-links l = (unlinked_all l.links.items l.frames ≡ unlinked_all l.fn.links.items l.fn.frames) × (length l.frames.above ≡ length l.fn.frames.above)

abbrev pub decreases-links : goal.decreases-links
decreases-links l = vec_len l.links
