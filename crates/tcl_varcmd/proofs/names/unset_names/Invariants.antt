use Rattle.std.proofs.Common.{◌≡◌, drop, length}
use Rattle.tcl_varcmd.specs.Scalars.{unset_all}
use Rattle.tcl_varcmd.proofs.names.unset_names.Given as goal

-- what is still to be removed comes to what the whole does
abbrev pub invariant-names : goal.invariant-names
invariant-names l = (unset_all l.frames (drop l.name-index l.names) ≡ unset_all l.initial.frames l.names) × (length l.frames.above ≡ length l.initial.frames.above)
