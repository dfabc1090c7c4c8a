use Rattle.std.proofs.Common.{◌≡◌, drop, length}
use Rattle.tcl_varcmd.specs.Scalars.{global_all}
use Rattle.tcl_varcmd.specs.Linking.{unlinked_all}
use Rattle.tcl_varcmd.proofs.names.link_all.Given as goal

-- what is still to be linked comes to what the whole does, and what is noted brings back the frames of the beginning
abbrev pub invariant-names : goal.invariant-names
invariant-names l =
    (global_all l.frames (drop l.name-index l.names) ≡ global_all l.initial.frames l.names)
    × (unlinked_all l.links.items l.frames ≡ unlinked_all l.initial.links.items l.initial.frames)
    × (length l.frames.above ≡ length l.initial.frames.above)
