use Rattle.std.proofs.Common.{◌≡◌, take}
use Rattle.natives.specs.Lists.{joined}
use Rattle.tcl_string.proofs.joining.joined.Given as goal

-- the elements so far are joined
abbrev pub invariant-items : goal.invariant-items
invariant-items l = l.text ≡ joined l.between (take l.at l.list)
