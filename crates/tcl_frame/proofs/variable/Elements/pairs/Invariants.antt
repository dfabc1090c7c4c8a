use Rattle.std.proofs.Common.{◌≡◌, ◌++◌}
use Rattle.tcl_frame.specs.Entries.{by_bytes}
use Rattle.tcl_frame.proofs.variable.Elements.pairs.Given as goal

-- the pairs so far and the entries that are left are all entries
abbrev pub invariant-loop-index : goal.invariant-loop-index
invariant-loop-index l = l.pairs ++ by_bytes l.index-iterator ≡ by_bytes l.self-inside.values.entries
