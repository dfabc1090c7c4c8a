use Rattle.std.proofs.Common.{◌≡◌, ◌++◌, take}
use Rattle.cmd_table.proofs.copy.append_copies.Given as goal

abbrev pub invariant-defs : goal.invariant-defs
invariant-defs l = l.all ≡ l.initial.all ++ take l.def-index l.defs
