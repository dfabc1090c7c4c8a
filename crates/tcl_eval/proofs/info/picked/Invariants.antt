use Rattle.std.proofs.Common.{◌≡◌, ◌++◌, filter, drop}
use Rattle.std.specs.Option.{option_copied}
use Rattle.txt_core.specs.Picking.{picks}
use Rattle.tcl_eval.proofs.info.picked.Given as goal

abbrev pub invariant-loop-name : goal.invariant-loop-name
invariant-loop-name l =
    filter (picks (option_copied l.fn.pattern)) l.fn.names ≡ l.found ++ filter (picks (option_copied l.fn.pattern)) (drop l.name-index l.fn.names)
