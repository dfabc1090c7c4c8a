use Rattle.std.proofs.Common.{◌≡◌, ◌++◌, map}
use Rattle.std.specs.List.{filter}
use Rattle.sched_core.specs.Due.{is_due, listed}
use Rattle.sched_core.proofs.due.due_scripts.Given as goal

-- what is listed, and what is left to list
abbrev pub invariant-loop-key : goal.invariant-loop-key
invariant-loop-key l = l.list ++ map listed l.key-iterator ≡ map listed (filter (is_due l.now) l.plans.entries)
