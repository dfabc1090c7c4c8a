use Rattle.std.proofs.Common.{◌≡◌, ◌≤◌, ◌*◌, ◌-◌, ◌^◌, take, sum_by, length}
use Rattle.tcl_eval.proofs.cost.command_cost.Given as goal

abbrev pub invariant-loop-word : goal.invariant-loop-word
invariant-loop-word l = record {
  same : l.bytes ≡ sum_by length (take l.word-index l.word-items);
  small : l.bytes ≤ l.word-index * (2 ^ 64 - 1);
}
