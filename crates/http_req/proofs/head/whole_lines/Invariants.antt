use Rattle.std.proofs.Common.{◌≤◌, ◌≢◌, length, drop}
use Rattle.std.specs.Prelude.{All}
use Rattle.http_req.proofs.head.whole_lines.Given as goal

abbrev pub invariant-loop-end : goal.invariant-loop-end
invariant-loop-end l = record { inside : l.end ≤ length l.text; none : All (λ byte. byte ≢ 10) (drop l.end l.text) }

abbrev pub decreases-loop-end : goal.decreases-loop-end
decreases-loop-end l = l.end
