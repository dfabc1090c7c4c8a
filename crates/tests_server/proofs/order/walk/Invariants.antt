use Rattle.std.proofs.Common.{◌≡◌}
use Rattle.tests_server.proofs.order.walk.Given as goal

abbrev pub invariant-loop-letter : goal.invariant-loop-letter
invariant-loop-letter l = l.stage.asked ≡ l.asked
