use Rattle.std.proofs.Common.{inl, inr, arith}
use Rattle.std.proofs.lemmas.Bool.Decides.{nat_tests}
use Rattle.http_req.proofs.HeadFacts.{lines_up_to}
use Rattle.http_req.proofs.head.whole_lines.Goals as goal
use Rattle.http_req.proofs.head.whole_lines.Goals.{then-loop-end-test+else-text-end-ne10, else-loop-end-test}

pub returns : goal.returns
returns c =
    elim c.loop-end-test.branch [
      | then-loop-end-test+else-text-end-ne10 w ↦ lines_up_to _ _ c.loop-end.invariant.none (inr (omega arith, omega arith, grind (arith, nat_tests)))
      | else-loop-end-test w ↦ lines_up_to _ _ c.loop-end.invariant.none (inl (omega arith))
    ]
