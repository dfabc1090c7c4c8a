use Rattle.std.proofs.Common.{sym, ◌∙◌, arith}
use Rattle.http_req.proofs.ChunkFacts.{line_next, line_ends, digit_step, size_grows, never_size}
use Rattle.http_req.proofs.chunk_line.chunk_line.Goals as goal
use Rattle.http_req.proofs.chunk_line.chunk_line.Goals.{in-Digit, in-Go}

pub overflow_mul-size : goal.overflow_mul-size
overflow_mul-size c =
    let digit = digit_step c.loop-byte.spot c.loop-byte.at _ c.in-Digit.value (sym c.line_step.ensures ∙ c.in-Digit.is) in
    omega (arith, (size_grows c.loop-byte.at c.loop-byte.size c.in-Digit.value (c.loop-byte.invariant.small digit.spot_is) digit.value digit.early).1)

pub overflow_add-size : goal.overflow_add-size
overflow_add-size c =
    let digit = digit_step c.loop-byte.spot c.loop-byte.at _ c.in-Digit.value (sym c.line_step.ensures ∙ c.in-Digit.is) in
    omega (arith, (size_grows c.loop-byte.at c.loop-byte.size c.in-Digit.value (c.loop-byte.invariant.small digit.spot_is) digit.value digit.early).1)

pub returns-in-End-clause-is : goal.returns-in-End-clause-is
returns-in-End-clause-is c =
    sym (c.loop-byte.invariant.goes ∙ line_next c.args.text.now c.loop-byte.byte-index c.loop-byte.spot c.loop-byte.at c.loop-byte.size _ (omega (arith, c.loop-byte-test.true)) (sym c.in-End.is ∙ c.line_step.ensures))

pub returns-in-Bad-clause-is : goal.returns-in-Bad-clause-is
returns-in-Bad-clause-is c =
    sym (c.loop-byte.invariant.goes ∙ line_next c.args.text.now c.loop-byte.byte-index c.loop-byte.spot c.loop-byte.at c.loop-byte.size _ (omega (arith, c.loop-byte-test.true)) (sym c.in-Bad.is ∙ c.line_step.ensures))

pub loop-byte-preserved : goal.loop-byte-preserved
loop-byte-preserved c =
    elim c.match-line_step.branch [
      | in-Digit w ↦
          let digit = digit_step c.loop-byte.spot c.loop-byte.at _ w.in-Digit.value (sym c.line_step.ensures ∙ w.in-Digit.is) in
          rw (w.spot-is, w.size-is) (record {
            goes = c.loop-byte.invariant.goes ∙ line_next c.args.text.now c.loop-byte.byte-index c.loop-byte.spot c.loop-byte.at c.loop-byte.size _ (omega (arith, c.loop-byte-test.true)) (sym w.in-Digit.is ∙ c.line_step.ensures);
            place = omega (arith, c.loop-byte.invariant.place);
            small = λ is. (size_grows c.loop-byte.at c.loop-byte.size w.in-Digit.value (c.loop-byte.invariant.small digit.spot_is) digit.value digit.early).0;
          })
      | in-Go w ↦
          rw (w.spot-is, w.size-is) (record {
            goes = c.loop-byte.invariant.goes ∙ line_next c.args.text.now c.loop-byte.byte-index c.loop-byte.spot c.loop-byte.at c.loop-byte.size _ (omega (arith, c.loop-byte-test.true)) (sym w.in-Go.is ∙ c.line_step.ensures);
            place = omega (arith, c.loop-byte.invariant.place);
            small = λ is. absurd (never_size c.loop-byte.spot c.loop-byte.at _ w.in-Go.to (sym c.line_step.ensures ∙ w.in-Go.is) is);
          })
    ]

pub returns-clause-is : goal.returns-clause-is
returns-clause-is c = sym (c.loop-byte.invariant.goes ∙ line_ends c.args.text.now c.loop-byte.byte-index _ _ _ (omega (arith, c.loop-byte-test.false)))
