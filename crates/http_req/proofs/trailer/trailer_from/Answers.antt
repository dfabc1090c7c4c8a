use Rattle.std.proofs.Common.{◌+◌, drop, sym, ◌∙◌, ap, arith}
use Rattle.std.specs.Prelude.{if◌then◌else◌}
use Rattle.http_req.specs.declared.trailer.Trailer.TheVariants as trailer
use Rattle.http_req.specs.Trailers.{trailer_from}
use Rattle.http_req.proofs.CheckFacts.{not_below, below_is}
use Rattle.http_req.proofs.ChunkFacts.{trailer_next, trailer_ends}
use Rattle.http_req.proofs.trailer.trailer_from.Goals as goal

pub returns-in-End : goal.returns-in-End
returns-in-End c =
    sym (c.loop-byte.invariant.goes ∙ trailer_next c.args.text.now c.loop-byte.byte-index c.loop-byte.spot c.loop-byte.at _ (omega (arith, c.loop-byte-test.true)) (sym c.in-End.is ∙ c.trailer_step.ensures))

pub returns-in-Bad : goal.returns-in-Bad
returns-in-Bad c =
    sym (c.loop-byte.invariant.goes ∙ trailer_next c.args.text.now c.loop-byte.byte-index c.loop-byte.spot c.loop-byte.at _ (omega (arith, c.loop-byte-test.true)) (sym c.in-Bad.is ∙ c.trailer_step.ensures))

pub returns-then-at-eq-TRAILER_LIMIT : goal.returns-then-at-eq-TRAILER_LIMIT
returns-then-at-eq-TRAILER_LIMIT c =
    sym (c.loop-byte.invariant.goes ∙ trailer_next c.args.text.now c.loop-byte.byte-index c.loop-byte.spot c.loop-byte.at _ (omega (arith, c.loop-byte-test.true)) (sym c.in-Go.is ∙ c.trailer_step.ensures)
    ∙ ap (λ v. if v then trailer_from c.in-Go.to (c.loop-byte.at + 1) (drop (c.loop-byte.byte-index + 1) c.args.text.now) else trailer.Crowded) (not_below (c.loop-byte.at + 1) 16384 (omega (arith, c.if-at-eq-TRAILER_LIMIT.true))))

pub loop-byte-preserved : goal.loop-byte-preserved
loop-byte-preserved c = record {
  goes = c.loop-byte.invariant.goes ∙ trailer_next c.args.text.now c.loop-byte.byte-index c.loop-byte.spot c.loop-byte.at _ (omega (arith, c.loop-byte-test.true)) (sym c.in-Go.is ∙ c.trailer_step.ensures)
      ∙ ap (λ v. if v then trailer_from c.in-Go.to (c.loop-byte.at + 1) (drop (c.loop-byte.byte-index + 1) c.args.text.now) else trailer.Crowded) (below_is (c.loop-byte.at + 1) 16384 (omega (arith, c.loop-byte.invariant.room, c.if-at-eq-TRAILER_LIMIT.false)));
  place = omega (arith, c.loop-byte.invariant.place);
  room = omega (arith, c.loop-byte.invariant.room, c.if-at-eq-TRAILER_LIMIT.false);
}

pub returns : goal.returns
returns c = sym (c.loop-byte.invariant.goes ∙ trailer_ends c.args.text.now c.loop-byte.byte-index _ _ (omega (arith, c.loop-byte-test.false)))
