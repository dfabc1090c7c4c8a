use Rattle.std.proofs.Common.{arith}
use Rattle.http_req.proofs.FieldFacts.{digit_step}
use Rattle.http_req.proofs.fields.number.Goals as goal

pub overflow_mul-number : goal.overflow_mul-number
overflow_mul-number c =
    let at = digit_step c.args.digits.now c.loop-digit.digit-index c.requires c.loop-digit-test.true in
    omega (arith, at.next, at.fits, c.loop-digit.invariant)

pub overflow_add-number : goal.overflow_add-number
overflow_add-number c =
    let at = digit_step c.args.digits.now c.loop-digit.digit-index c.requires c.loop-digit-test.true in
    omega (arith, at.next, at.fits, c.loop-digit.invariant)

pub loop-digit-preserved : goal.loop-digit-preserved
loop-digit-preserved c =
    let at = digit_step c.args.digits.now c.loop-digit.digit-index c.requires c.loop-digit-test.true in
    omega (arith, at.next, at.fits, c.loop-digit.invariant)
