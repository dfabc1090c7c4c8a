use Rattle.std.proofs.Common.{◌≡◌, sym, ap, subst, List, ℕ, Option, None, Some, Ok, Err, Result}
use Rattle.std.specs.Result.{result_ok}
use Rattle.base64.specs.GeneralPurpose.{decode_of, decoded_of, IsDecodeFailure}
use Rattle.base64.specs.declared.engine.general_purpose.GeneralPurpose.{GeneralPurpose}
use Rattle.base64.specs.declared.decode.DecodeError.{DecodeError}
use Rattle.base64.specs.declared.decode.DecodeAllocError.{DecodeAllocError}
use Rattle.base64.specs.declared.decode.DecodeAllocError.TheVariants.{DecodeError as Failed}
use Rattle.conn_host.proofs.authorization.decoded.Goals as goal

-- a text that fails stands for no bytes
none_where_failed : (engine : GeneralPurpose) (text : List ℕ) (why : DecodeAllocError) (fault : DecodeError) → why ≡ Failed fault → IsDecodeFailure engine text why → None ≡ decoded_of engine text
unfolding decoded_of
none_where_failed engine text why fault is failed =
    let found : decode_of engine text ≡ Err fault = subst (λ (w : DecodeAllocError). IsDecodeFailure engine text w) is failed in
    sym (ap (λ (r : Result (List ℕ) DecodeError). result_ok r) found)

pub returns-in-Ok : goal.returns-in-Ok
unfolding decoded_of
returns-in-Ok c = rw c.from_vec.ensures (sym (ap (λ (r : Result (List ℕ) DecodeError). result_ok r) c.in-Ok.ensures.ok))

pub returns-in-Err-DecodeError : goal.returns-in-Err-DecodeError
returns-in-Err-DecodeError c =
    none_where_failed _ c.args.text.now c.in-Err-DecodeError.field-0 c.in-Err-DecodeError.field-0-0 c.in-Err-DecodeError.field-0-is c.in-Err-DecodeError.ensures.err
