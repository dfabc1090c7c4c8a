use Rattle.std.proofs.Common.{◌∙◌, ap, refl, ◌<◌, ◌^◌, ℕ, List, get_or, length, take_all, false, true, arith, rules}
use Rattle.std.proofs.lemmas.List.{length-set, length-replicate}
use Rattle.natives.specs.Cutting.{is_one_of}
use Rattle.tcl_string.proofs.Sets.{set_none, set_more}
use Rattle.tcl_string.proofs.byte_set.ByteSet.new.Goals as goal

pub loop-byte-init : goal.loop-byte-init
loop-byte-init c = record { has = λ b. set_none 256 b; size = length-replicate 256 false }

pub loop-byte-preserved : goal.loop-byte-preserved
loop-byte-preserved c =
    let byte : get_or c.args.bytes.now c.loop-byte.byte-index 0 < 2 ^ 8 = search rules in
    let within : get_or c.args.bytes.now c.loop-byte.byte-index 0 < length c.loop-byte.holds = omega (arith, c.loop-byte.invariant.size) in
    record {
      has = set_more c.loop-byte.holds c.args.bytes.now c.loop-byte.byte-index (get_or c.args.bytes.now c.loop-byte.byte-index 0) c.loop-byte.invariant.has (omega arith) refl within;
      size = length-set c.loop-byte.holds (get_or c.args.bytes.now c.loop-byte.byte-index 0) true ∙ c.loop-byte.invariant.size;
    }

pub returns : goal.returns
returns c = λ b. c.loop-byte.invariant.has b ∙ ap (λ (t : List ℕ). is_one_of t b) (take_all c.loop-byte.byte-index c.args.bytes.now (omega arith))
