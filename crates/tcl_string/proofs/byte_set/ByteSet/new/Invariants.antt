use Rattle.std.proofs.Common.{◌≡◌, ℕ, get_or, false, take, length}
use Rattle.natives.specs.Cutting.{is_one_of}
use Rattle.tcl_string.proofs.byte_set.ByteSet.new.Given as goal

-- the set has the bytes so far
abbrev pub invariant-loop-byte : goal.invariant-loop-byte
invariant-loop-byte l = record {
  has : (b : ℕ) → get_or l.holds b false ≡ is_one_of (take l.byte-index l.bytes) b;
  size : length l.holds ≡ 256;
}
