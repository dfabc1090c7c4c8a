use Rattle.std.proofs.Common.{◌≡◌, take}
use Rattle.natives.specs.Cutting.{single_bytes}
use Rattle.tcl_string.proofs.cutting.single_bytes.Given as goal

abbrev pub invariant-loop-byte : goal.invariant-loop-byte
invariant-loop-byte l = l.words ≡ single_bytes (take l.byte-index l.bytes)
