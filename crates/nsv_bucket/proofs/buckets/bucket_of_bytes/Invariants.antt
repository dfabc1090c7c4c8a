use Rattle.std.proofs.Common.{◌≡◌, ◌%◌, take}
use Rattle.std.specs.Prelude.{sum}
use Rattle.txt_core.specs.Limits.{bucket_count}
use Rattle.nsv_bucket.proofs.buckets.bucket_of_bytes.Given as goal

abbrev pub invariant-loop-byte : goal.invariant-loop-byte
invariant-loop-byte l = l.bucket ≡ sum (take l.byte-index l.name) % bucket_count
