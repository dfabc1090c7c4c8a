use Rattle.std.proofs.Common.{arith}
use Rattle.nsv_bucket.proofs.buckets.bucket_of_bytes.Goals as goal

pub overflow_add-bucket : goal.overflow_add-bucket
overflow_add-bucket c = omega (arith, c.loop-byte.invariant)
