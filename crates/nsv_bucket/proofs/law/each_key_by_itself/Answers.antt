use Rattle.nsv_bucket.proofs.Writing.{writes_one, removes_one, writes_pairs}
use Rattle.nsv_bucket.proofs.law.each_key_by_itself.Goals as goal

pub returns-clause-writes : goal.returns-clause-writes
returns-clause-writes c = writes_one

pub returns-clause-removes : goal.returns-clause-removes
returns-clause-removes c = removes_one

pub returns-clause-pairs : goal.returns-clause-pairs
returns-clause-pairs c = writes_pairs
