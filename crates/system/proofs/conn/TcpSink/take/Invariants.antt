use Rattle.std.proofs.Common.{◌≡◌}
use Rattle.system.proofs.conn.TcpSink.take.Given as goal

abbrev pub invariant-loop-try : goal.invariant-loop-try
invariant-loop-try g l = l.self.faults ≡ l.initial.self.faults
