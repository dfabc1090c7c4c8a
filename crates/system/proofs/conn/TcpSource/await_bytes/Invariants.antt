use Rattle.std.proofs.Common.{◌≡◌, length}
use Rattle.system.proofs.conn.TcpSource.await_bytes.Given as goal

abbrev pub invariant-loop-try : goal.invariant-loop-try
invariant-loop-try g l = record {
  kept : length l.into ≡ length l.initial.into;
  faults : l.self.faults ≡ l.initial.self.faults;
}
