use Rattle.std.proofs.Common.{◌≡◌, ◌≢◌, ◌≤◌}
use Rattle.conn_queue.specs.Queues.{IsOf}
use Rattle.server_threads.proofs.accepting.accept_all.Given as goal

abbrev pub invariant-loop : goal.invariant-loop
invariant-loop g l = record {
  queue : IsOf l.queue l.pass;
  own : g.V.Staff.fits l.staff l.own;
  given : l.given ≡ (g.N.Net.state l.net).given;
  most : l.connections ≢ 0 → l.given ≤ l.connections;
  faults : (g.N.Net.state l.fn.net).faults ≤ (g.N.Net.state l.net).faults;
}
