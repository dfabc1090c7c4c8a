use Rattle.server_threads.proofs.staff.look_again.Given as goal

abbrev pub invariant-loop : goal.invariant-loop
invariant-loop g l = g.V.Serve.belongs l.staff l.worker l.own
