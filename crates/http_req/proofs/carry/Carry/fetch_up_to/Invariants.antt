use Rattle.std.proofs.Common.{◌-◌, length}
use Rattle.http_req.specs.Fetching.{Moves}
use Rattle.http_req.proofs.carry.Carry.fetch_up_to.Given as goal

abbrev pub invariant-loop-self : goal.invariant-loop-self
invariant-loop-self g l = Moves l.fn.self (g.S.Source.rest l.fn.source) (g.S.Source.faults l.fn.source) l.self (g.S.Source.rest l.source) (g.S.Source.faults l.source)

abbrev pub decreases-loop-self : goal.decreases-loop-self
decreases-loop-self g l = l.size - length l.self
