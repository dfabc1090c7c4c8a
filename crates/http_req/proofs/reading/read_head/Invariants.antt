use Rattle.std.proofs.Common.{◌+◌, ◌-◌, ◌*◌, length, vec_len}
use Rattle.std.specs.Prelude.{IfErr}
use Rattle.http_req.specs.Fetching.{Moves, Stopped}
use Rattle.http_req.proofs.Fetches.{turns_left}
use Rattle.http_req.proofs.reading.read_head.Given as goal

abbrev pub invariant-loop-head : goal.invariant-loop-head
invariant-loop-head g l = record {
  moves : Moves l.fn.carry (g.S.Source.rest l.fn.source) (g.S.Source.faults l.fn.source) l.carry (g.S.Source.rest l.source) (g.S.Source.faults l.source);
  stopped : IfErr l.fetched (λ stop. Stopped (g.S.Source.rest l.fn.source) (g.S.Source.faults l.fn.source) stop (g.S.Source.rest l.source) (g.S.Source.faults l.source));
}

abbrev pub decreases-loop-head : goal.decreases-loop-head
decreases-loop-head g l = 2 * (16384 - length l.carry) + turns_left l.fetched + (8192 - vec_len l.spans)
