use Rattle.std.proofs.Common.{◌+◌, ◌-◌, ◌*◌, length}
use Rattle.std.specs.Prelude.{IfErr}
use Rattle.http_req.specs.Fetching.{Moves, Stopped}
use Rattle.http_req.specs.Outcomes.{sent_front}
use Rattle.http_req.proofs.BodyFacts.{ReadsTo}
use Rattle.http_req.proofs.Fetches.{turns_left}
use Rattle.http_req.proofs.body.read_chunks.Given as goal

abbrev pub invariant-loop-line : goal.invariant-loop-line
invariant-loop-line g l = record {
  moves : Moves l.fn.carry (g.S.Source.rest l.fn.source) (g.S.Source.faults l.fn.source) l.carry (g.S.Source.rest l.source) (g.S.Source.faults l.source);
  stopped : IfErr l.fetched (λ stop. Stopped (g.S.Source.rest l.fn.source) (g.S.Source.faults l.fn.source) stop (g.S.Source.rest l.source) (g.S.Source.faults l.source));
  reads : ReadsTo (sent_front l.start l.carry) l.body l.at;
}

abbrev pub decreases-loop-line : goal.decreases-loop-line
decreases-loop-line g l = 2 * ((l.start + 33554432) - length l.carry) + turns_left l.fetched + (33554432 - l.at)
