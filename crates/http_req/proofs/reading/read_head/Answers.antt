use Rattle.std.proofs.Common.{◌≡◌, ℕ, ◌<◌, List, length, sym, subst, arith, vec_len}
use Rattle.std.specs.Prelude.{IfErr}
use Rattle.http_req.specs.Fetching.{Stopped}
use Rattle.http_req.specs.Outcomes.{Gets, Refused, ended}
use Rattle.http_req.specs.Readings.{Stops}
use Rattle.http_req.proofs.OutcomeFacts.{crowded_room}
use Rattle.http_req.proofs.Receiving.{cut_stops}
use Rattle.http_req.proofs.reading.read_head.Goals as goal

pub returns-in-Refused-clause-stops : goal.returns-in-Refused-clause-stops
returns-in-Refused-clause-stops g c = λ peer.
    subst (λ (input : List ℕ). Gets input peer (Refused c.in-Refused.status)) c.bytes.ensures (c.in-Refused.ensures.finds peer)

pub returns-in-Err-clause-stops : goal.returns-in-Err-clause-stops
returns-in-Err-clause-stops g c =
    let gets : (peer : List ℕ) → Gets c.loop-head.carry peer (ended c.loop-head.carry) = λ peer.
    subst (λ (input : List ℕ). Gets input peer (ended input)) c.bytes.ensures (c.in-Cut.ensures.finds.0 peer) in
    let stopped : Stopped (g.S.Source.rest c.args.source.now) (g.S.Source.faults c.args.source.now) c.in-Err.stop (g.S.Source.rest c.loop-head.source) (g.S.Source.faults c.loop-head.source) =
    subst (λ r. IfErr r (λ stop. Stopped (g.S.Source.rest c.args.source.now) (g.S.Source.faults c.args.source.now) stop (g.S.Source.rest c.loop-head.source) (g.S.Source.faults c.loop-head.source))) c.in-Err.is c.loop-head.invariant.stopped in
    λ peer.
    subst (λ answer. Stops c.loop-head.carry peer (g.S.Source.rest c.args.source.now) (g.S.Source.faults c.args.source.now) (g.S.Source.rest c.loop-head.source) (g.S.Source.faults c.loop-head.source) answer) (sym c.cut_off.ensures)
    (cut_stops c.loop-head.carry _ _ _ _ c.in-Err.stop peer (gets peer) stopped)

pub loop-head-smaller-in-Crowded : goal.loop-head-smaller-in-Crowded
loop-head-smaller-in-Crowded g c =
    let few : length c.find_head.new.spans < 8192 = crowded_room c.bytes.result.now c.find_head.new.spans c.in-Crowded.ensures.finds in
    let grown : vec_len c.resize.new.self ≡ 8192 = c.in_ok-resize-in-Crowded.ensures.len in
    omega (arith, few, grown, c.find_head.auto.spans, c.deref_mut.ensures.len)
