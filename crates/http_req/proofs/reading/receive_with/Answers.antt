use Rattle.std.proofs.Common.{sym, subst}
use Rattle.std.proofs.lemmas.Result.{err_from_is_err_and}
use Rattle.http_req.specs.Readings.{Stops}
use Rattle.http_req.proofs.Receiving.{received_no_request, received_then}
use Rattle.http_req.proofs.reading.receive_with.Goals as goal

pub returns-in_err-head : goal.returns-in_err-head
returns-in_err-head g c =
    let p = err_from_is_err_and c.from_residual.result c.from_residual.ensures.1 in
    rw p.1 (received_no_request _ _ _ _ _ _ c.args.peer.now p.0 c.read_head.ensures.moves
    (subst (λ answer. Stops c.read_head.new.carry c.args.peer.now (g.S.Source.rest c.args.source.now) (g.S.Source.faults c.args.source.now) (g.S.Source.rest c.read_head.new.source) (g.S.Source.faults c.read_head.new.source) answer)
    (sym p.2) (c.in_err-head.ensures.stops c.args.peer.now)))

pub returns : goal.returns
returns g c = received_then _ _ _ _ _ _ _ _ _ _ _ c.read_head.ensures.moves c.read_headed.ensures
