use Rattle.std.proofs.Common.{◌∙◌}
use Rattle.rehearse.proofs.Telling.{on_ok}
use Rattle.rehearse.proofs.Working.{refusal_told}
use Rattle.rehearse.specs.Steps.{refusal_bytes}
use Rattle.rehearse.proofs.worker.Worker.refuse.Goals as goal

pub returns : goal.returns
returns c =
    on_ok c.push_closed.result
    (refusal_told c.args.listing.now c.push_response.new.self c.push_closed.new.self c.args.self.now.number c.args.status c.bytes.result.now (refusal_bytes c.args.status c.args.moment)
    (c.bytes.ensures ∙ c.in_ok-reply.ensures) c.in_ok-push_response.ensures)
    c.push_closed.ensures
