use Rattle.std.proofs.Common.{Option, sym, ap, ◌∙◌}
use Rattle.http_resp.specs.declared.response.Response.{Response}
use Rattle.server_host.specs.Hosts.{HostState}
use Rattle.ictl.specs.declared.ending.Verdict.{Verdict}
use Rattle.ictl.specs.Replies.{given_or_failed}
use Rattle.ictl.specs.Main.{filter_end, responds}
use Rattle.ictl.specs.Interps.{interp_state}
use Rattle.ictl.proofs.interp.Interp.after_filter.Goals as goal

pub returns-in-Goes : goal.returns-in-Goes
returns-in-Goes c = λ next behind.
    ap (λ (v : Verdict). filter_end next behind v (interp_state c.args.self.now)) (sym c.in-Goes.is ∙ c.verdict_of-said.ensures)

pub returns-in-Breaks : goal.returns-in-Breaks
returns-in-Breaks c = λ next behind.
    ap (λ (v : Verdict). filter_end next behind v (interp_state c.args.self.now)) (sym c.in-Breaks.is ∙ c.verdict_of-said.ensures)

pub returns-in_ok-response-in-Returns : goal.returns-in_ok-response-in-Returns
returns-in_ok-response-in-Returns c = λ next behind.
    ap (λ (r : Response). responds r (interp_state c.args.self.now))
    (c.in_ok-response-in-Returns.ensures ∙ ap (λ (o : Option Response). given_or_failed o) c.response-given.ensures
    ∙ ap (λ (h : HostState). given_or_failed h.conn.response) c.host.ensures)
    ∙ ap (λ (v : Verdict). filter_end next behind v (interp_state c.args.self.now)) (sym c.in-Returns.is ∙ c.verdict_of-said.ensures)

pub returns-in_ok-response-in-Fails : goal.returns-in_ok-response-in-Fails
returns-in_ok-response-in-Fails c = λ next behind.
    ap (λ (r : Response). responds r (interp_state c.args.self.now)) c.in_ok-response-in-Fails.ensures
    ∙ ap (λ (v : Verdict). filter_end next behind v (interp_state c.args.self.now)) (sym c.in-Fails.is ∙ c.verdict_of-said.ensures)
