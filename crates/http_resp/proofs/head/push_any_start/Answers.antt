use Rattle.http_resp.proofs.ContentLemmas.{dated, first_appended}
use Rattle.http_resp.proofs.head.push_any_start.Goals as goal

pub returns : goal.returns
returns c =
    first_appended _ _ _ _ _ _ _ c.in_ok-push_status_line.ensures (dated _ _ _ _ c.in_ok-push_line.ensures c.bytes.ensures) c.in_ok-push_server_field.ensures
