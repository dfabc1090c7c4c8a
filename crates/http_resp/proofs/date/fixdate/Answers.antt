use Rattle.std.proofs.Common.{◌≡◌, ◌∙◌, subst, IfOk, min}
use Rattle.httpdate.specs.Date.{unix_secs}
use Rattle.txt_core.specs.Limits.{last_moment}
use Rattle.http_resp.proofs.MomentLemmas.{date_is}
use Rattle.http_resp.proofs.date.fixdate.Goals as goal

pub returns : goal.returns
returns c =
    let same : unix_secs c.unwrap.result ≡ min c.args.moment last_moment = subst (λ r. IfOk r (λ date. unix_secs date ≡ c.moment_of.result)) c.unwrap.ensures c.from_unix_secs.ensures.value ∙ c.moment_of.ensures in
    c.to_bytes.ensures ∙ date_is c.unwrap.result c.args.moment same
