use Rattle.std.proofs.Common.{◌==◌, ap, subst, sym, ◌∙◌, length, ◌≤◌}
use Rattle.std.specs.Prelude.{unwrap_or}
use Rattle.http_req.proofs.TargetFacts.{place_is, place_within}
use Rattle.http_req.proofs.target.place_or_end.Goals as goal

pub returns-clause-place : goal.returns-clause-place
returns-clause-place c =
    c.unwrap_or.ensures ∙ ap (λ o. unwrap_or o (length c.args.text.now)) c.place_of.ensures.place ∙ place_is (λ byte. byte == c.args.wanted) c.args.text.now

pub returns-clause-within : goal.returns-clause-within
returns-clause-within c =
    subst (λ n. n ≤ length c.args.text.now)
    (sym (c.unwrap_or.ensures ∙ ap (λ o. unwrap_or o (length c.args.text.now)) c.place_of.ensures.place ∙ place_is (λ byte. byte == c.args.wanted) c.args.text.now))
    (place_within (λ byte. byte == c.args.wanted) c.args.text.now)
