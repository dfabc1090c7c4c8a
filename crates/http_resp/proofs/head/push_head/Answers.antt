use Rattle.std.proofs.Common.{ℕ, List, ap, ◌∙◌, ◌++◌}
use Rattle.http_resp.proofs.ContentLemmas.{appended, head_parts}
use Rattle.http_resp.proofs.head.push_head.Goals as goal

pub returns : goal.returns
returns c =
    appended _ _ _ c.args.text.now.items _ _ _ c.in_ok-push_start.ensures c.in_ok-push_output_fields.ensures c.in_ok-push_end.ensures
    ∙ ap (λ (head : List ℕ). c.args.text.now.items ++ head) (head_parts c.args.response.now c.args.date.now.moment c.args.close)
