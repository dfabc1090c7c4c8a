use Rattle.std.proofs.Common.{ℕ, List, ap, ◌∙◌, ◌++◌}
use Rattle.http_resp.proofs.ContentLemmas.{first_lines_are}
use Rattle.http_resp.proofs.head.push_ok_start.Goals as goal

pub returns : goal.returns
returns c =
    c.in_ok-extend_from_slice.ensures.items
    ∙ ap (λ (start : List ℕ). c.args.text.now.items ++ start) (first_lines_are c.args.date.now.moment c.copy_from_slice.new.self (c.copy_from_slice.ensures.after ∙ c.bytes.ensures))
