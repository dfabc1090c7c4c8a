use Rattle.std.proofs.Common.{◌≡◌, ℕ, List, true, ◌∙◌, ap, sym, inl, inr, ◌++◌, append_assoc}
use Rattle.http_resp.specs.ResponseBytes.{has_content, head_bytes}
use Rattle.http_resp.proofs.ContentLemmas.{head_alone, head_and_body}
use Rattle.http_resp.proofs.head.push_response.Goals as goal
use Rattle.http_resp.proofs.head.push_response.Goals.{then-head_only-via-then-head_only, then-head_only-via-else-head_only+then-not-has_content}

pub returns-then-head_only : goal.returns-then-head_only
returns-then-head_only c =
    c.in_ok-push_head.ensures
    ∙ ap (λ (bytes : List ℕ). c.args.text.now.items ++ bytes) (head_alone c.args.response.now c.args.date.now.moment c.args.head_only c.args.close
    (elim c.then-head_only.branch [ then-head_only-via-then-head_only w ↦ inl w.if-head_only.true | then-head_only-via-else-head_only+then-not-has_content w ↦ inr (sym w.has_content.ensures ∙ w.if-not-has_content.true) ]))

pub returns : goal.returns
returns c =
    let content : has_content c.args.response.now.status ≡ true = sym c.has_content.ensures ∙ c.if-not-has_content.false in
    let head : List ℕ = head_bytes c.args.response.now c.args.date.now.moment c.args.close in
    c.in_ok-extend_from_slice.ensures.items
    ∙ ap (λ (body : List ℕ). c.push_head.new.text.items ++ body) c.bytes.ensures
    ∙ ap (λ (front : List ℕ). front ++ c.args.response.now.body) c.in_ok-push_head.ensures
    ∙ append_assoc c.args.text.now.items head c.args.response.now.body
    ∙ ap (λ (bytes : List ℕ). c.args.text.now.items ++ bytes) (head_and_body c.args.response.now c.args.date.now.moment c.args.head_only c.args.close c.if-head_only.false content)
