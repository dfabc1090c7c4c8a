use Rattle.std.proofs.Common.{◌≡◌, true, false, sym, ◌∙◌, ap, decimal}
use Rattle.http_resp.specs.ResponseBytes.{has_content}
use Rattle.http_resp.proofs.ContentLemmas.{no_content_lines, content_end_from}
use Rattle.http_resp.proofs.head.push_end.Goals as goal

pub returns-then-not-has_content : goal.returns-then-not-has_content
returns-then-not-has_content c =
    let without : has_content c.args.response.now.status ≡ false = sym c.has_content.ensures ∙ c.if-not-has_content.true in
    rw (no_content_lines c.args.response.now without) c.push_last_lines.ensures

pub returns : goal.returns
returns c =
    let with_content : has_content c.args.response.now.status ≡ true = sym c.has_content.ensures ∙ c.if-not-has_content.false in
    content_end_from c.args.response.now _ c.args.text.now.items _ _ _ _ _ _ _ _ with_content
    c.in_ok-extend_from_slice.ensures.items c.in_ok-extend_from_slice-2.ensures.items c.in_ok-extend_from_slice-3.ensures.items c.in_ok-extend_from_slice-4.ensures.items c.in_ok-extend_from_slice-5.ensures.items
    c.bytes.ensures (c.as_bytes.ensures.value ∙ c.format.ensures.text ∙ ap decimal c.len.ensures) c.behind_length.ensures
