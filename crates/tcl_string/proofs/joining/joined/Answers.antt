use Rattle.std.proofs.Common.{◌≡◌, ◌∙◌, sym, true, take, ◌+◌, [], get_or, arith}
use Rattle.txt_core.specs.Limits.{is_long}
use Rattle.natives.specs.Lists.{joined}
use Rattle.tcl_string.proofs.Joined.{next_joined, joined_long}
use Rattle.tcl_string.proofs.Saying.{comes_long}
use Rattle.tcl_string.proofs.joining.joined.Goals as goal

pub returns-then-is_too_long : goal.returns-then-is_too_long
returns-then-is_too_long c =
    let word : c.bytes.result.now ≡ get_or c.args.list.now c.items.at [] = c.bytes.ensures ∙ c.word_at.ensures in
    let next : c.put_next.new.text ≡ joined c.args.between.now (take (c.items.at + 1) c.args.list.now) = (rw (word, c.items.invariant) at c.in_ok-put_next.ensures) ∙ next_joined c.args.between.now c.items.at c.args.list.now (omega arith) in
    let long : is_long c.put_next.new.text ≡ true = sym c.is_too_long.ensures ∙ c.if-is_too_long.true in
    comes_long (joined c.args.between.now c.args.list.now) c.too_long.result (joined_long c.args.between.now (c.items.at + 1) c.args.list.now c.put_next.new.text next long) c.too_long.ensures

pub items-preserved : goal.items-preserved
items-preserved c =
    let word : c.bytes.result.now ≡ get_or c.args.list.now c.items.at [] = c.bytes.ensures ∙ c.word_at.ensures in
    (rw (word, c.items.invariant) at c.in_ok-put_next.ensures) ∙ next_joined c.args.between.now c.items.at c.args.list.now (omega arith)
