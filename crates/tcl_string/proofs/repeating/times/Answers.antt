use Rattle.std.proofs.Common.{◌≡◌, ◌∙◌, sym, true, length, ◌*◌, ℕ}
use Rattle.std.proofs.lemmas.List.Elements.{same_from_all_zip}
use Rattle.std.specs.Prelude.{nat_lt}
use Rattle.std.specs.List.{repeat}
use Rattle.tcl_string.proofs.Saying.{comes_long}
use Rattle.tcl_string.proofs.Times.{repeat_long}
use Rattle.tcl_string.proofs.repeating.times.Goals as goal

pub returns-then-is_too_much : goal.returns-then-is_too_much
returns-then-is_too_much c =
    let much : nat_lt 1048576 (c.args.count * length c.args.text.now) ≡ true = sym c.is_too_much.ensures ∙ c.if-is_too_much.true in
    comes_long (repeat c.args.count c.args.text.now) c.too_long.result (repeat_long c.args.count c.args.text.now much) c.too_long.ensures

pub returns : goal.returns
returns c = c.from_vec.ensures ∙ same_from_all_zip (λ (x y : ℕ). y ≡ x) (repeat c.args.count c.args.text.now) c.in_ok-repeat.field-0.items c.in_ok-repeat.ensures.items (λ x y e. e)
