-- What comes at once behind a value.
use Rattle.std.proofs.Common.{◌≡◌, ◌≢◌, ℕ, zero, suc, List, [], Bool, true, false, Option, None, Some, Ok, cond, refl, ap, ◌∙◌}
use Rattle.std.specs.Prelude.{IfSome, MatchOption}
use Rattle.txt_core.specs.Limits.{is_long}
use Rattle.txt_core.specs.Number.{number}
use Rattle.txt_core.specs.Truth.{truth, truth_text}
use Rattle.tcl_parse.specs.Tree.{text, variable, no_parts, part}
use Rattle.tcl_expr.specs.Operators as operators
use Rattle.tcl_expr.specs.Operators.{Applied, is_comparison}
use Rattle.tcl_expr.specs.Trees.{Tree, binary}
use Rattle.tcl_expr.specs.declared.operator.Op.{Op}
use Rattle.tcl_expr.specs.declared.operator.Op.TheVariants.{Minus, Plus, Invert, Not, Mul, Div, Rem, Add, Sub, Shl, Shr, Lt, Gt, Le, Ge, EqNumber, NeNumber, EqText, NeText, BitAnd, BitXor, BitOr, And, Or}
use Rattle.tcl_frame.specs.Stack.{Stack}
use Rattle.tcl_eval.specs.Messages.{too_long}
use Rattle.tcl_eval.specs.Results.{ended, read_as}
use Rattle.tcl_eval.specs.Expressions.{applied, way_of, with_two}
use Rattle.tcl_eval.specs.Kept.{grown, kept_value}
use Rattle.tcl_eval.specs.AtOnce.{HasTruth, at_once, left_at_once, on_code, on_value, word_at_once}
use Rattle.tcl_eval.specs.declared.gather.SoFar.TheVariants.{Kept, TooLong}
use Rattle.tcl_eval.specs.declared.operation.Way.{Way}
use Rattle.tcl_eval.specs.declared.operation.Way.TheVariants.{Both}
use Rattle.tcl_eval.specs.declared.stack.Ended.{Ended}

code_end : (code : ℕ) (result : List ℕ) (go : List ℕ → Option Ended) → code ≢ 0 → on_code code result go ≡ Some (ended code result)
code_end zero result go bad = absurd (bad refl)
code_end (suc code) result go bad = refl

-- an end that isn't good is what all comes to
pub bad_end : (found : Option Ended) (v : Ended) (go : List ℕ → Option Ended) → found ≡ Some v → v.code ≢ 0 → on_value found go ≡ Some v
bad_end found v go e bad = ap (λ (o : Option Ended). on_value o go) e ∙ code_end v.code v.result go bad

-- behind a good end it goes on
pub good_end : (found : Option Ended) (v : Ended) (go : List ℕ → Option Ended) → found ≡ Some v → v.code ≡ 0 → on_value found go ≡ go v.result
good_end found v go e good =
    ap (λ (o : Option Ended). on_value o go) e ∙ ap (λ (n : ℕ). on_code n v.result go) good

-- a variable alone is a word
pub variable_at_once : (frames : Stack) (name value : List ℕ) → read_as frames name ≡ ended 0 value → is_long value ≡ false → word_at_once frames (part (variable name) no_parts) ≡ Some (ended 0 value)
variable_at_once frames name value e short =
    ap (λ (v : Ended). on_value (Some v) (λ x. Some (kept_value (grown (Kept []) x)))) e
    ∙ ap (λ (c : Bool). Some (kept_value (cond c TooLong (Kept value)))) short
    ∙ ap (λ (c : Bool). Some (cond c (ended 1 too_long) (ended 0 value))) short

-- and so are bytes alone
pub text_at_once : (frames : Stack) (bytes : List ℕ) → is_long bytes ≡ false → word_at_once frames (part (text bytes) no_parts) ≡ Some (ended 0 bytes)
text_at_once frames bytes short =
    ap (λ (c : Bool). Some (kept_value (cond c TooLong (Kept bytes)))) short
    ∙ ap (λ (c : Bool). Some (cond c (ended 1 too_long) (ended 0 bytes))) short

-- what is compared is always evaluated
both_ways : (op : Op) → is_comparison op ≡ true → way_of op ≡ Both
both_ways Minus is = absurd (cc)
both_ways Plus is = absurd (cc)
both_ways Invert is = absurd (cc)
both_ways Not is = absurd (cc)
both_ways Mul is = absurd (cc)
both_ways Div is = absurd (cc)
both_ways Rem is = absurd (cc)
both_ways Add is = absurd (cc)
both_ways Sub is = absurd (cc)
both_ways Shl is = absurd (cc)
both_ways Shr is = absurd (cc)
both_ways Lt is = refl
both_ways Gt is = refl
both_ways Le is = refl
both_ways Ge is = refl
both_ways EqNumber is = refl
both_ways NeNumber is = refl
both_ways EqText is = refl
both_ways NeText is = refl
both_ways BitAnd is = absurd (cc)
both_ways BitXor is = absurd (cc)
both_ways BitOr is = absurd (cc)
both_ways And is = absurd (cc)
both_ways Or is = absurd (cc)

-- the truth of the text of a truth
text_truth : (holds : Bool) → truth (truth_text holds) ≡ Some holds
unfolding truth number
text_truth true = refl
text_truth false = refl

-- a comparison of two operands that are there
compared_gives : (frames : Stack) (op : Op) (x y : Tree) (left right : List ℕ) (holds : Bool) → at_once frames x ≡ Some (ended 0 left) → at_once frames y ≡ Some (ended 0 right) → is_comparison op ≡ true → operators.binary op left right ≡ Ok (truth_text holds) → at_once frames (binary op x y) ≡ Some (ended 0 (truth_text holds))
compared_gives frames op x y left right holds first second is gives =
    ap (λ (o : Option Ended). on_value o (λ v. left_at_once (way_of op) op v (at_once frames y))) first
    ∙ ap (λ (w : Way). left_at_once w op left (at_once frames y)) (both_ways op is)
    ∙ ap (λ (o : Option Ended). on_value o (λ v. Some (with_two op left v))) second
    ∙ ap (λ (a : Applied). Some (applied a op right)) gives

pub compared_truth : (frames : Stack) (op : Op) (x y : Tree) (left right : List ℕ) (found : Option Bool) → at_once frames x ≡ Some (ended 0 left) → at_once frames y ≡ Some (ended 0 right) → MatchOption found (is_comparison op ≡ false) (λ holds. (is_comparison op ≡ true) × (operators.binary op left right ≡ Ok (truth_text holds))) → IfSome found (HasTruth (at_once frames (binary op x y)))
compared_truth frames op x y left right None first second is = tt
compared_truth frames op x y left right (Some holds) first second is =
    (truth_text holds, compared_gives frames op x y left right holds first second is.0 is.1, text_truth holds)
