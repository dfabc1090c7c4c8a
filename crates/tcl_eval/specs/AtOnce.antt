-- What expressions come to that can't be suspended: those that have neither a bracket nor an element of an array. The variables
-- decide it alone, and nothing is known of any other expression here.
use Rattle.std.specs.Prelude.{◌≡◌, ℕ, zero, suc, [], codes, Bool, true, false, Option, None, Some, Result, Ok, Err}
use Rattle.txt_core.specs.Names.{Bytes}
use Rattle.txt_core.specs.Truth.{truth}
use Rattle.tcl_parse.specs.Tree.{text, variable, element, bracket, Parts, no_parts, part, parts}
use Rattle.tcl_expr.specs.Trees as trees
use Rattle.tcl_expr.specs.Trees.{Tree}
use Rattle.tcl_expr.specs.declared.operator.Op.{Op}
use Rattle.tcl_frame.specs.Stack.{Stack}
use Rattle.tcl_host.specs.Codes as code_of
use Rattle.tcl_eval.specs.Messages.{no_boolean}
use Rattle.tcl_eval.specs.Results.{ended, error_of, read_as}
use Rattle.tcl_eval.specs.Expressions.{way_of, with_one, with_two}
use Rattle.tcl_eval.specs.Kept.{grown, kept_value}
use Rattle.tcl_eval.specs.declared.gather.SoFar.{SoFar}
use Rattle.tcl_eval.specs.declared.gather.SoFar.TheVariants.{Kept}
use Rattle.tcl_eval.specs.declared.stack.Ended.{Ended}
use Rattle.tcl_eval.specs.declared.operation.Way.{Way}
use Rattle.tcl_eval.specs.declared.operation.Way.TheVariants.{Both, IfTrue, IfFalse}

-- goes on behind code 0; any other code is what all comes to
abbrev pub on_code : ℕ → Bytes → (Bytes → Option Ended) → Option Ended
on_code zero result go = go result
on_code (suc code) result go = Some (ended (suc code) result)

abbrev pub on_value : Option Ended → (Bytes → Option Ended) → Option Ended
on_value None go = None
on_value (Some value) go = on_code value.code value.result go

-- goes on by the truth of a value, which must have one
abbrev pub on_truth : Option Bool → Bytes → Option Ended → Option Ended → Option Ended
on_truth None value when_true when_false = Some (error_of (no_boolean value))
on_truth (Some true) value when_true when_false = when_true
on_truth (Some false) value when_true when_false = when_false

-- it comes to a value of this truth
abbrev pub HasTruth : Option Ended → Bool → Type 0
HasTruth found holds = (value : Bytes) × (found ≡ Some (ended code_of.ok value)) × (truth value ≡ Some holds)

-- the parts that are left of a word, of which this is kept
abbrev pub rest_of_word : Stack → Parts → SoFar → Option Ended
rest_of_word frames no_parts so_far = Some (kept_value so_far)
rest_of_word frames (part (text bytes) left) so_far = rest_of_word frames left (grown so_far bytes)
rest_of_word frames (part (variable name) left) so_far =
    on_value (Some (read_as frames name)) (λ value. rest_of_word frames left (grown so_far value))
rest_of_word frames (part (element array index) left) so_far = None
rest_of_word frames (part (bracket script) left) so_far = None

abbrev pub word_at_once : Stack → Parts → Option Ended
word_at_once frames word = rest_of_word frames word (Kept [])

-- a variable that is read is this behind what is kept, or this error
abbrev pub IsPassed : Ended → SoFar → Result SoFar Ended → Type 0
IsPassed value so_far (Ok after) = (value.code ≡ code_of.ok) × (after ≡ grown so_far value.result)
IsPassed value so_far (Err failed) = (failed ≡ value) × ((value.code ≡ code_of.ok) → ⊥)

-- an operator whose left operand has this value, and whose right one comes to this
abbrev pub right_at_once : Op → Bytes → Option Ended → Option Ended
right_at_once op left right = on_value right (λ value. Some (with_two op left value))

-- what an operator comes to by its left operand alone, which has this value; nothing where the right one is evaluated
abbrev pub left_alone : Way → Bytes → Option Ended
left_alone Both left = None
left_alone IfTrue left = on_truth (truth left) left None (Some (ended code_of.ok (codes "0")))
left_alone IfFalse left = on_truth (truth left) left (Some (ended code_of.ok (codes "1"))) None

abbrev pub or_else : Option Ended → Option Ended → Option Ended
or_else None other = other
or_else (Some value) other = Some value

-- the same, where the left operand may decide
abbrev pub left_at_once : Way → Op → Bytes → Option Ended → Option Ended
left_at_once way op left right = or_else (left_alone way left) (right_at_once op left right)

abbrev pub at_once : Stack → Tree → Option Ended
at_once frames (trees.value bytes) = Some (ended code_of.ok bytes)
at_once frames (trees.word word) = word_at_once frames (parts word)
at_once frames (trees.unary op x) = on_value (at_once frames x) (λ operand. Some (with_one op operand))
at_once frames (trees.binary op x y) = on_value (at_once frames x) (λ left. left_at_once (way_of op) op left (at_once frames y))
at_once frames (trees.choice x y z) =
    on_value (at_once frames x) (λ value. on_truth (truth value) value (at_once frames y) (at_once frames z))
