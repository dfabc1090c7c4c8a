-- An `expr` whose words are all there, and expressions of which nothing was run yet.
use Rattle.std.proofs.Common.{◌≡◌, ◌≢◌, ◌≤◌, ◌<◌, ℕ, zero, suc, ◌+◌, ◌-◌, List, [], ◌∷◌, ◌++◌, length, get_or, Bool, false, Some, cond, refl, sym, ap, ◌∙◌, arith}
use Rattle.std.proofs.lemmas.Bool.{le-ltb, lt-ltb}
use Rattle.txt_core.specs.Names.{Names}
use Rattle.tcl_parse.specs.Tree.{Commands}
use Rattle.tcl_expr.specs.Grammar.{Reads}
use Rattle.tcl_expr.specs.Outcome as answers
use Rattle.tcl_expr.specs.Outcome.{Answer}
use Rattle.tcl_expr.specs.Reading.{expression_is, expression_of}
use Rattle.tcl_expr.specs.Trees.{Tree, choice}
use Rattle.tcl_expr.specs.View.{tree_of as expression_tree}
use Rattle.tcl_eval.specs.State.{State, LeafTable, Given, Out, spent, Rest, Next}
use Rattle.tcl_eval.specs.AtOnce.{at_once}
use Rattle.tcl_eval.specs.Brackets.{bracket_value}
use Rattle.tcl_eval.specs.Eval.{Inner, by_truth, command_end, ended, give, joined, nested, on_ok, pay, read, run_commands, run_script}
use Rattle.tcl_eval.specs.Evaluations.{begun_next, evaluation_next}
use Rattle.tcl_eval.specs.Expressions.{run_answer, run_expression, value_end}
use Rattle.tcl_eval.specs.Kept.{judged}
use Rattle.tcl_eval.specs.Places.{HasCommand, commands_from, tree_of}
use Rattle.tcl_eval.specs.Stack.{frame_next, stack_next}
use Rattle.tcl_eval.specs.Straight.{behind_command}
use Rattle.tcl_eval.specs.Engine.{state_of}
use Rattle.tcl_eval.specs.declared.engine.Engine.{Engine}
use Rattle.tcl_eval.specs.declared.evaluation.Begun.{Begun}
use Rattle.tcl_eval.specs.declared.gather.SoFar.TheVariants.{Kept}
use Rattle.tcl_eval.specs.declared.stack.Ended.{Ended}
use Rattle.tcl_eval.specs.declared.stack.Evaluation.{Evaluation}
use Rattle.tcl_eval.specs.declared.stack.Frame.{Frame}
use Rattle.tcl_eval.specs.declared.stack.Frame.TheVariants.{Expression, Operand, Script, ValueResult}
use Rattle.tcl_eval.proofs.Alike.{Runs, evaluation_alike}
use Rattle.tcl_eval.proofs.AtOnce.{expression_gives}
use Rattle.tcl_eval.proofs.Kept.{kept_end}
use Rattle.tcl_eval.proofs.Stacks.{pushed}
use Rattle.tcl_eval.proofs.Steps.{good_code, handed_on, other_code}

-- one word alone is what it is joined to
pub one_joined : (words : List (List ℕ)) (text : List ℕ) → length words ≡ 1 → text ≡ get_or words 0 text → text ≡ joined words
one_joined [] text one is = absurd (omega (arith, one))
one_joined (w ∷ []) text one is = is
one_joined (w ∷ y ∷ ws) text one is = absurd (omega (arith, one))

module _ {H : Type 0} where
  -- what is paid for at once is paid for in turn
  pub paid_in_turn : (cost b : ℕ) (way : Rest H) (s : State H) (g : Given) → cost < b → pay cost (pay 1 way) s b g ≡ way s (b - (cost + 1)) g
  paid_in_turn cost b way s g less =
      let first : cost ≤ b = omega (arith, less) in
      let second : 1 ≤ b - cost = omega (arith, less) in
      let left : b - cost - 1 ≡ b - (cost + 1) = omega (arith, less) in
      ap (λ (c : Bool). cond c (spent s) (pay 1 way s (b - cost) g)) (le-ltb b cost first)
      ∙ ap (λ (c : Bool). cond c (spent s) (way s (b - cost - 1) g)) (le-ltb (b - cost) 1 second)
      ∙ ap (λ (n : ℕ). way s n g) left

  -- the end of a bracket that is an operand is judged
  pub operand_gives : (inner : Inner H) (code : ℕ) (result : List ℕ) (k : Next H) (s : State H) (b : ℕ) (g : Given) → give (bracket_value code result) k s b g ≡ on_ok (λ v. judged k 0 v) (judged k) code result s b g
  operand_gives inner zero result k s b g = kept_end inner (Kept result) k s b g
  operand_gives inner (suc code) result k s b g = refl

module _ {H : Type 0} (ns : Names) (t : LeafTable H) where
  -- a text that is read as this expression
  pub read_begins : (inner : Inner H) (text : List ℕ) (x : Tree) (begun : Begun) (k : Next H) (s : State H) (b : ℕ) (g : Given) → Reads text (answers.tree x) → begun_next inner begun k s b g ≡ run_expression inner x k s b g → begun_next inner begun k s b g ≡ run_answer inner text (expression_of text) k s b g
  read_begins inner text x begun k s b g reads e =
      e ∙ sym (ap (λ (a : Answer). run_answer inner text a k s b g) (expression_is text (answers.tree x) reads))

  -- the test of a choice came to this value, by whose truth it goes on
  pub test_good : (levels : ℕ) (y z : Tree) (value : Ended) (k : Next H) (s : State H) (b : ℕ) (g : Given) (x : Out H) → value.code ≡ 0 → x ≡ by_truth value.result (run_expression (nested ns t levels) y k) (run_expression (nested ns t levels) z k) k s b g → x ≡ on_ok (λ v. by_truth v (run_expression (nested ns t levels) y k) (run_expression (nested ns t levels) z k) k) k value.code value.result s b g
  test_good levels y z value k s b g x good e =
      e ∙ good_code (λ v. by_truth v (run_expression (nested ns t levels) y k) (run_expression (nested ns t levels) z k) k) k value s b g good

  -- it came to another code
  pub test_other : (levels : ℕ) (y z : Tree) (value : Ended) (k : Next H) (s : State H) (b : ℕ) (g : Given) → value.code ≢ 0 → give value k s b g ≡ on_ok (λ v. by_truth v (run_expression (nested ns t levels) y k) (run_expression (nested ns t levels) z k) k) k value.code value.result s b g
  test_other levels y z value k s b g other =
      other_code (λ v. by_truth v (run_expression (nested ns t levels) y k) (run_expression (nested ns t levels) z k) k) k value.code value.result s b g other

  -- what goes on behind the test of a choice is the choice
  pub choice_tested : (levels : ℕ) (x y z : Tree) (value : Ended) (k : Next H) (s : State H) (b : ℕ) (g : Given) (w : Out H) → at_once s.frames x ≡ Some value → w ≡ on_ok (λ v. by_truth v (run_expression (nested ns t levels) y k) (run_expression (nested ns t levels) z k) k) k value.code value.result s b g → w ≡ run_expression (nested ns t levels) (choice x y z) k s b g
  choice_tested levels x y z value k s b g w found e =
      e ∙ expression_gives ns t levels s b g x (on_ok (λ v. by_truth v (run_expression (nested ns t levels) y k) (run_expression (nested ns t levels) z k) k) k) value found

  -- an `expr` and its evaluation were paid for
  pub both_paid : (old mid paid : Engine H) (inner : Inner H) (evaluation : Evaluation) (g : Given) (x : Out H) → evaluation.cost ≤ old.budget → mid ≡ record old { budget = old.budget - evaluation.cost } → 1 ≤ mid.budget → paid ≡ record mid { budget = mid.budget - 1 } → x ≡ run_expression inner (expression_tree evaluation.expr.value) (value_end (command_end (stack_next ns t paid.stack.items))) (state_of paid) paid.budget g → x ≡ evaluation_next inner evaluation (stack_next ns t old.stack.items) (state_of old) old.budget g
  both_paid old mid paid inner evaluation g x enough first one second e =
      let way : Engine H → Rest H = λ y. run_expression inner (expression_tree evaluation.expr.value) (value_end (command_end (stack_next ns t y.stack.items))) in
      e
      ∙ ap (λ (y : Engine H). way y (state_of y) y.budget g) second
      ∙ sym (ap (λ (c : Bool). cond c (spent (state_of mid)) (way mid (state_of mid) (mid.budget - 1) g)) (le-ltb mid.budget 1 one))
      ∙ ap (λ (y : Engine H). pay 1 (way y) (state_of y) y.budget g) first
      ∙ sym (ap (λ (c : Bool). cond c (spent (state_of old)) (pay 1 (way old) (state_of old) (old.budget - evaluation.cost) g)) (le-ltb old.budget evaluation.cost enough))

  -- nothing is left for its evaluation
  pub second_lacks : (old mid last : Engine H) (inner : Inner H) (evaluation : Evaluation) (g : Given) → evaluation.cost ≤ old.budget → mid ≡ record old { budget = old.budget - evaluation.cost } → mid.budget < 1 → last ≡ mid → spent (state_of last) ≡ evaluation_next inner evaluation (stack_next ns t old.stack.items) (state_of old) old.budget g
  second_lacks old mid last inner evaluation g enough first none same =
      let way : Engine H → Rest H = λ y. run_expression inner (expression_tree evaluation.expr.value) (value_end (command_end (stack_next ns t y.stack.items))) in
      ap (λ (y : Engine H). spent (state_of y)) same
      ∙ sym (ap (λ (c : Bool). cond c (spent (state_of mid)) (way mid (state_of mid) (mid.budget - 1) g)) (lt-ltb mid.budget 1 none))
      ∙ ap (λ (y : Engine H). pay 1 (way y) (state_of y) y.budget g) first
      ∙ sym (ap (λ (c : Bool). cond c (spent (state_of old)) (pay 1 (way old) (state_of old) (old.budget - evaluation.cost) g)) (le-ltb old.budget evaluation.cost enough))

  -- the expression of an `expr` begins, for whose value a frame waits
  pub value_begins : (fs fs1 : List Frame) (expr : _) (levels : ℕ) (value : Ended) (s : State H) (b : ℕ) (g : Given) (x : Out H) → fs1 ≡ fs ++ ValueResult ∷ [] → value ≡ ended 0 [] → x ≡ frame_next ns t (Expression expr levels) (stack_next ns t fs1) value.code value.result s b g → x ≡ run_expression (nested ns t levels) (expression_tree expr.value) (value_end (command_end (stack_next ns t fs))) s b g
  value_begins fs fs1 expr levels value s b g x push is e =
      e ∙ ap (λ (v : Ended). frame_next ns t (Expression expr levels) (stack_next ns t fs1) v.code v.result s b g) is
      ∙ ap (λ (k : Next H). run_expression (nested ns t levels) (expression_tree expr.value) k s b g) (pushed ns t fs fs1 ValueResult push)

  -- a bracket is run that is an operand
  pub lone_runs : (fs fs1 : List Frame) (script : _) (levels less : ℕ) (value : Ended) (s : State H) (b : ℕ) (g : Given) (x : Out H) → fs1 ≡ fs ++ Operand ∷ [] → levels ≡ suc less → value ≡ ended 0 [] → x ≡ frame_next ns t (Script script 0 less) (stack_next ns t fs1) value.code value.result s b g → x ≡ run_script ns t levels (read (tree_of script.value)) (frame_next ns t Operand (stack_next ns t fs)) s b g
  lone_runs fs fs1 script levels less value s b g x push l is e =
      e
      ∙ ap (λ (v : Ended). frame_next ns t (Script script 0 less) (stack_next ns t fs1) v.code v.result s b g) is
      ∙ sym (ap (λ (n : ℕ). run_script ns t n (read (tree_of script.value)) (stack_next ns t fs1) s b g) l)
      ∙ ap (λ (k : Next H). run_script ns t levels (read (tree_of script.value)) k s b g) (pushed ns t fs fs1 Operand push)

  -- nothing waits for an `expr` that is the last command
  pub last_evaluation : (inner : Inner H) (run : Runs inner) (evaluation : Evaluation) (cs : Commands) (at : ℕ) (k : Next H) (s : State H) (b : ℕ) (g : Given) → HasCommand false (at + 1) cs → evaluation_next inner evaluation k s b g ≡ evaluation_next inner evaluation (behind_command ns t inner cs at k) s b g
  last_evaluation inner run evaluation cs at k s b g none =
      evaluation_alike inner run evaluation b k (on_ok (λ v. k 0 v) k) (handed_on k b) s b g (omega arith)
      ∙ sym (ap (λ (c : Commands). evaluation_next inner evaluation (on_ok (λ v. run_commands ns t inner c v k) k) s b g) none)
