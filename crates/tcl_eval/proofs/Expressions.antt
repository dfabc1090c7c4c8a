-- What expressions come to.
use Rattle.std.proofs.Common.{◌≡◌, ◌≤◌, ℕ, ◌+◌, ◌-◌, List, [], ◌∷◌, ◌++◌, length, drop, Bool, Option, Err, cond, sym, ap, ◌∙◌, arith}
use Rattle.std.proofs.lemmas.Bool.{le-ltb}
use Rattle.txt_core.specs.Names.{Names}
use Rattle.txt_core.specs.Truth.{truth}
use Rattle.tcl_expr.specs.Trees.{Tree}
use Rattle.tcl_expr.specs.Outcome.{Answer, tree, bad_from}
use Rattle.tcl_expr.specs.Reading.{IsBad, expression_of, expression_is}
use Rattle.tcl_expr.specs.Answers.{Answers}
use Rattle.tcl_expr.specs.declared.fault.ExprText.{ExprText}
use Rattle.tcl_expr.specs.declared.fault.ExprText.TheVariants.{Bad}
use Rattle.tcl_expr.specs.declared.operator.Op.{Op}
use Rattle.tcl_expr.specs.Grammar.{Reads}
use Rattle.tcl_expr.specs.declared.expr.Expr.{Expr}
use Rattle.tcl_expr.specs.View.{tree_of}
use Rattle.tcl_eval.specs.State.{State, LeafTable, Given, Out, spent, Next}
use Rattle.tcl_parse.specs.Tree.{Commands, Parts, bracket, no_parts, part}
use Rattle.tcl_eval.specs.Messages.{bad_expression}
use Rattle.tcl_eval.specs.Eval.{Inner, read, ended, error_of, give, on_ok, by_truth, nested, run_parts, run_script}
use Rattle.tcl_eval.specs.Expressions.{run_expression, run_answer, evaluate, value_end, do_expr, way_of, behind_left}
use Rattle.tcl_eval.specs.Words.{joined}
use Rattle.tcl_eval.specs.Results.{wrong_words_end}
use Rattle.tcl_eval.specs.Going.{decided}
use Rattle.tcl_eval.specs.Engine.{state_of}
use Rattle.tcl_eval.specs.declared.engine.Engine.{Engine}
use Rattle.tcl_eval.specs.declared.operation.Way.{Way}
use Rattle.tcl_eval.specs.Stack.{frame_next, step_next, stack_next}
use Rattle.tcl_eval.specs.declared.stack.Ended.{Ended}
use Rattle.tcl_eval.specs.declared.stack.Frame.{Frame}
use Rattle.tcl_eval.specs.declared.stack.Frame.TheVariants.{Expression, Right, Value}
use Rattle.tcl_eval.specs.declared.stack.Step.{Step}
use Rattle.tcl_eval.specs.declared.stack.Step.TheVariants.{Value as Value_step}
use Rattle.tcl_eval.specs.Kept.{judged}
use Rattle.tcl_eval.proofs.Stacks.{pushed}

module _ {H : Type 0} (ns : Names) (t : LeafTable H) where
  -- an expression begins
  pub expression_step : (fs fs1 : List Frame) (expr : _) (levels : ℕ) (value : Ended) (s : State H) (b : ℕ) (g : Given) → fs1 ≡ fs ++ Expression expr levels ∷ [] → value ≡ ended 0 [] → give value (stack_next ns t fs1) s b g ≡ run_expression (nested ns t levels) (tree_of expr.value) (stack_next ns t fs) s b g
  expression_step fs fs1 expr levels value s b g e is =
      ap (λ (v : Ended). give v (stack_next ns t fs1) s b g) is
      ∙ ap (λ (k : Next H). k 0 [] s b g) (pushed ns t fs fs1 (Expression expr levels) e)

  -- a part of an expression begins, for whose value a frame waits
  pub part_step : (fs fs1 fs2 : List Frame) (f : Frame) (expr : _) (levels : ℕ) (value : Ended) (s : State H) (b : ℕ) (g : Given) → fs1 ≡ fs ++ f ∷ [] → fs2 ≡ fs1 ++ Expression expr levels ∷ [] → value ≡ ended 0 [] → give value (stack_next ns t fs2) s b g ≡ run_expression (nested ns t levels) (tree_of expr.value) (frame_next ns t f (stack_next ns t fs)) s b g
  part_step fs fs1 fs2 f expr levels value s b g e1 e2 is =
      expression_step fs1 fs2 expr levels value s b g e2 is
      ∙ ap (λ (k : Next H). run_expression (nested ns t levels) (tree_of expr.value) k s b g) (pushed ns t fs fs1 f e1)

  -- an expression begins, behind a good end
  pub begun : (x : Tree) (expr : Expr) (levels code : ℕ) (result : List ℕ) (k : Next H) (s : State H) (b : ℕ) (g : Given) (y : Out H) → code ≡ 0 → tree_of expr ≡ x → y ≡ run_expression (nested ns t levels) x k s b g → y ≡ on_ok (λ r. run_expression (nested ns t levels) (tree_of expr) k) k code result s b g
  begun x expr levels code result k s b g y z is e =
      e ∙ sym (ap (λ (v : Tree). run_expression (nested ns t levels) v k s b g) is)
      ∙ sym (ap (λ (n : ℕ). on_ok (λ r. run_expression (nested ns t levels) (tree_of expr) k) k n result s b g) z)

  -- an evaluation is paid for, and the text is read
  pub evaluated : (inner : Inner H) (old paid : Engine H) (cost : ℕ) (text : List ℕ) (answer : Answer) (g : Given) (x : Out H) → cost ≡ 1 → cost ≤ old.budget → paid ≡ record old { budget = old.budget - cost } → Reads text answer → x ≡ run_answer inner text answer (stack_next ns t paid.stack.items) (state_of paid) paid.budget g → x ≡ evaluate inner text (stack_next ns t old.stack.items) (state_of old) old.budget g
  evaluated inner old paid cost text answer g x one enough is reads e =
      let k = stack_next ns t old.stack.items in
      let less : 1 ≤ old.budget = omega (arith, one, enough) in
      e ∙ ap (λ (p : Engine H). run_answer inner text answer (stack_next ns t p.stack.items) (state_of p) p.budget g) is
      ∙ ap (λ (n : ℕ). run_answer inner text answer k (state_of old) (old.budget - n) g) one
      ∙ sym (ap (λ (a : Answer). run_answer inner text a k (state_of old) (old.budget - 1) g) (expression_is text answer reads))
      ∙ sym (ap (λ (c : Bool). cond c (spent (state_of old)) (run_answer inner text (expression_of text) k (state_of old) (old.budget - 1) g)) (le-ltb old.budget 1 less))

  -- the text is an expression, which begins
  pub read_step : (old paid : Engine H) (fs1 : List Frame) (expr : _) (levels cost : ℕ) (text : List ℕ) (value : Ended) (g : Given) → cost ≡ 1 → cost ≤ old.budget → paid ≡ record old { budget = old.budget - cost } → fs1 ≡ paid.stack.items ++ Expression expr levels ∷ [] → Reads text (tree (tree_of expr.value)) → value ≡ ended 0 [] → give value (stack_next ns t fs1) (state_of paid) paid.budget g ≡ evaluate (nested ns t levels) text (stack_next ns t old.stack.items) (state_of old) old.budget g
  read_step old paid fs1 expr levels cost text value g one enough is push reads done =
      evaluated (nested ns t levels) old paid cost text (tree (tree_of expr.value)) g _ one enough is reads
      (expression_step paid.stack.items fs1 expr levels value (state_of paid) paid.budget g push done)

  -- the text is none
  pub bad_step : (old paid : Engine H) (inner : Inner H) (cost at left : ℕ) (text message : List ℕ) (value : Ended) (g : Given) → cost ≡ 1 → cost ≤ old.budget → paid ≡ record old { budget = old.budget - cost } → at + left ≡ length text → Reads text (bad_from left) → message ≡ bad_expression at → value ≡ error_of message → give value (stack_next ns t paid.stack.items) (state_of paid) paid.budget g ≡ evaluate inner text (stack_next ns t old.stack.items) (state_of old) old.budget g
  bad_step old paid inner cost at left text message value g one enough is whole reads says error =
      let place : at ≡ length text - left = omega (arith, whole) in
      evaluated inner old paid cost text (bad_from left) g _ one enough is reads
      (ap (λ (v : Ended). give v (stack_next ns t paid.stack.items) (state_of paid) paid.budget g) error
      ∙ ap (λ (m : List ℕ). give (error_of m) (stack_next ns t paid.stack.items) (state_of paid) paid.budget g) says
      ∙ ap (λ (n : ℕ). give (error_of (bad_expression n)) (stack_next ns t paid.stack.items) (state_of paid) paid.budget g) place)

  -- the value of the left operand is there
  pub left_step : (op : Op) (way : Way) (right : Expr) (left : List ℕ) (levels code : ℕ) (k : Next H) (s : State H) (b : ℕ) (g : Given) (x : Out H) → code ≡ 0 → way ≡ way_of op → x ≡ behind_left way left (run_expression (nested ns t levels) (tree_of right) (frame_next ns t (Right op left) k)) k s b g → x ≡ on_ok (λ v. behind_left (way_of op) v (run_expression (nested ns t levels) (tree_of right) (frame_next ns t (Right op v) k)) k) k code left s b g
  left_step op way right left levels code k s b g x z is e =
      e ∙ ap (λ (w : Way). behind_left w left (run_expression (nested ns t levels) (tree_of right) (frame_next ns t (Right op left) k)) k s b g) is
      ∙ sym (ap (λ (n : ℕ). on_ok (λ v. behind_left (way_of op) v (run_expression (nested ns t levels) (tree_of right) (frame_next ns t (Right op v) k)) k) k n left s b g) z)

  -- the value of the condition of a choice is there
  pub choice_step : (found : Option Bool) (first second : Expr) (value : List ℕ) (levels code : ℕ) (k : Next H) (s : State H) (b : ℕ) (g : Given) (x : Out H) → code ≡ 0 → found ≡ truth value → x ≡ decided found value (run_expression (nested ns t levels) (tree_of first) k) (run_expression (nested ns t levels) (tree_of second) k) k s b g → x ≡ on_ok (λ v. by_truth v (run_expression (nested ns t levels) (tree_of first) k) (run_expression (nested ns t levels) (tree_of second) k) k) k code value s b g
  choice_step found first second value levels code k s b g x z is e =
      e ∙ ap (λ (f : Option Bool). decided f value (run_expression (nested ns t levels) (tree_of first) k) (run_expression (nested ns t levels) (tree_of second) k) k s b g) is
      ∙ sym (ap (λ (n : ℕ). on_ok (λ v. by_truth v (run_expression (nested ns t levels) (tree_of first) k) (run_expression (nested ns t levels) (tree_of second) k) k) k n value s b g) z)

  -- an `expr` goes on with its words, joined
  pub expr_step : (inner : Inner H) (fs fs1 : List Frame) (words behind : List (List ℕ)) (text : List ℕ) (s : State H) (b : ℕ) (g : Given) (x : Out H) → 2 ≤ length words → fs1 ≡ fs ++ Value ∷ [] → text ≡ joined behind → behind ≡ drop 1 words → x ≡ evaluate inner text (stack_next ns t fs1) s b g → x ≡ do_expr inner words (stack_next ns t fs) s b g
  expr_step inner fs fs1 words behind text s b g x enough push is same e =
      let k = stack_next ns t fs in
      e ∙ ap (λ (y : Next H). evaluate inner text y s b g) (pushed ns t fs fs1 Value push)
      ∙ ap (λ (y : List ℕ). evaluate inner y (value_end k) s b g) (is ∙ ap joined same)
      ∙ sym (ap (λ (c : Bool). (cond c (give (wrong_words_end words) k) (evaluate inner (joined (drop 1 words)) (value_end k))) s b g) (le-ltb (length words) 2 enough))

module _ {H : Type 0} where
  -- a word of an expression begins
  pub operand_step : (inner : Inner H) (p p' : Parts) (e : List ℕ) (k : Next H) (s : State H) (b : ℕ) (g : Given) → p ≡ p' → e ≡ [] → run_parts inner p e (judged k) s b g ≡ run_parts inner p' [] (judged k) s b g
  operand_step inner p p' e k s b g isp ise =
      ap (λ (x : Parts). run_parts inner x e (judged k) s b g) isp
      ∙ ap (λ (x : List ℕ). run_parts inner p' x (judged k) s b g) ise

module _ {H : Type 0} (ns : Names) (t : LeafTable H) where
  -- a bracket that is a whole operand begins
  pub lone_step : (levels : ℕ) (cs : Commands) (ps : Parts) (k : Next H) (s : State H) (b : ℕ) (g : Given) → ps ≡ part (bracket cs) no_parts → run_script ns t levels (read cs) (on_ok (λ v. judged k 0 v) (judged k)) s b g ≡ run_parts (nested ns t levels) ps [] (judged k) s b g
  lone_step levels cs ps k s b g is = sym (ap (λ (x : Parts). run_parts (nested ns t levels) x [] (judged k) s b g) is)

  -- a step that is this value
  pub value_is : (step : Step) (value : Ended) (k : Next H) (s : State H) (b : ℕ) (g : Given) → step ≡ Value_step value → step_next ns t step k s b g ≡ give value k s b g
  value_is step value k s b g is = ap (λ (x : Step). step_next ns t x k s b g) is

-- what is bad of a text
pub bad_read : (text : List ℕ) (why : ExprText) (at : ℕ) → Answers text (Err why) → why ≡ Bad at → IsBad at text
bad_read text why at h e = rw e at h
