-- What suspended work means: each kind of frame says what the evaluation does with the code and result for which it waits.
use Rattle.std.specs.Prelude.{ℕ, ◌+◌, ◌++◌, List, [], ◌∷◌, length, drop}
use Rattle.txt_core.specs.Names.{Names}
use Rattle.tcl_eval.specs.State.{LeafTable, Rest, Next, done, spent, too_deep}
use Rattle.tcl_expr.specs.View.{tree_of as expression_tree}
use Rattle.tcl_host.specs.Codes as code_of
use Rattle.tcl_eval.specs.Eval.{unread, read, give, on_ok, command_end, proc_end, catch_end, read_variable, by_truth, element_name, command, run_words, run_commands, run_script, nested}
use Rattle.tcl_eval.specs.Expressions.{with_one, with_two, way_of, behind_left, run_expression, value_end}
use Rattle.tcl_eval.specs.Branches.{choose}
use Rattle.tcl_eval.specs.Pages.{piece_end, run_pieces}
use Rattle.tcl_eval.specs.Loops.{in_loop, between, turn_body, turns, turn_on, walk_on}
use Rattle.tcl_eval.specs.Evaluations.{evaluation_next}
use Rattle.tcl_eval.specs.Kept.{grown, judged, run_kept, run_costly}
use Rattle.tcl_eval.specs.Places.{tree_of, commands_from, command_at, words_from, place_parts, parts_size, words_size, commands_size, tree_size}
use Rattle.tcl_eval.specs.declared.stack.Frame.{Frame}
use Rattle.tcl_eval.specs.declared.stack.Frame.TheVariants.{Script, Command, Costly, Word, Index, Result, Procedure, ProcedureResult, Caught, Expression, Operand, Operation, Left, Right, Choice, Value, ValueResult, Branch as Branching}
use Rattle.tcl_eval.specs.declared.branch.Branch.{Branch}
use Rattle.tcl_eval.specs.declared.branch.Branch.TheVariants as branch
use Rattle.tcl_eval.specs.declared.stack.Ready.{Ready}
use Rattle.tcl_eval.specs.declared.stack.Ready.TheVariants as ready
use Rattle.tcl_eval.specs.declared.stack.AtRest.{AtRest}
use Rattle.tcl_eval.specs.declared.stack.AtRest.TheVariants as settled
use Rattle.tcl_eval.specs.declared.stack.Step.{Step}
use Rattle.tcl_eval.specs.declared.stack.Step.TheVariants as step

module _ {H : Type 0} (names : Names) (table : LeafTable H) where
  -- what a choice, a loop or a page does with the code and result for which it waits
  abbrev pub branch_next : Branch → Next H → Next H
  branch_next (branch.If body branches next levels) k =
      on_ok (λ value. by_truth value ((nested names table levels).run (unread body) k) (choose (nested names table levels) (drop next branches.value.clauses) branches.value.last k) k) k
  branch_next (branch.Start turning levels) k = on_ok (λ result. turn_on (nested names table levels) turning.value k) k
  branch_next (branch.Condition turning left levels) k =
      on_ok (λ value. by_truth value (turn_body (nested names table levels) turning.value (turns (nested names table levels) turning.value left k) k) (k code_of.ok []) k) k
  branch_next (branch.Body turning left levels) k =
      in_loop (between (nested names table levels) turning.value.next (turns (nested names table levels) turning.value left k) k) k
  branch_next (branch.Next turning left levels) k = in_loop (turns (nested names table levels) turning.value left k) k
  branch_next (branch.Each walk at left levels) k =
      in_loop (walk_on (nested names table levels) walk.value.names walk.value.body left (drop at walk.value.values) k) k
  branch_next (branch.Page pieces next levels) k =
      piece_end table (run_pieces table (nested names table levels) (drop next pieces) k) k

  -- what a frame does with the code and result for which it waits
  abbrev pub frame_next : Frame → Next H → Next H
  frame_next (Script script next levels) k =
      on_ok (λ result. run_commands names table (nested names table levels) (commands_from next (tree_of script.value)) result k) k
  frame_next (Command script at values levels) k =
      on_ok (λ value. run_words names table (nested names table levels) (words_from (length values + 1) (command_at at (tree_of script.value))) (values ++ value ∷ []) k) k
  frame_next (Costly script at next levels) k =
      on_ok (λ value. run_costly (nested names table levels) (words_from next (command_at at (tree_of script.value))) k) k
  frame_next (Word place so_far levels) k =
      on_ok (λ value. run_kept (nested names table levels) (place_parts place) (grown so_far value) k) k
  frame_next (Index array) k = on_ok (λ value. read_variable (element_name array value) k) k
  frame_next Result k = command_end k
  frame_next Procedure k = proc_end k
  frame_next ProcedureResult k = proc_end (command_end k)
  frame_next (Caught name) k = catch_end name k
  frame_next (Expression expr levels) k = on_ok (λ result. run_expression (nested names table levels) (expression_tree expr.value) k) k
  frame_next Operand k = on_ok (λ value. judged k code_of.ok value) (judged k)
  frame_next (Operation op) k = on_ok (λ operand. give (with_one op operand) k) k
  frame_next (Left op right levels) k =
      on_ok (λ left. behind_left (way_of op) left (run_expression (nested names table levels) (expression_tree right.value) (on_ok (λ value. give (with_two op left value) k) k)) k) k
  frame_next (Right op left) k = on_ok (λ right. give (with_two op left right) k) k
  frame_next (Choice first second levels) k =
      on_ok (λ value. by_truth value (run_expression (nested names table levels) (expression_tree first.value) k) (run_expression (nested names table levels) (expression_tree second.value) k) k) k
  frame_next Value k = value_end k
  frame_next ValueResult k = value_end (command_end k)
  frame_next (Branching b) k = branch_next b k

  -- frames from the lowest up, above what comes last
  abbrev pub above : List Frame → Next H → Next H
  above [] k = k
  above (frame ∷ frames) k = above frames (frame_next frame k)

  -- what comes after the work that a whole stack waits for
  abbrev pub stack_next : List Frame → Next H
  stack_next frames = above frames done

  -- what is ready to be done, or an end, above a stack
  abbrev pub ready_next : Ready → Next H → Rest H
  ready_next (ready.Command words levels) k = command names table (nested names table levels) words k
  ready_next (ready.Expression evaluation levels) k = evaluation_next (nested names table levels) evaluation k
  ready_next (ready.Branch b value) k = branch_next b k value.code value.result
  ready_next ready.TooDeep k = λ state budget given. too_deep state
  ready_next ready.Spent k = λ state budget given. spent state

  -- the same, or all is done
  abbrev pub settled_next : AtRest → Next H → Rest H
  settled_next (settled.Ended value) k = done value.code value.result
  settled_next (settled.Ready what) k = ready_next what k

  -- a step of what is under way, above a stack
  abbrev pub step_next : Step → Next H → Rest H
  step_next (step.Value value) k = k value.code value.result
  step_next (step.Pieces place so_far levels) k =
      run_kept (nested names table levels) (place_parts place) so_far k
  step_next (step.Bracket script levels) k =
      run_script names table levels (read (tree_of script.value)) (on_ok (λ value. judged k code_of.ok value) (judged k))
  step_next (step.Stop what) k = ready_next what k

-- ---- how many steps may come before the next command is paid for

abbrev pub frame_weight : Frame → ℕ
frame_weight (Script script next levels) = commands_size (commands_from next (tree_of script.value)) + 1
frame_weight (Command script at values levels) =
    words_size (words_from (length values + 1) (command_at at (tree_of script.value))) + 1
frame_weight (Costly script at next levels) = words_size (words_from next (command_at at (tree_of script.value))) + 1
frame_weight (Word place so_far levels) = parts_size (place_parts place) + 2
frame_weight (Index array) = 1
frame_weight Result = 1
frame_weight Procedure = 1
frame_weight ProcedureResult = 1
frame_weight (Caught name) = 1
frame_weight (Expression expr levels) = tree_size (expression_tree expr.value)
frame_weight Operand = 1
frame_weight (Operation op) = 1
frame_weight (Left op right levels) = tree_size (expression_tree right.value) + 2
frame_weight (Right op left) = 1
frame_weight (Choice first second levels) = tree_size (expression_tree first.value) + tree_size (expression_tree second.value) + 1
frame_weight Value = 1
frame_weight ValueResult = 1
frame_weight (Branching b) = 1

abbrev pub stack_weight : List Frame → ℕ
stack_weight [] = 0
stack_weight (frame ∷ frames) = frame_weight frame + stack_weight frames

abbrev pub step_weight : Step → ℕ
step_weight (step.Value value) = 0
step_weight (step.Pieces place so_far levels) = parts_size (place_parts place) + 1
step_weight (step.Bracket script levels) = commands_size (tree_of script.value) + 2
step_weight (step.Stop what) = 0

-- ---- how many texts may be run before the next command is paid for

-- Behind a loop's body the script between two turns is run for nothing, behind a condition a body, and behind a piece of a page the
-- pieces that are left.
abbrev pub branch_free : Branch → ℕ
branch_free (branch.If body branches next levels) = 1
branch_free (branch.Start turning levels) = 1
branch_free (branch.Condition turning left levels) = 1
branch_free (branch.Body turning left levels) = 2
branch_free (branch.Next turning left levels) = 1
branch_free (branch.Each walk at left levels) = 1
branch_free (branch.Page pieces next levels) = length (drop next pieces) + 1

abbrev pub frame_free : Frame → ℕ
frame_free (Script script next levels) = 0
frame_free (Command script at values levels) = 0
frame_free (Costly script at next levels) = 0
frame_free (Word place so_far levels) = 0
frame_free (Index array) = 0
frame_free Result = 0
frame_free Procedure = 0
frame_free ProcedureResult = 0
frame_free (Caught name) = 0
frame_free (Expression expr levels) = 0
frame_free Operand = 0
frame_free (Operation op) = 0
frame_free (Left op right levels) = 0
frame_free (Right op left) = 0
frame_free (Choice first second levels) = 0
frame_free Value = 0
frame_free ValueResult = 0
frame_free (Branching b) = branch_free b

abbrev pub stack_free : List Frame → ℕ
stack_free [] = 0
stack_free (frame ∷ frames) = frame_free frame + stack_free frames

abbrev pub ready_free : Ready → ℕ
ready_free (ready.Command words levels) = 0
ready_free (ready.Expression evaluation levels) = 0
ready_free (ready.Branch b value) = branch_free b
ready_free ready.TooDeep = 0
ready_free ready.Spent = 0

abbrev pub settled_free : AtRest → ℕ
settled_free (settled.Ended value) = 0
settled_free (settled.Ready what) = ready_free what

abbrev pub step_free : Step → ℕ
step_free (step.Value value) = 0
step_free (step.Pieces place so_far levels) = 0
step_free (step.Bracket script levels) = 0
step_free (step.Stop what) = ready_free what
