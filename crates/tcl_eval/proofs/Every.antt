-- What holds of every run, where it holds of each end and each step of a run keeps it.
use Rattle.std.proofs.Common.{◌≡◌, ◌≤◌, ◌<◌, ◌==◌, ◌%◌, ℕ, zero, suc, ◌+◌, ◌-◌, List, [], ◌∷◌, ◌++◌, length, drop, Bool, true, false, Option, Some, None, Result, Ok, Err, cond, nat_lt, refl, arith}
use Rattle.std.specs.Prelude.{codes, decimal, bytes_eq, ◌||◌}
use Rattle.std.specs.List.{AllByRecursion}
use Rattle.std.specs.Int.{div_ceil}
use Rattle.std.proofs.lemmas.Bool.{ltb-false}
use Rattle.txt_core.specs.Limits.{most_bytes, is_long, most_nested}
use Rattle.txt_core.specs.Names.{Names}
use Rattle.txt_core.specs.Lists.{Listing, elements, bad_at}
use Rattle.txt_core.specs.Listing as lists
use Rattle.txt_core.specs.Truth.{truth}
use Rattle.tcl_parse.specs.Tree as tree
use Rattle.tcl_parse.specs.Tree.{Part, text, variable, element, bracket, Parts, no_parts, part, parts, Words, no_words, word, Commands, no_commands, Script}
use Rattle.tcl_parse.specs.Outcome as parsed
use Rattle.tcl_parse.specs.Reading.{reading}
use Rattle.tcl_expr.specs.Trees as trees
use Rattle.tcl_expr.specs.Trees.{Tree}
use Rattle.tcl_expr.specs.Outcome as answers
use Rattle.tcl_expr.specs.Outcome.{Answer}
use Rattle.tcl_expr.specs.Reading.{expression_of}
use Rattle.tcl_expr.specs.Operators.{value_of}
use Rattle.tcl_expr.specs.View.{tree_of as expression_tree}
use Rattle.cmd_table.specs.Table.{command_of}
use Rattle.cmd_table.specs.Renaming.{rename_answer}
use Rattle.cmd_table.specs.declared.renaming.Renamed.{Renamed}
use Rattle.cmd_table.specs.declared.renaming.Renamed.TheVariants.{Done as Renamed_done, NoOld, NewExists}
use Rattle.cmd_table.specs.declared.command.Cmd.{Cmd}
use Rattle.cmd_table.specs.declared.command.Cmd.TheVariants as commands
use Rattle.natives.specs.Pure.{pure_of}
use Rattle.adp_parse.specs.declared.piece.Piece.{Piece}
use Rattle.adp_parse.specs.declared.piece.Piece.TheVariants as pieces
use Rattle.adp_parse.specs.declared.piece.Pieces.{Pieces}
use Rattle.tcl_frame.specs.Stack.{Stack}
use Rattle.cmd_table.specs.declared.definition.Def.{Def}
use Rattle.cmd_table.specs.declared.definition.Def.TheVariants as defs
use Rattle.tcl_frame.specs.declared.fault.VarFault.{VarFault}
use Rattle.tcl_frame.specs.Frames.{pushed, popped, global_fault, globally_written}
use Rattle.tcl_varcmd.specs.Answers.{Came, gives as gives_text, fails as fails_with}
use Rattle.tcl_varcmd.specs.Commands.{begins_var_command, var_came}
use Rattle.tcl_eval.specs.declared.branch.Turning.{Turning}
use Rattle.tcl_eval.specs.declared.branch.Branches.{Branches}
use Rattle.tcl_eval.specs.declared.branch.Branch.{Branch}
use Rattle.tcl_eval.specs.declared.branch.Branch.TheVariants as branch
use Rattle.tcl_eval.specs.declared.loops.Flow.{Flow}
use Rattle.tcl_eval.specs.declared.loops.Flow.TheVariants.{On, Ends}
use Rattle.tcl_eval.specs.declared.operation.Way.{Way}
use Rattle.tcl_eval.specs.declared.operation.Way.TheVariants.{Both, IfTrue, IfFalse}
use Rattle.tcl_eval.specs.declared.parameter.Parameter.{Parameter}
use Rattle.tcl_eval.specs.declared.stack.Ended.{Ended}
use Rattle.tcl_eval.specs.declared.stack.Evaluation.{Evaluation}
use Rattle.tcl_eval.specs.declared.stack.Frame.{Frame}
use Rattle.tcl_eval.specs.declared.stack.Frame.TheVariants as frames
use Rattle.tcl_eval.specs.declared.stack.Ready.{Ready}
use Rattle.tcl_eval.specs.declared.stack.Ready.TheVariants as ready
use Rattle.tcl_eval.specs.declared.stack.Step.{Step}
use Rattle.tcl_eval.specs.declared.stack.Step.TheVariants as step
use Rattle.tcl_eval.specs.declared.verb.Verb.{Verb}
use Rattle.tcl_eval.specs.declared.verb.Verb.TheVariants as verb
use Rattle.tcl_eval.specs.declared.outcome.Work.{Work}
use Rattle.tcl_eval.specs.declared.outcome.Work.TheVariants as work
use Rattle.natives.specs.Names.{has_name}
use Rattle.tcl_eval.specs.Natives.{is_in_range, replied, call_native}
use Rattle.tcl_eval.specs.State.{State, TextEnd, LeafTable, Given, Out, done, spent, too_deep, Rest, Next}
use Rattle.tcl_eval.specs.Messages.{script_fault, too_long, no_boolean, bad_expression, no_list, bad_value, unknown_command, variable_fault, no_command, command_exists}
use Rattle.tcl_eval.specs.Costs.{evaluation_cost, result_cost}
use Rattle.tcl_eval.specs.Results.{error_of, wrong_words_end, element_name, returned, read_as, stored, stored_of, return_of, raised_of, break_of, continue_of}
use Rattle.tcl_eval.specs.Parameters.{Values, parameters, bound}
use Rattle.tcl_eval.specs.Words.{arg, joined}
use Rattle.tcl_eval.specs.Going.{Source, unread, read, Inner, on_ok, pay, give, fails, limited, charged, command_end, word_end, with_host, with_frames, with_made, with_def, read_variable, write_variable, proc_end, write_all, decided, by_truth}
use Rattle.tcl_eval.specs.Pieces.{run_part, run_parts}
use Rattle.tcl_eval.specs.Commands.{rename_of, proc_of, call_bound, define_proc, do_proc, renamed_as, do_rename, do_eval, catch_end, do_catch, came_next}
use Rattle.tcl_eval.specs.Expressions.{with_one, with_two, way_of, behind_left, run_expression, run_answer, evaluate, test, value_end, do_expr}
use Rattle.tcl_eval.specs.Branches.{run_body, choose, choose_of, from_condition}
use Rattle.tcl_eval.specs.Loops.{assigned, flow_of, by_flow, in_loop, between, turn_body, turns, turn_on, do_while, do_for, walk_on, over_values, over_names, do_foreach}
use Rattle.tcl_eval.specs.Switch.{options, body_for, by_pairs, by_listing, by_words, by_options}
use Rattle.tcl_eval.specs.Info.{info_said, do_info}
use Rattle.tcl_eval.specs.Eval.{verb_of, is_for_host, set_or_fails, set_global, make, define, leaf, built_in, built, run_command, act, command, run_words, run_commands, run_reading, run_script, nested, eval}
use Rattle.tcl_eval.specs.Places.{tree_of, commands_from, command_at, words_from, place_parts}
use Rattle.tcl_eval.specs.Evaluations.{evaluation_next}
use Rattle.tcl_eval.specs.Kept.{grown, judged, run_too_long, run_kept, run_costly}
use Rattle.tcl_eval.specs.declared.gather.SoFar.{SoFar}
use Rattle.tcl_eval.specs.declared.gather.SoFar.TheVariants as kept
use Rattle.tcl_eval.specs.Stack.{branch_next, frame_next, above, stack_next, ready_next, step_next}
use Rattle.tcl_eval.specs.Pages.{words_script, page_end, text_end, told, piece_end, run_piece, run_pieces, run_page}

-- What steps keep: P is said of a run by the state, the budget and the answers with which it begins, and by what it comes to; Q is
-- the same of what a command comes to that was paid for. Words that a run reads are as Short says.
pub record Closed (H : Type 0) (P Q : State H → ℕ → Given → Out H → Type 0) (Short : List ℕ → Type 0) : Type 0 where
  pub falls : (s : State H) (b b' : ℕ) (g : Given) (x : Out H) → b' ≤ b → P s b' g x → P s b g x
  pub moves : (s s' : State H) (b : ℕ) (g : Given) (x : Out H) → s'.made ≡ s.made → P s' b g x → P s b g x
  pub procs : (s : State H) (words : List (List ℕ)) (all : List Parameter) (b : ℕ) (g : Given) (x : Out H) → parameters (arg words 2) ≡ Ok all → AllByRecursion Short (drop 1 words) → (length words == 4) ≡ true → P (with_def s (proc_of words)) b g x → P s b g x
  pub renames : (s : State H) (words : List (List ℕ)) (b : ℕ) (g : Given) (x : Out H) → AllByRecursion Short (drop 1 words) → (length words == 3) ≡ true → P (with_def s (rename_of words)) b g x → P s b g x
  pub ends : (code : ℕ) (result : List ℕ) (s : State H) (b : ℕ) (g : Given) → P s b g (done code result s b g)
  pub spends : (s : State H) (b : ℕ) (g : Given) → P s b g (spent s)
  pub sinks : (s : State H) (b : ℕ) (g : Given) → P s b g (too_deep s)
  pub pays : (s : State H) (b b' : ℕ) (g : Given) (x : Out H) → b' < b → Q s b' g x → P s b g x
  pub weakens : (s : State H) (b : ℕ) (g : Given) (x : Out H) → P s b g x → Q s b g x
  pub shortens : (value : List ℕ) → length value ≤ most_bytes → Short value

pub either : {T : Type 0} (R : T → Type 0) (c : Bool) (x y : T) → R x → R y → R (cond c x y)
either R true x y one other = one
either R false x y one other = other

-- the same, where each side may use the test
pub by_test : {T : Type 0} (R : T → Type 0) (c : Bool) (x y : T) → (c ≡ true → R x) → (c ≡ false → R y) → R (cond c x y)
by_test R true x y one other = one refl
by_test R false x y one other = other refl

not_more : (m n : ℕ) → nat_lt m n ≡ false → n ≤ m
not_more m n e = ltb-false m n e

all_drop : (Short : List ℕ → Type 0) (xs : List (List ℕ)) → AllByRecursion Short xs → AllByRecursion Short (drop 1 xs)
all_drop Short [] all = all
all_drop Short (x ∷ xs) all = all.1

all_push : (Short : List ℕ → Type 0) (xs : List (List ℕ)) (x : List ℕ) → AllByRecursion Short xs → Short x → AllByRecursion Short (xs ++ x ∷ [])
all_push Short [] x all one = (one, tt)
all_push Short (y ∷ xs) x all one = (all.0, all_push Short xs x all.1 one)

module _ {H : Type 0} (P Q : State H → ℕ → Given → Out H → Type 0) (Short : List ℕ → Type 0) (c : Closed H P Q Short) (t : LeafTable H) where
  -- of a rest of a run, wherever it begins
  abbrev pub Good : Rest H → Type 0
  Good r = (s : State H) (b : ℕ) (g : Given) → P s b g (r s b g)

  abbrev pub GoodPaid : Rest H → Type 0
  GoodPaid r = (s : State H) (b : ℕ) (g : Given) → Q s b g (r s b g)

  abbrev pub GoodNext : Next H → Type 0
  GoodNext k = (code : ℕ) (result : List ℕ) → Good (k code result)

  abbrev pub Runs : Inner H → Type 0
  Runs inner = (source : Source) (k : Next H) → GoodNext k → Good (inner.run source k)

  -- of what the host's commands come to
  abbrev pub LeafRule : Type 0
  LeafRule = (inner : Inner H) → Runs inner → (words : List (List ℕ)) → AllByRecursion Short (drop 1 words) → (k : Next H) → GoodNext k → (s : State H) (b : ℕ) (g : Given) → Q s b g (leaf t inner words (t.calls words s.host) k s b g)

  choice : (t : Bool) (r1 r2 : Rest H) → Good r1 → Good r2 → Good (cond t r1 r2)
  choice true r1 r2 one other = one
  choice false r1 r2 one other = other

  tests : (t : Bool) (r1 r2 : Rest H) → (t ≡ true → Good r1) → (t ≡ false → Good r2) → Good (cond t r1 r2)
  tests true r1 r2 one other = one refl
  tests false r1 r2 one other = other refl

  choice_paid : (t : Bool) (r1 r2 : Rest H) → GoodPaid r1 → GoodPaid r2 → GoodPaid (cond t r1 r2)
  choice_paid true r1 r2 one other = one
  choice_paid false r1 r2 one other = other

  weak : (r : Rest H) → Good r → GoodPaid r
  weak r h s b g = c.weakens s b g (r s b g) (h s b g)

  at_frames : (r : Rest H) → Good r → (s : State H) (frames : Stack) (b : ℕ) (g : Given) → P s b g (r (with_frames s frames) b g)
  at_frames r h s frames b g = c.moves s (with_frames s frames) b g (r (with_frames s frames) b g) refl (h (with_frames s frames) b g)

  pub at_host : (r : Rest H) → Good r → (s : State H) (host : H) (b : ℕ) (g : Given) → P s b g (r (with_host s host) b g)
  at_host r h s host b g = c.moves s (with_host s host) b g (r (with_host s host) b g) refl (h (with_host s host) b g)

  pay_good : (cost : ℕ) (r : Rest H) → Good r → Good (pay cost r)
  pay_good cost r h s b g = either (P s b g) (nat_lt b cost) (spent s) (r s (b - cost) g) (c.spends s b g) (c.falls s b (b - cost) g (r s (b - cost) g) (omega arith) (h s (b - cost) g))

  on_ok_good : (go : List ℕ → Rest H) (k : Next H) → ((v : List ℕ) → Good (go v)) → GoodNext k → GoodNext (on_ok go k)
  on_ok_good go k on h zero result = on result
  on_ok_good go k on h (suc code) result = h (suc code) result

  pub give_good : (value : Ended) (k : Next H) → GoodNext k → Good (give value k)
  give_good value k h = h value.code value.result

  pub fails_good : (message : List ℕ) (k : Next H) → GoodNext k → Good (fails message k)
  fails_good message k h = give_good (error_of message) k h

  charged_good : (k : Next H) → GoodNext k → GoodNext (charged k)
  charged_good k h code result = pay_good (result_cost result) (k code result) (h code result)

  limited_good : (k : Next H) → GoodNext k → GoodNext (limited k)
  limited_good k h code result = choice (is_long result) (k 1 too_long) (k code result) (h 1 too_long) (h code result)

  command_end_good : (k : Next H) → GoodNext k → GoodNext (command_end k)
  command_end_good k h = limited_good (charged k) (charged_good k h)

  judged_good : (m : ℕ) (go : List ℕ → Rest H) (k : Next H) (v : List ℕ) → (length v ≤ m → Good (go v)) → GoodNext k → Good (cond (nat_lt m (length v)) (k 1 too_long) (go v))
  judged_good m go k v on h = tests (nat_lt m (length v)) (k 1 too_long) (go v) (λ e. h 1 too_long) (λ e. on (not_more m (length v) e))

  word_end_good : (go : List ℕ → Rest H) (k : Next H) → ((v : List ℕ) → Short v → Good (go v)) → GoodNext k → GoodNext (word_end go k)
  word_end_good go k on h =
      on_ok_good (λ v. cond (is_long v) (k 1 too_long) (go v)) k
      (λ v. judged_good most_bytes go k v (λ le. on v (c.shortens v le)) h) h

  read_variable_good : (name : List ℕ) (k : Next H) → GoodNext k → Good (read_variable name k)
  read_variable_good name k h s b g = give_good (read_as s.frames name) k h s b g

  pub write_variable_good : (name value result : List ℕ) (k : Next H) → GoodNext k → Good (write_variable name value result k)
  write_variable_good name value result k h s b g =
      at_frames (give (stored_of s.frames name value result) k) (give_good (stored_of s.frames name value result) k h) s (stored s.frames name value) b g

  proc_end_good : (k : Next H) → GoodNext k → GoodNext (proc_end k)
  proc_end_good k h code result s b g = at_frames (give (returned code result) k) (give_good (returned code result) k h) s (popped s.frames) b g

  write_all_good : (values : Values) (go : Rest H) (k : Next H) → Good go → GoodNext k → Good (write_all values go k)
  write_all_good [] go k on h = on
  write_all_good (v ∷ vs) go k on h =
      write_variable_good v.0 v.1 [] (on_ok (λ x. write_all vs go k) k) (on_ok_good (λ x. write_all vs go k) k (λ x. write_all_good vs go k on h) h)

  decided_good : (found : Option Bool) (value : List ℕ) (one other : Rest H) (k : Next H) → Good one → Good other → GoodNext k → Good (decided found value one other k)
  decided_good None value one other k h1 h2 h = fails_good (no_boolean value) k h
  decided_good (Some true) value one other k h1 h2 h = h1
  decided_good (Some false) value one other k h1 h2 h = h2

  by_truth_good : (value : List ℕ) (one other : Rest H) (k : Next H) → Good one → Good other → GoodNext k → Good (by_truth value one other k)
  by_truth_good value = decided_good (truth value) value

  -- ---- commands that run nothing

  define_proc_good : (found : Result (List Parameter) (List ℕ)) (words : List (List ℕ)) → parameters (arg words 2) ≡ found → AllByRecursion Short (drop 1 words) → (length words == 4) ≡ true → (k : Next H) → GoodNext k → Good (define_proc found words k)
  define_proc_good (Err message) words is short four k h = fails_good message k h
  define_proc_good (Ok all) words is short four k h = λ s b g. c.procs s words all b g (k 0 [] (with_def s (proc_of words)) b g) is short four (h 0 [] (with_def s (proc_of words)) b g)

  do_proc_good : (words : List (List ℕ)) → AllByRecursion Short (drop 1 words) → (k : Next H) → GoodNext k → Good (do_proc words k)
  do_proc_good words short k h =
      tests (length words == 4) _ _ (λ four. define_proc_good (parameters (arg words 2)) words refl short four k h) (λ e. give_good (wrong_words_end words) k h)

  renamed_as_good : (renamed : Renamed) (words : List (List ℕ)) → AllByRecursion Short (drop 1 words) → (length words == 3) ≡ true → (k : Next H) → GoodNext k → Good (renamed_as renamed words k)
  renamed_as_good Renamed_done words short three k h = λ s b g. c.renames s words b g (k 0 [] (with_def s (rename_of words)) b g) short three (h 0 [] (with_def s (rename_of words)) b g)
  renamed_as_good NoOld words short three k h = fails_good (no_command (arg words 1)) k h
  renamed_as_good NewExists words short three k h = fails_good (command_exists (arg words 2)) k h

  do_rename_good : (words : List (List ℕ)) → AllByRecursion Short (drop 1 words) → (k : Next H) → GoodNext k → Good (do_rename words k)
  do_rename_good words short k h =
      tests (length words == 3) _ _
      (λ three s b g. renamed_as_good (rename_answer s.commands (arg words 1) (arg words 2)) words short three k h s b g)
      (λ e. give_good (wrong_words_end words) k h)

  came_next_good : (came : Came) (k : Next H) → GoodNext k → Good (came_next came k)
  came_next_good (gives_text result frames) k h = λ s b g. at_frames (k 0 result) (h 0 result) s frames b g
  came_next_good (fails_with message frames) k h = λ s b g. at_frames (k 1 message) (h 1 message) s frames b g

  do_info_good : (words : List (List ℕ)) (k : Next H) → GoodNext k → Good (do_info words k)
  do_info_good words k h = λ s b g. give_good (info_said s.commands words) k h s b g

  replied_good : (said : Result (List ℕ) (List ℕ)) (k : Next H) → GoodNext k → Good (replied said k)
  replied_good (Ok result) k h = h 0 result
  replied_good (Err message) k h = h 1 message

  call_native_good : (words : List (List ℕ)) (k : Next H) → GoodNext k → Good (call_native words k)
  call_native_good words k h =
      choice (is_in_range (arg words 0) words) _ _ (replied_good (pure_of (arg words 0) words) k h) (give_good (wrong_words_end words) k h)

  catch_end_good : (name : Option (List ℕ)) (k : Next H) → GoodNext k → GoodNext (catch_end name k)
  catch_end_good None k h code result = h 0 (decimal code)
  catch_end_good (Some name) k h code result = write_variable_good name result (decimal code) k h

  by_flow_good : (flow : Flow) (go : Rest H) (k : Next H) → Good go → GoodNext k → Good (by_flow flow go k)
  by_flow_good On go k on h = on
  by_flow_good (Ends value) go k on h = give_good value k h

  in_loop_good : (go : Rest H) (k : Next H) → Good go → GoodNext k → GoodNext (in_loop go k)
  in_loop_good go k on h code result = by_flow_good (flow_of code result) go k on h

  behind_left_good : (way : Way) (left : List ℕ) (right : Rest H) (k : Next H) → Good right → GoodNext k → Good (behind_left way left right k)
  behind_left_good Both left right k on h = on
  behind_left_good IfTrue left right k on h = by_truth_good left right (k 0 (codes "0")) k on (h 0 (codes "0")) h
  behind_left_good IfFalse left right k on h = by_truth_good left (k 0 (codes "1")) right k (h 0 (codes "1")) on h

  -- ---- words

  mutual
    run_part_good : (inner : Inner H) → Runs inner → (p : Part) (k : Next H) → GoodNext k → Good (run_part inner p k)
    run_part_good inner run (text bytes) k h = h 0 bytes
    run_part_good inner run (variable name) k h = read_variable_good name k h
    run_part_good inner run (element array index) k h =
        run_parts_good inner run index [] (word_end (λ v. read_variable (element_name array v) k) k)
        (word_end_good (λ v. read_variable (element_name array v) k) k (λ v short. read_variable_good (element_name array v) k h) h)
    run_part_good inner run (bracket script) k h = run (read script) k h

    run_parts_good : (inner : Inner H) → Runs inner → (ps : Parts) (so_far : List ℕ) (k : Next H) → GoodNext k → Good (run_parts inner ps so_far k)
    run_parts_good inner run no_parts so_far k h = h 0 so_far
    run_parts_good inner run (part p ps) so_far k h =
        run_part_good inner run p (on_ok (λ v. run_parts inner ps (so_far ++ v) k) k)
        (on_ok_good (λ v. run_parts inner ps (so_far ++ v) k) k (λ v. run_parts_good inner run ps (so_far ++ v) k h) h)

  -- ---- expressions

  run_expression_good : (inner : Inner H) → Runs inner → (x : Tree) (k : Next H) → GoodNext k → Good (run_expression inner x k)
  run_expression_good inner run (trees.value bytes) k h = h 0 bytes
  run_expression_good inner run (trees.word w) k h =
      run_parts_good inner run (parts w) [] (word_end (λ v. k 0 v) k) (word_end_good (λ v. k 0 v) k (λ v short. h 0 v) h)
  run_expression_good inner run (trees.unary op x) k h =
      run_expression_good inner run x (on_ok (λ v. give (with_one op v) k) k)
      (on_ok_good (λ v. give (with_one op v) k) k (λ v. give_good (with_one op v) k h) h)
  run_expression_good inner run (trees.binary op x y) k h =
      let right : List ℕ → Rest H = λ left. run_expression inner y (on_ok (λ v. give (with_two op left v) k) k) in
      let behind : List ℕ → Rest H = λ left. behind_left (way_of op) left (right left) k in
      run_expression_good inner run x (on_ok behind k)
      (on_ok_good behind k
      (λ left. behind_left_good (way_of op) left (right left) k
      (run_expression_good inner run y (on_ok (λ v. give (with_two op left v) k) k)
      (on_ok_good (λ v. give (with_two op left v) k) k (λ v. give_good (with_two op left v) k h) h)) h) h)
  run_expression_good inner run (trees.choice x y z) k h =
      let go : List ℕ → Rest H = λ v. by_truth v (run_expression inner y k) (run_expression inner z k) k in
      run_expression_good inner run x (on_ok go k)
      (on_ok_good go k
      (λ v. by_truth_good v (run_expression inner y k) (run_expression inner z k) k (run_expression_good inner run y k h) (run_expression_good inner run z k h) h) h)

  run_answer_good : (inner : Inner H) → Runs inner → (bytes : List ℕ) (answer : Answer) (k : Next H) → GoodNext k → Good (run_answer inner bytes answer k)
  run_answer_good inner run bytes (answers.tree x) k h = run_expression_good inner run x k h
  run_answer_good inner run bytes (answers.bad_from left) k h = fails_good (bad_expression (length bytes - left)) k h

  evaluate_good : (inner : Inner H) → Runs inner → (bytes : List ℕ) (k : Next H) → GoodNext k → Good (evaluate inner bytes k)
  evaluate_good inner run bytes k h = pay_good 1 (run_answer inner bytes (expression_of bytes) k) (run_answer_good inner run bytes (expression_of bytes) k h)

  test_good : (inner : Inner H) → Runs inner → (bytes : List ℕ) (one other : Rest H) (k : Next H) → Good one → Good other → GoodNext k → Good (test inner bytes one other k)
  test_good inner run bytes one other k h1 h2 h =
      evaluate_good inner run bytes (on_ok (λ v. by_truth v one other k) k)
      (on_ok_good (λ v. by_truth v one other k) k (λ v. by_truth_good v one other k h1 h2 h) h)

  do_expr_good : (inner : Inner H) → Runs inner → (words : List (List ℕ)) (k : Next H) → GoodNext k → Good (do_expr inner words k)
  do_expr_good inner run words k h =
      choice (nat_lt (length words) 2) _ _ (give_good (wrong_words_end words) k h)
      (evaluate_good inner run (joined (drop 1 words)) (value_end k) (on_ok_good (λ v. k 0 (value_of v)) k (λ v. h 0 (value_of v)) h))

  -- ---- choices and loops

  run_body_good : (inner : Inner H) → Runs inner → (body : Option (List ℕ)) (k : Next H) → GoodNext k → Good (run_body inner body k)
  run_body_good inner run None k h = h 0 []
  run_body_good inner run (Some body) k h = run (unread body) k h

  choose_good : (inner : Inner H) → Runs inner → (clauses : List (List ℕ × List ℕ)) (last : Option (List ℕ)) (k : Next H) → GoodNext k → Good (choose inner clauses last k)
  choose_good inner run [] last k h = run_body_good inner run last k h
  choose_good inner run (clause ∷ clauses) last k h =
      test_good inner run clause.0 (inner.run (unread clause.1) k) (choose inner clauses last k) k
      (run (unread clause.1) k h) (choose_good inner run clauses last k h) h

  choose_of_good : (inner : Inner H) → Runs inner → (found : Option Branches) (words : List (List ℕ)) (k : Next H) → GoodNext k → Good (choose_of inner found words k)
  choose_of_good inner run None words k h = give_good (wrong_words_end words) k h
  choose_of_good inner run (Some found) words k h = choose_good inner run found.clauses found.last k h

  between_good : (inner : Inner H) → Runs inner → (next : Option (List ℕ)) (go : Rest H) (k : Next H) → Good go → GoodNext k → Good (between inner next go k)
  between_good inner run None go k on h = on
  between_good inner run (Some next) go k on h = run (unread next) (in_loop go k) (in_loop_good go k on h)

  turn_body_good : (inner : Inner H) → Runs inner → (turning : Turning) (go : Rest H) (k : Next H) → Good go → GoodNext k → Good (turn_body inner turning go k)
  turn_body_good inner run turning go k on h =
      let next : Rest H = between inner turning.next go k in
      pay_good 1 (inner.run (unread turning.body) (in_loop next k))
      (run (unread turning.body) (in_loop next k) (in_loop_good next k (between_good inner run turning.next go k on h) h))

  turns_good : (inner : Inner H) → Runs inner → (turning : Turning) (n : ℕ) (k : Next H) → GoodNext k → Good (turns inner turning n k)
  turns_good inner run turning zero k h = λ s b g. c.spends s b g
  turns_good inner run turning (suc n) k h =
      test_good inner run turning.condition (turn_body inner turning (turns inner turning n k) k) (k 0 []) k
      (turn_body_good inner run turning (turns inner turning n k) k (turns_good inner run turning n k h) h) (h 0 []) h

  turn_on_good : (inner : Inner H) → Runs inner → (turning : Turning) (k : Next H) → GoodNext k → Good (turn_on inner turning k)
  turn_on_good inner run turning k h = λ s b g. turns_good inner run turning b k h s b g

  do_while_good : (inner : Inner H) → Runs inner → (words : List (List ℕ)) (k : Next H) → GoodNext k → Good (do_while inner words k)
  do_while_good inner run words k h =
      choice (length words == 3) _ _ (turn_on_good inner run (record { condition = arg words 1; next = None; body = arg words 2 }) k h) (give_good (wrong_words_end words) k h)

  do_for_good : (inner : Inner H) → Runs inner → (words : List (List ℕ)) (k : Next H) → GoodNext k → Good (do_for inner words k)
  do_for_good inner run words k h =
      let turning : Turning = record { condition = arg words 2; next = Some (arg words 3); body = arg words 4 } in
      choice (length words == 5) _ _
      (run (unread (arg words 1)) (on_ok (λ v. turn_on inner turning k) k)
      (on_ok_good (λ v. turn_on inner turning k) k (λ v. turn_on_good inner run turning k h) h))
      (give_good (wrong_words_end words) k h)

  walk_on_good : (inner : Inner H) → Runs inner → (names : List (List ℕ)) (body : List ℕ) (n : ℕ) (values : List (List ℕ)) (k : Next H) → GoodNext k → Good (walk_on inner names body n values k)
  walk_on_good inner run names body zero values k h = h 0 []
  walk_on_good inner run names body (suc n) values k h =
      let next : Rest H = walk_on inner names body n (drop (length names) values) k in
      let go : Rest H = inner.run (unread body) (in_loop next k) in
      pay_good 1 (write_all (assigned names values) go k)
      (write_all_good (assigned names values) go k
      (run (unread body) (in_loop next k)
      (in_loop_good next k (walk_on_good inner run names body n (drop (length names) values) k h) h)) h)

  over_values_good : (inner : Inner H) → Runs inner → (names : List (List ℕ)) (values : Listing) (body : List ℕ) (k : Next H) → GoodNext k → Good (over_values inner names values body k)
  over_values_good inner run names (bad_at place) body k h = fails_good (no_list place) k h
  over_values_good inner run names (elements values) body k h = walk_on_good inner run names body (div_ceil (length values) (length names)) values k h

  over_names_good : (inner : Inner H) → Runs inner → (names : Listing) (words : List (List ℕ)) (k : Next H) → GoodNext k → Good (over_names inner names words k)
  over_names_good inner run (bad_at place) words k h = fails_good (no_list place) k h
  over_names_good inner run (elements []) words k h = fails_good (bad_value (arg words 1) (codes "foreach")) k h
  over_names_good inner run (elements (name ∷ names)) words k h = over_values_good inner run (name ∷ names) (lists.listing (arg words 2)) (arg words 3) k h

  do_foreach_good : (inner : Inner H) → Runs inner → (words : List (List ℕ)) (k : Next H) → GoodNext k → Good (do_foreach inner words k)
  do_foreach_good inner run words k h =
      choice (length words == 4) _ _ (over_names_good inner run (lists.listing (arg words 1)) words k h) (give_good (wrong_words_end words) k h)

  -- ---- switch

  by_pairs_good : (inner : Inner H) → Runs inner → (globs : Bool) (bytes : List ℕ) (pairs : List (List ℕ)) (k : Next H) → GoodNext k → Good (by_pairs inner globs bytes pairs k)
  by_pairs_good inner run globs bytes pairs k h =
      choice (bytes_eq (arg pairs (length pairs - 1)) (codes "-")) _ _
      (fails_good (bad_value (codes "-") (codes "switch")) k h) (run_body_good inner run (body_for globs bytes pairs) k h)

  by_listing_good : (inner : Inner H) → Runs inner → (globs : Bool) (bytes list : List ℕ) (pairs : Listing) (k : Next H) → GoodNext k → Good (by_listing inner globs bytes list pairs k)
  by_listing_good inner run globs bytes list (bad_at place) k h = fails_good (no_list place) k h
  by_listing_good inner run globs bytes list (elements pairs) k h =
      choice (length pairs % 2 == 0) _ _ (by_pairs_good inner run globs bytes pairs k h) (fails_good (bad_value list (codes "switch")) k h)

  by_words_good : (inner : Inner H) → Runs inner → (globs : Bool) (bytes : List ℕ) (behind words : List (List ℕ)) (k : Next H) → GoodNext k → Good (by_words inner globs bytes behind words k)
  by_words_good inner run globs bytes [] words k h = give_good (wrong_words_end words) k h
  by_words_good inner run globs bytes (list ∷ []) words k h = by_listing_good inner run globs bytes list (lists.listing list) k h
  by_words_good inner run globs bytes (pattern ∷ body ∷ pairs) words k h =
      choice (length pairs % 2 == 0) _ _ (by_pairs_good inner run globs bytes (pattern ∷ body ∷ pairs) k h) (give_good (wrong_words_end words) k h)

  by_options_good : (inner : Inner H) → Runs inner → (found : Result (Bool × List (List ℕ)) (List ℕ)) (words : List (List ℕ)) (k : Next H) → GoodNext k → Good (by_options inner found words k)
  by_options_good inner run (Err bytes) words k h = fails_good (bad_value bytes (codes "switch")) k h
  by_options_good inner run (Ok (globs, [])) words k h = give_good (wrong_words_end words) k h
  by_options_good inner run (Ok (globs, bytes ∷ behind)) words k h = by_words_good inner run globs bytes behind words k h

  -- ---- procedures, `eval`, `catch`

  call_bound_good : (inner : Inner H) → Runs inner → (found : Result Values (List ℕ)) (body : List ℕ) (k : Next H) → GoodNext k → Good (call_bound inner found body k)
  call_bound_good inner run (Err message) body k h = fails_good message k h
  call_bound_good inner run (Ok values) body k h =
      let end : GoodNext (proc_end k) = proc_end_good k h in
      let go : Rest H = write_all values (inner.run (unread body) (proc_end k)) (proc_end k) in
      let good : Good go = write_all_good values (inner.run (unread body) (proc_end k)) (proc_end k) (run (unread body) (proc_end k) end) end in
      λ s b g. at_frames go good s (pushed s.frames) b g

  do_eval_good : (inner : Inner H) → Runs inner → (words : List (List ℕ)) (k : Next H) → GoodNext k → Good (do_eval inner words k)
  do_eval_good inner run words k h =
      choice (nat_lt (length words) 2) _ _ (give_good (wrong_words_end words) k h) (run (unread (joined (drop 1 words))) k h)

  do_catch_good : (inner : Inner H) → Runs inner → (words : List (List ℕ)) (k : Next H) → GoodNext k → Good (do_catch inner words k)
  do_catch_good inner run words k h =
      choice (length words == 2) _ _ (run (unread (arg words 1)) (catch_end None k) (catch_end_good None k h))
      (choice (length words == 3) _ _
      (run (unread (arg words 1)) (catch_end (Some (arg words 2)) k) (catch_end_good (Some (arg words 2)) k h))
      (give_good (wrong_words_end words) k h))

  -- ---- pages

  page_end_good : (code : ℕ) (k : Next H) → GoodNext k → Good (page_end code k)
  page_end_good code k h s b g = at_frames (k code []) (h code []) s (popped s.frames) b g

  text_end_good : (end : TextEnd H) (k : Next H) → GoodNext k → Good (text_end end k)
  text_end_good end k h s b g = at_host (k end.code end.result) (h end.code end.result) s end.host b g

  told_good : (code : ℕ) (go : Rest H) → Good go → Good (told t code go)
  told_good code go h s b g = at_host go h s (t.leaves code s.host) b g

  piece_end_good : (go : Rest H) (k : Next H) → Good go → GoodNext k → GoodNext (piece_end t go k)
  piece_end_good go k on h code result =
      let all = choice ((code == 6) || (code == 7)) (page_end code k) go (page_end_good code k h) on in
      let one = choice ((code == 2) || (code == 5)) (page_end 0 k) _ (page_end_good 0 k h) all in
      choice (code == 0) go _ on (told_good code _ one)

  run_piece_good : (inner : Inner H) → Runs inner → (piece : Piece) (k : Next H) → GoodNext k → Good (run_piece t inner piece k)
  run_piece_good inner run (pieces.Text bytes) k h = λ s b g. text_end_good (t.texts bytes s.host) k h s b g
  run_piece_good inner run (pieces.Script bytes) k h = run (unread bytes) k h
  run_piece_good inner run (pieces.Words bytes) k h = run (unread (words_script bytes)) k h

  run_pieces_good : (inner : Inner H) → Runs inner → (ps : List Piece) (k : Next H) → GoodNext k → Good (run_pieces t inner ps k)
  run_pieces_good inner run [] k h = told_good 0 (page_end 0 k) (page_end_good 0 k h)
  run_pieces_good inner run (p ∷ ps) k h =
      run_piece_good inner run p (piece_end t (run_pieces t inner ps k) k)
      (piece_end_good (run_pieces t inner ps k) k (run_pieces_good inner run ps k h) h)

  pub run_page_good : (inner : Inner H) → Runs inner → (page : Pieces) (k : Next H) → GoodNext k → Good (run_page t inner page k)
  run_page_good inner run page k h = λ s b g. at_frames (run_pieces t inner page.list k) (run_pieces_good inner run page.list k h) s (pushed s.frames) b g

  -- ---- the host's definitions

  -- a definition that is listed as made
  abbrev pub Lists : Def → Type 0
  Lists def = (s : State H) (b : ℕ) (g : Given) (x : Out H) → P (with_made s def) b g x → P s b g x

  set_or_fails_good : (why : Option VarFault) (name value : List ℕ) → Lists (defs.Set name value) → (k : Next H) → GoodNext k → Good (set_or_fails why name value k)
  set_or_fails_good None name value put k h s b g =
      let moved : State H = with_frames s (globally_written s.frames name value) in
      let x : Out H = k 0 value (with_made moved (defs.Set name value)) b g in
      c.moves s moved b g x refl (put moved b g x (h 0 value (with_made moved (defs.Set name value)) b g))
  set_or_fails_good (Some why) name value put k h s b g = fails_good (variable_fault why name) k h s b g

  set_global_good : (name value : List ℕ) → Lists (defs.Set name value) → (k : Next H) → GoodNext k → Good (set_global name value k)
  set_global_good name value put k h =
      choice (is_long value) (k 1 too_long) _ (h 1 too_long)
      (λ s b g. set_or_fails_good (global_fault s.frames name) name value put k h s b g)

  listed_good : (def : Def) → Lists def → (k : Next H) → GoodNext k → Good (λ s. k 0 [] (with_made s def))
  listed_good def put k h s b g = put s b g (k 0 [] (with_made s def) b g) (h 0 [] (with_made s def) b g)

  make_good : (def : Def) → Lists def → (k : Next H) → GoodNext k → Good (make def k)
  make_good (defs.Proc name params body) put k h = listed_good (defs.Proc name params body) put k h
  make_good (defs.Rename old new) put k h = listed_good (defs.Rename old new) put k h
  make_good (defs.Route method url inherit words) put k h = listed_good (defs.Route method url inherit words) put k h
  make_good (defs.Filter when method pattern words) put k h = listed_good (defs.Filter when method pattern words) put k h
  make_good (defs.Cleanup script) put k h = listed_good (defs.Cleanup script) put k h
  make_good (defs.Set name value) put k h = λ s b g. set_global_good name value put k h s b g

  pub define_good : (def : Def) → (is_for_host def ≡ true → Lists def) → (words : List (List ℕ)) (k : Next H) → GoodNext k → Good (define def words k)
  define_good def put words k h =
      tests (is_for_host def) (make def k) (fails (unknown_command (arg words 0)) k) (λ yes. make_good def (put yes) k h)
      (λ e. fails_good (unknown_command (arg words 0)) k h)

  -- ---- commands

  built_in_good : LeafRule → (ns : Names) (inner : Inner H) → Runs inner → (v : Verb) (words : List (List ℕ)) → AllByRecursion Short (drop 1 words) → (k : Next H) → GoodNext k → GoodPaid (built_in ns t inner v words k)
  built_in_good rule ns inner run verb.Proc words short k h = weak (do_proc words k) (do_proc_good words short k h)
  built_in_good rule ns inner run verb.Return words short k h = weak (give (return_of words) k) (give_good (return_of words) k h)
  built_in_good rule ns inner run verb.Error words short k h = weak (give (raised_of words) k) (give_good (raised_of words) k h)
  built_in_good rule ns inner run verb.Break words short k h = weak (give (break_of words) k) (give_good (break_of words) k h)
  built_in_good rule ns inner run verb.Continue words short k h = weak (give (continue_of words) k) (give_good (continue_of words) k h)
  built_in_good rule ns inner run verb.Rename words short k h = weak (do_rename words k) (do_rename_good words short k h)
  built_in_good rule ns inner run verb.Eval words short k h = weak (do_eval inner words k) (do_eval_good inner run words k h)
  built_in_good rule ns inner run verb.Catch words short k h = weak (do_catch inner words k) (do_catch_good inner run words k h)
  built_in_good rule ns inner run verb.Expr words short k h = weak (do_expr inner words k) (do_expr_good inner run words k h)
  built_in_good rule ns inner run verb.If words short k h = weak (choose_of inner (from_condition (drop 1 words)) words k) (choose_of_good inner run (from_condition (drop 1 words)) words k h)
  built_in_good rule ns inner run verb.While words short k h = weak (do_while inner words k) (do_while_good inner run words k h)
  built_in_good rule ns inner run verb.For words short k h = weak (do_for inner words k) (do_for_good inner run words k h)
  built_in_good rule ns inner run verb.Foreach words short k h = weak (do_foreach inner words k) (do_foreach_good inner run words k h)
  built_in_good rule ns inner run verb.Switch words short k h = weak (by_options inner (options false (drop 1 words)) words k) (by_options_good inner run (options false (drop 1 words)) words k h)
  built_in_good rule ns inner run verb.Info words short k h = weak (do_info words k) (do_info_good words k h)
  built_in_good rule ns inner run verb.Other words short k h = λ s b g. rule inner run words short k h s b g

  built_good : LeafRule → (ns : Names) (inner : Inner H) → Runs inner → (words : List (List ℕ)) → AllByRecursion Short (drop 1 words) → (k : Next H) → GoodNext k → GoodPaid (built ns t inner words k)
  built_good rule ns inner run words short k h =
      choice_paid (has_name ns (arg words 0)) _ _ (weak (call_native words k) (call_native_good words k h))
      (choice_paid (begins_var_command words) _ _ (λ s b g. weak (came_next (var_came s.frames words) k) (came_next_good (var_came s.frames words) k h) s b g)
      (built_in_good rule ns inner run (verb_of (arg words 0)) words short k h))

  run_command_good : LeafRule → (ns : Names) (inner : Inner H) → Runs inner → (found : Option Cmd) (words : List (List ℕ)) → AllByRecursion Short (drop 1 words) → (k : Next H) → GoodNext k → GoodPaid (run_command ns t inner found words k)
  run_command_good rule ns inner run None words short k h = weak (fails (unknown_command (arg words 0)) k) (fails_good (unknown_command (arg words 0)) k h)
  run_command_good rule ns inner run (Some (commands.Built name)) words short k h = built_good rule ns inner run (name ∷ drop 1 words) short k h
  run_command_good rule ns inner run (Some (commands.Proc params body)) words short k h =
      weak (call_bound inner (bound params (arg words 0) (drop 1 words)) body k) (call_bound_good inner run (bound params (arg words 0) (drop 1 words)) body k h)

  act_good : LeafRule → (ns : Names) (inner : Inner H) → Runs inner → (words : List (List ℕ)) → AllByRecursion Short (drop 1 words) → (k : Next H) → GoodNext k → GoodPaid (act ns t inner words k)
  act_good rule ns inner run words short k h = λ s b g. run_command_good rule ns inner run (command_of s.commands (arg words 0)) words short k h s b g

  -- what is paid for is a run that was good with less
  paid_good : (more : ℕ) (r : Rest H) → GoodPaid r → Good (pay (1 + more) r)
  paid_good more r h s b g =
      by_test (P s b g) (nat_lt b (1 + more)) (spent s) (r s (b - (1 + more)) g) (λ e. c.spends s b g)
      (λ e. let enough : 1 + more ≤ b = not_more b (1 + more) e in c.pays s b (b - (1 + more)) g (r s (b - (1 + more)) g) (omega (arith, enough)) (h s (b - (1 + more)) g))

  command_good : LeafRule → (ns : Names) (inner : Inner H) → Runs inner → (words : List (List ℕ)) → AllByRecursion Short (drop 1 words) → (k : Next H) → GoodNext k → Good (command ns t inner words k)
  command_good rule ns inner run words short k h =
      paid_good _ (act ns t inner words (command_end k)) (act_good rule ns inner run words short (command_end k) (command_end_good k h))

  run_words_good : LeafRule → (ns : Names) (inner : Inner H) → Runs inner → (ws : Words) (values : List (List ℕ)) → AllByRecursion Short values → (k : Next H) → GoodNext k → Good (run_words ns t inner ws values k)
  run_words_good rule ns inner run no_words values short k h = command_good rule ns inner run values (all_drop Short values short) k h
  run_words_good rule ns inner run (word w ws) values short k h =
      let go : List ℕ → Rest H = λ v. run_words ns t inner ws (values ++ v ∷ []) k in
      run_parts_good inner run w [] (word_end go k)
      (word_end_good go k (λ v one. run_words_good rule ns inner run ws (values ++ v ∷ []) (all_push Short values v short one) k h) h)

  run_commands_good : LeafRule → (ns : Names) (inner : Inner H) → Runs inner → (cs : Commands) (result : List ℕ) (k : Next H) → GoodNext k → Good (run_commands ns t inner cs result k)
  run_commands_good rule ns inner run no_commands result k h = h 0 result
  run_commands_good rule ns inner run (tree.command w cs) result k h =
      let go : List ℕ → Rest H = λ v. run_commands ns t inner cs v k in
      run_words_good rule ns inner run w [] tt (on_ok go k)
      (on_ok_good go k (λ v. run_commands_good rule ns inner run cs v k h) h)

  run_reading_good : LeafRule → (ns : Names) (inner : Inner H) → Runs inner → (bytes : List ℕ) (found : parsed.Outcome Script) (k : Next H) → GoodNext k → Good (run_reading ns t inner bytes found k)
  run_reading_good rule ns inner run bytes (parsed.done script rest) k h = run_commands_good rule ns inner run (tree.commands script) [] k h
  run_reading_good rule ns inner run bytes (parsed.fault kind left) k h = fails_good (script_fault kind (length bytes - left)) k h

  run_script_good : LeafRule → (ns : Names) (levels : ℕ) (source : Source) (k : Next H) → GoodNext k → Good (run_script ns t levels source k)
  run_script_good rule ns zero source k h = λ s b g. c.sinks s b g
  run_script_good rule ns (suc levels) (read script) k h = run_commands_good rule ns (nested ns t levels) (run_script_good rule ns levels) script [] k h
  run_script_good rule ns (suc levels) (unread bytes) k h = run_reading_good rule ns (nested ns t levels) (run_script_good rule ns levels) bytes (reading bytes) k h

  -- the words of a call are as those that a run reads
  abbrev pub ShortWork : Work → Type 0
  ShortWork (work.Script bytes) = Unit {0}
  ShortWork (work.Call words) = AllByRecursion Short (drop 1 words)
  ShortWork (work.Page page) = Unit {0}

  pub eval_good : LeafRule → (ns : Names) (depth : ℕ) (w : Work) → ShortWork w → Good (eval ns t depth w)
  eval_good rule ns depth (work.Script bytes) short = run_script_good rule ns (most_nested + 1 - depth) (unread bytes) done c.ends
  eval_good rule ns depth (work.Call words) short = command_good rule ns (nested ns t (most_nested - depth)) (run_script_good rule ns (most_nested - depth)) words short done c.ends
  eval_good rule ns depth (work.Page page) short = run_page_good (nested ns t (most_nested + 1 - depth)) (run_script_good rule ns (most_nested + 1 - depth)) page done c.ends

  -- ---- what is suspended

  branch_good : LeafRule → (ns : Names) (b : Branch) (k : Next H) → GoodNext k → GoodNext (branch_next ns t b k)
  branch_good rule ns (branch.If body branches next levels) k h =
      let inner : Inner H = nested ns t levels in
      let run : Runs inner = run_script_good rule ns levels in
      let clauses : List (List ℕ × List ℕ) = drop next branches.value.clauses in
      let go : List ℕ → Rest H = λ v. by_truth v (inner.run (unread body) k) (choose inner clauses branches.value.last k) k in
      on_ok_good go k
      (λ v. by_truth_good v (inner.run (unread body) k) (choose inner clauses branches.value.last k) k (run (unread body) k h) (choose_good inner run clauses branches.value.last k h) h) h
  branch_good rule ns (branch.Start turning levels) k h =
      let inner : Inner H = nested ns t levels in
      on_ok_good (λ v. turn_on inner turning.value k) k (λ v. turn_on_good inner (run_script_good rule ns levels) turning.value k h) h
  branch_good rule ns (branch.Condition turning left levels) k h =
      let inner : Inner H = nested ns t levels in
      let run : Runs inner = run_script_good rule ns levels in
      let behind : Rest H = turns inner turning.value left k in
      let go : List ℕ → Rest H = λ v. by_truth v (turn_body inner turning.value behind k) (k 0 []) k in
      on_ok_good go k
      (λ v. by_truth_good v (turn_body inner turning.value behind k) (k 0 []) k
      (turn_body_good inner run turning.value behind k (turns_good inner run turning.value left k h) h) (h 0 []) h) h
  branch_good rule ns (branch.Body turning left levels) k h =
      let inner : Inner H = nested ns t levels in
      let run : Runs inner = run_script_good rule ns levels in
      let behind : Rest H = turns inner turning.value left k in
      in_loop_good (between inner turning.value.next behind k) k
      (between_good inner run turning.value.next behind k (turns_good inner run turning.value left k h) h) h
  branch_good rule ns (branch.Next turning left levels) k h =
      let inner : Inner H = nested ns t levels in
      in_loop_good (turns inner turning.value left k) k (turns_good inner (run_script_good rule ns levels) turning.value left k h) h
  branch_good rule ns (branch.Each walk at left levels) k h =
      let inner : Inner H = nested ns t levels in
      let values : List (List ℕ) = drop at walk.value.values in
      in_loop_good (walk_on inner walk.value.names walk.value.body left values k) k
      (walk_on_good inner (run_script_good rule ns levels) walk.value.names walk.value.body left values k h) h
  branch_good rule ns (branch.Page page next levels) k h =
      let inner : Inner H = nested ns t levels in
      piece_end_good (run_pieces t inner (drop next page) k) k (run_pieces_good inner (run_script_good rule ns levels) (drop next page) k h) h

  -- words under way of which only something is kept

  judged_next_good : (k : Next H) → GoodNext k → GoodNext (judged k)
  judged_next_good k h = word_end_good (λ v. k 0 v) k (λ v short. h 0 v) h

  run_too_long_good : (inner : Inner H) → Runs inner → (ps : Parts) (k : Next H) → GoodNext k → Good (run_too_long inner ps k)
  run_too_long_good inner run no_parts k h = h 1 too_long
  run_too_long_good inner run (part p ps) k h =
      run_part_good inner run p (on_ok (λ v. run_too_long inner ps k) k)
      (on_ok_good (λ v. run_too_long inner ps k) k (λ v. run_too_long_good inner run ps k h) h)

  run_kept_good : (inner : Inner H) → Runs inner → (ps : Parts) (so_far : SoFar) (k : Next H) → GoodNext k → Good (run_kept inner ps so_far k)
  run_kept_good inner run ps (kept.Kept bytes) k h = run_parts_good inner run ps bytes (judged k) (judged_next_good k h)
  run_kept_good inner run ps kept.TooLong k h = run_too_long_good inner run ps k h

  run_costly_good : (inner : Inner H) → Runs inner → (ws : Words) (k : Next H) → GoodNext k → Good (run_costly inner ws k)
  run_costly_good inner run no_words k h = λ s b g. c.spends s b g
  run_costly_good inner run (word w ws) k h =
      run_parts_good inner run w [] (word_end (λ v. run_costly inner ws k) k)
      (word_end_good (λ v. run_costly inner ws k) k (λ v short. run_costly_good inner run ws k h) h)

  -- expressions under way

  value_end_good : (k : Next H) → GoodNext k → GoodNext (value_end k)
  value_end_good k h = on_ok_good (λ v. k 0 (value_of v)) k (λ v. h 0 (value_of v)) h

  operand_good : (k : Next H) → GoodNext k → GoodNext (on_ok (λ v. judged k 0 v) (judged k))
  operand_good k h = on_ok_good (λ v. judged k 0 v) (judged k) (λ v. judged_next_good k h 0 v) (judged_next_good k h)

  evaluation_good : (inner : Inner H) → Runs inner → (evaluation : Evaluation) (k : Next H) → GoodNext k → Good (evaluation_next inner evaluation k)
  evaluation_good inner run evaluation k h =
      let x : Tree = expression_tree evaluation.expr.value in
      let way : Rest H = run_expression inner x (value_end (command_end k)) in
      pay_good evaluation.cost (pay evaluation_cost way) (pay_good 1 way (run_expression_good inner run x (value_end (command_end k)) (value_end_good (command_end k) (command_end_good k h))))

  -- any words are as a run reads them
  abbrev pub AnyShort : Type 0
  AnyShort = (words : List (List ℕ)) → AllByRecursion Short words

  frame_good : LeafRule → AnyShort → (ns : Names) (f : Frame) (k : Next H) → GoodNext k → GoodNext (frame_next ns t f k)
  frame_good rule any ns (frames.Script script next levels) k h =
      let inner : Inner H = nested ns t levels in
      let behind : Commands = commands_from next (tree_of script.value) in
      on_ok_good (λ v. run_commands ns t inner behind v k) k (λ v. run_commands_good rule ns inner (run_script_good rule ns levels) behind v k h) h
  frame_good rule any ns (frames.Command script at values levels) k h =
      let inner : Inner H = nested ns t levels in
      let behind : Words = words_from (length values + 1) (command_at at (tree_of script.value)) in
      let go : List ℕ → Rest H = λ v. run_words ns t inner behind (values ++ v ∷ []) k in
      on_ok_good go k (λ v. run_words_good rule ns inner (run_script_good rule ns levels) behind (values ++ v ∷ []) (any (values ++ v ∷ [])) k h) h
  frame_good rule any ns (frames.Costly script at next levels) k h =
      let inner : Inner H = nested ns t levels in
      let behind : Words = words_from next (command_at at (tree_of script.value)) in
      let go : List ℕ → Rest H = λ v. run_costly inner behind k in
      on_ok_good go k (λ v. run_costly_good inner (run_script_good rule ns levels) behind k h) h
  frame_good rule any ns (frames.Word place so_far levels) k h =
      let inner : Inner H = nested ns t levels in
      on_ok_good (λ v. run_kept inner (place_parts place) (grown so_far v) k) k
      (λ v. run_kept_good inner (run_script_good rule ns levels) (place_parts place) (grown so_far v) k h) h
  frame_good rule any ns (frames.Index array) k h =
      on_ok_good (λ v. read_variable (element_name array v) k) k (λ v. read_variable_good (element_name array v) k h) h
  frame_good rule any ns frames.Result k h = command_end_good k h
  frame_good rule any ns frames.Procedure k h = proc_end_good k h
  frame_good rule any ns frames.ProcedureResult k h = proc_end_good (command_end k) (command_end_good k h)
  frame_good rule any ns (frames.Caught name) k h = catch_end_good name k h
  frame_good rule any ns (frames.Expression expr levels) k h =
      let inner : Inner H = nested ns t levels in
      on_ok_good (λ v. run_expression inner (expression_tree expr.value) k) k
      (λ v. run_expression_good inner (run_script_good rule ns levels) (expression_tree expr.value) k h) h
  frame_good rule any ns frames.Operand k h = operand_good k h
  frame_good rule any ns (frames.Operation op) k h = on_ok_good (λ v. give (with_one op v) k) k (λ v. give_good (with_one op v) k h) h
  frame_good rule any ns (frames.Left op right levels) k h =
      let inner : Inner H = nested ns t levels in
      let x : Tree = expression_tree right.value in
      let end : List ℕ → Next H = λ left. on_ok (λ v. give (with_two op left v) k) k in
      let go : List ℕ → Rest H = λ left. behind_left (way_of op) left (run_expression inner x (end left)) k in
      on_ok_good go k
      (λ left. behind_left_good (way_of op) left (run_expression inner x (end left)) k
      (run_expression_good inner (run_script_good rule ns levels) x (end left)
      (on_ok_good (λ v. give (with_two op left v) k) k (λ v. give_good (with_two op left v) k h) h)) h) h
  frame_good rule any ns (frames.Right op left) k h =
      on_ok_good (λ v. give (with_two op left v) k) k (λ v. give_good (with_two op left v) k h) h
  frame_good rule any ns (frames.Choice first second levels) k h =
      let inner : Inner H = nested ns t levels in
      let run : Runs inner = run_script_good rule ns levels in
      let x : Tree = expression_tree first.value in
      let y : Tree = expression_tree second.value in
      let go : List ℕ → Rest H = λ v. by_truth v (run_expression inner x k) (run_expression inner y k) k in
      on_ok_good go k
      (λ v. by_truth_good v (run_expression inner x k) (run_expression inner y k) k (run_expression_good inner run x k h) (run_expression_good inner run y k h) h) h
  frame_good rule any ns frames.Value k h = value_end_good k h
  frame_good rule any ns frames.ValueResult k h = value_end_good (command_end k) (command_end_good k h)
  frame_good rule any ns (frames.Branch b) k h = branch_good rule ns b k h

  above_good : LeafRule → AnyShort → (ns : Names) (fs : List Frame) (k : Next H) → GoodNext k → GoodNext (above ns t fs k)
  above_good rule any ns [] k h = h
  above_good rule any ns (f ∷ fs) k h = above_good rule any ns fs (frame_next ns t f k) (frame_good rule any ns f k h)

  pub stack_good : LeafRule → AnyShort → (ns : Names) (fs : List Frame) → GoodNext (stack_next ns t fs)
  stack_good rule any ns fs = above_good rule any ns fs done c.ends

  pub ready_good : LeafRule → AnyShort → (ns : Names) (what : Ready) (k : Next H) → GoodNext k → Good (ready_next ns t what k)
  ready_good rule any ns (ready.Command words levels) k h =
      command_good rule ns (nested ns t levels) (run_script_good rule ns levels) words (any (drop 1 words)) k h
  ready_good rule any ns (ready.Expression evaluation levels) k h = evaluation_good (nested ns t levels) (run_script_good rule ns levels) evaluation k h
  ready_good rule any ns (ready.Branch b value) k h = branch_good rule ns b k h value.code value.result
  ready_good rule any ns ready.TooDeep k h = λ s b g. c.sinks s b g
  ready_good rule any ns ready.Spent k h = λ s b g. c.spends s b g

  pub step_good : LeafRule → AnyShort → (ns : Names) (what : Step) (k : Next H) → GoodNext k → Good (step_next ns t what k)
  step_good rule any ns (step.Value value) k h = give_good value k h
  step_good rule any ns (step.Pieces place so_far levels) k h = run_kept_good (nested ns t levels) (run_script_good rule ns levels) (place_parts place) so_far k h
  step_good rule any ns (step.Bracket script levels) k h =
      run_script_good rule ns levels (read (tree_of script.value)) (on_ok (λ v. judged k 0 v) (judged k)) (operand_good k h)
  step_good rule any ns (step.Stop what) k h = ready_good rule any ns what k h

  -- what a command may run, where so many levels are left to it
  pub nested_good : LeafRule → (ns : Names) (levels : ℕ) → Runs (nested ns t levels)
  nested_good rule ns levels = run_script_good rule ns levels
