-- Runs that go on alike at every budget up to a number come to the same there, since no run hands on more budget than it has.
use Rattle.std.proofs.Common.{◌≡◌, ◌≤◌, ◌==◌, ◌%◌, ℕ, zero, suc, ◌+◌, ◌-◌, List, [], ◌∷◌, ◌++◌, length, drop, Bool, true, false, Option, Some, None, Result, Ok, Err, cond, nat_lt, refl, sym, ap, arith}
use Rattle.std.specs.Prelude.{codes, decimal, bytes_eq, ◌||◌}
use Rattle.std.specs.Int.{div_ceil}
use Rattle.std.proofs.lemmas.Bool.{lt-ltb}
use Rattle.txt_core.specs.Limits.{is_long}
use Rattle.txt_core.specs.Names.{Names}
use Rattle.txt_core.specs.Lists.{Listing, elements, bad_at}
use Rattle.txt_core.specs.Listing as lists
use Rattle.txt_core.specs.Truth.{truth}
use Rattle.tcl_parse.specs.Tree as tree
use Rattle.tcl_parse.specs.Tree.{Part, text, variable, element, bracket, Parts, no_parts, part, parts, Words, no_words, word, Commands, no_commands, Script}
use Rattle.tcl_parse.specs.Outcome as parsed
use Rattle.tcl_parse.specs.Reading.{reading}
use Rattle.tcl_expr.specs.Trees as trees
use Rattle.tcl_expr.specs.Trees.{Tree}
use Rattle.tcl_expr.specs.View.{tree_of as expression_tree}
use Rattle.tcl_expr.specs.Outcome as answers
use Rattle.tcl_expr.specs.Outcome.{Answer}
use Rattle.tcl_expr.specs.Reading.{expression_of}
use Rattle.tcl_expr.specs.Operators.{value_of}
use Rattle.cmd_table.specs.Table.{command_of}
use Rattle.cmd_table.specs.Renaming.{rename_answer}
use Rattle.cmd_table.specs.declared.renaming.Renamed.{Renamed}
use Rattle.cmd_table.specs.declared.renaming.Renamed.TheVariants.{Done as Renamed_done, NoOld, NewExists}
use Rattle.cmd_table.specs.declared.command.Cmd.{Cmd}
use Rattle.cmd_table.specs.declared.command.Cmd.TheVariants as commands
use Rattle.natives.specs.Pure.{pure_of}
use Rattle.adp_parse.specs.declared.piece.Piece.{Piece}
use Rattle.adp_parse.specs.declared.piece.Piece.TheVariants as pieces
use Rattle.adp_parse.specs.declared.piece.Pieces.{Pieces}
use Rattle.cmd_table.specs.declared.definition.Def.{Def}
use Rattle.cmd_table.specs.declared.definition.Def.TheVariants as defs
use Rattle.tcl_frame.specs.declared.fault.VarFault.{VarFault}
use Rattle.tcl_frame.specs.Frames.{pushed, popped, global_fault, globally_written}
use Rattle.tcl_varcmd.specs.Answers.{Came, gives as gives_text, fails as fails_with}
use Rattle.tcl_varcmd.specs.Commands.{begins_var_command, var_came}
use Rattle.tcl_eval.specs.declared.branch.Turning.{Turning}
use Rattle.tcl_eval.specs.declared.branch.Branches.{Branches}
use Rattle.tcl_eval.specs.declared.loops.Flow.{Flow}
use Rattle.tcl_eval.specs.declared.loops.Flow.TheVariants.{On, Ends}
use Rattle.tcl_eval.specs.declared.operation.Way.{Way}
use Rattle.tcl_eval.specs.declared.operation.Way.TheVariants.{Both, IfTrue, IfFalse}
use Rattle.tcl_eval.specs.declared.parameter.Parameter.{Parameter}
use Rattle.tcl_eval.specs.declared.stack.Ended.{Ended}
use Rattle.tcl_eval.specs.declared.stack.Evaluation.{Evaluation}
use Rattle.tcl_eval.specs.declared.verb.Verb.{Verb}
use Rattle.tcl_eval.specs.declared.verb.Verb.TheVariants as verb
use Rattle.natives.specs.Names.{has_name}
use Rattle.tcl_eval.specs.Natives.{is_in_range, replied, call_native}
use Rattle.tcl_eval.specs.State.{State, Leaf, says, wants, defines, stores, not_mine, Onward, goes, enters, TextEnd, LeafTable, Given, Out, spent, Rest, Next}
use Rattle.tcl_eval.specs.Messages.{script_fault, variable_fault, too_long, no_boolean, bad_expression, no_list, bad_value, unknown_command, no_command, command_exists}
use Rattle.tcl_eval.specs.Costs.{result_cost, command_cost, answer_cost}
use Rattle.tcl_eval.specs.Results.{error_of, wrong_words_end, element_name, read_as, stored, stored_of, return_of, raised_of, break_of, continue_of}
use Rattle.tcl_eval.specs.Parameters.{Values, parameters, bound}
use Rattle.tcl_eval.specs.Words.{arg, joined}
use Rattle.tcl_eval.specs.Going.{Source, unread, read, Inner, on_ok, pay, give, fails, limited, charged, command_end, word_end, with_host, with_frames, with_made, with_def, read_variable, write_variable, proc_end, write_all, decided, by_truth}
use Rattle.tcl_eval.specs.Pieces.{run_part, run_parts}
use Rattle.tcl_eval.specs.Commands.{rename_of, proc_of, call_bound, define_proc, do_proc, renamed_as, do_rename, do_eval, catch_end, do_catch, came_next}
use Rattle.tcl_eval.specs.Expressions.{with_one, with_two, way_of, behind_left, run_expression, run_answer, evaluate, test, value_end, do_expr}
use Rattle.tcl_eval.specs.Evaluations.{evaluation_next}
use Rattle.tcl_eval.specs.Branches.{run_body, choose, choose_of, from_condition}
use Rattle.tcl_eval.specs.Loops.{assigned, flow_of, by_flow, in_loop, between, turn_body, turns, turn_on, do_while, do_for, walk_on, over_values, over_names, do_foreach}
use Rattle.tcl_eval.specs.Switch.{options, body_for, by_pairs, by_listing, by_words, by_options}
use Rattle.tcl_eval.specs.Info.{info_said, do_info}
use Rattle.tcl_eval.specs.Eval.{verb_of, set_or_fails, set_global, make, define, is_for_host, resumed, leaf, onward, built_in, built, run_command, act, command, run_words, run_commands, run_reading, run_script, nested}
use Rattle.tcl_eval.specs.Pages.{words_script, page_end, text_end, told, piece_end, run_piece, run_pieces, run_page}
use Rattle.tcl_eval.specs.Laws.{TurnsSuffice}

either : {T : Type 0} (c : Bool) (x y x' y' : T) → x ≡ x' → y ≡ y' → cond c x y ≡ cond c x' y'
either true x y x' y' one other = one
either false x y x' y' one other = other

module _ {H : Type 0} where
  -- two rests of a run are the same at every budget up to this
  abbrev pub Alike : ℕ → Rest H → Rest H → Type 0
  Alike m r r' = (s : State H) (b : ℕ) (g : Given) → b ≤ m → r s b g ≡ r' s b g

  -- the same of what comes after a code and a result
  abbrev pub After : ℕ → Next H → Next H → Type 0
  After m k k' = (code : ℕ) (result : List ℕ) → Alike m (k code result) (k' code result)

  -- what a command may run comes to the same
  abbrev pub Runs : Inner H → Type 0
  Runs inner = (source : Source) (m : ℕ) (k k' : Next H) → After m k k' → Alike m (inner.run source k) (inner.run source k')

  choice : (c : Bool) (m : ℕ) (r1 r2 r1' r2' : Rest H) → Alike m r1 r1' → Alike m r2 r2' → Alike m (cond c r1 r2) (cond c r1' r2')
  choice true m r1 r2 r1' r2' one other = one
  choice false m r1 r2 r1' r2' one other = other

  pay_alike : (cost m : ℕ) (r r' : Rest H) → Alike m r r' → Alike m (pay cost r) (pay cost r')
  pay_alike cost m r r' h s b g le = either (nat_lt b cost) (spent s) (r s (b - cost) g) (spent s) (r' s (b - cost) g) refl (h s (b - cost) g (omega (arith, le)))

  on_ok_after : (go go' : List ℕ → Rest H) (m : ℕ) (k k' : Next H) → ((v : List ℕ) → Alike m (go v) (go' v)) → After m k k' → After m (on_ok go k) (on_ok go' k')
  on_ok_after go go' m k k' on h zero result = on result
  on_ok_after go go' m k k' on h (suc code) result = h (suc code) result

  give_alike : (value : Ended) (m : ℕ) (k k' : Next H) → After m k k' → Alike m (give value k) (give value k')
  give_alike value m k k' h = h value.code value.result

  fails_alike : (message : List ℕ) (m : ℕ) (k k' : Next H) → After m k k' → Alike m (fails message k) (fails message k')
  fails_alike message m k k' h = give_alike (error_of message) m k k' h

  charged_after : (m : ℕ) (k k' : Next H) → After m k k' → After m (charged k) (charged k')
  charged_after m k k' h code result = pay_alike (result_cost result) m (k code result) (k' code result) (h code result)

  limited_after : (m : ℕ) (k k' : Next H) → After m k k' → After m (limited k) (limited k')
  limited_after m k k' h code result = choice (is_long result) m (k 1 too_long) (k code result) (k' 1 too_long) (k' code result) (h 1 too_long) (h code result)

  command_end_after : (m : ℕ) (k k' : Next H) → After m k k' → After m (command_end k) (command_end k')
  command_end_after m k k' h = limited_after m (charged k) (charged k') (charged_after m k k' h)

  pub word_end_after : (go go' : List ℕ → Rest H) (m : ℕ) (k k' : Next H) → ((v : List ℕ) → Alike m (go v) (go' v)) → After m k k' → After m (word_end go k) (word_end go' k')
  word_end_after go go' m k k' on h =
      on_ok_after (λ v. cond (is_long v) (k 1 too_long) (go v)) (λ v. cond (is_long v) (k' 1 too_long) (go' v)) m k k'
      (λ v. choice (is_long v) m (k 1 too_long) (go v) (k' 1 too_long) (go' v) (h 1 too_long) (on v)) h

  read_variable_alike : (name : List ℕ) (m : ℕ) (k k' : Next H) → After m k k' → Alike m (read_variable name k) (read_variable name k')
  read_variable_alike name m k k' h s b g le = give_alike (read_as s.frames name) m k k' h s b g le

  write_variable_alike : (name value result : List ℕ) (m : ℕ) (k k' : Next H) → After m k k' → Alike m (write_variable name value result k) (write_variable name value result k')
  write_variable_alike name value result m k k' h s b g le =
      give_alike (stored_of s.frames name value result) m k k' h (with_frames s (stored s.frames name value)) b g le

  proc_end_after : (m : ℕ) (k k' : Next H) → After m k k' → After m (proc_end k) (proc_end k')
  proc_end_after m k k' h code result s b g le = h _ _ _ b g le

  write_all_alike : (values : Values) (go go' : Rest H) (m : ℕ) (k k' : Next H) → Alike m go go' → After m k k' → Alike m (write_all values go k) (write_all values go' k')
  write_all_alike [] go go' m k k' on h = on
  write_all_alike (v ∷ vs) go go' m k k' on h =
      write_variable_alike v.0 v.1 [] m (on_ok (λ x. write_all vs go k) k) (on_ok (λ x. write_all vs go' k') k')
      (on_ok_after (λ x. write_all vs go k) (λ x. write_all vs go' k') m k k' (λ x. write_all_alike vs go go' m k k' on h) h)

  decided_alike : (found : Option Bool) (value : List ℕ) (one one' other other' : Rest H) (m : ℕ) (k k' : Next H) → Alike m one one' → Alike m other other' → After m k k' → Alike m (decided found value one other k) (decided found value one' other' k')
  decided_alike None value one one' other other' m k k' h1 h2 h = fails_alike (no_boolean value) m k k' h
  decided_alike (Some true) value one one' other other' m k k' h1 h2 h = h1
  decided_alike (Some false) value one one' other other' m k k' h1 h2 h = h2

  by_truth_alike : (value : List ℕ) (one one' other other' : Rest H) (m : ℕ) (k k' : Next H) → Alike m one one' → Alike m other other' → After m k k' → Alike m (by_truth value one other k) (by_truth value one' other' k')
  by_truth_alike value = decided_alike (truth value) value

  -- ---- commands that run nothing

  define_proc_alike : (found : Result (List Parameter) (List ℕ)) (words : List (List ℕ)) (m : ℕ) (k k' : Next H) → After m k k' → Alike m (define_proc found words k) (define_proc found words k')
  define_proc_alike (Err message) words m k k' h = fails_alike message m k k' h
  define_proc_alike (Ok all) words m k k' h = λ s b g le. h 0 [] (with_def s (proc_of words)) b g le

  do_proc_alike : (words : List (List ℕ)) (m : ℕ) (k k' : Next H) → After m k k' → Alike m (do_proc words k) (do_proc words k')
  do_proc_alike words m k k' h =
      choice (length words == 4) m _ _ _ _ (define_proc_alike (parameters (arg words 2)) words m k k' h) (give_alike (wrong_words_end words) m k k' h)

  renamed_as_alike : (renamed : Renamed) (words : List (List ℕ)) (m : ℕ) (k k' : Next H) → After m k k' → Alike m (renamed_as renamed words k) (renamed_as renamed words k')
  renamed_as_alike Renamed_done words m k k' h = λ s b g le. h 0 [] (with_def s (rename_of words)) b g le
  renamed_as_alike NoOld words m k k' h = fails_alike (no_command (arg words 1)) m k k' h
  renamed_as_alike NewExists words m k k' h = fails_alike (command_exists (arg words 2)) m k k' h

  do_rename_alike : (words : List (List ℕ)) (m : ℕ) (k k' : Next H) → After m k k' → Alike m (do_rename words k) (do_rename words k')
  do_rename_alike words m k k' h =
      choice (length words == 3) m _ _ _ _
      (λ s b g le. renamed_as_alike (rename_answer s.commands (arg words 1) (arg words 2)) words m k k' h s b g le)
      (give_alike (wrong_words_end words) m k k' h)

  came_next_alike : (came : Came) (m : ℕ) (k k' : Next H) → After m k k' → Alike m (came_next came k) (came_next came k')
  came_next_alike (gives_text result frames) m k k' h = λ s b g le. h 0 result (with_frames s frames) b g le
  came_next_alike (fails_with message frames) m k k' h = λ s b g le. h 1 message (with_frames s frames) b g le

  do_info_alike : (words : List (List ℕ)) (m : ℕ) (k k' : Next H) → After m k k' → Alike m (do_info words k) (do_info words k')
  do_info_alike words m k k' h = λ s b g le. give_alike (info_said s.commands words) m k k' h s b g le

  replied_alike : (said : Result (List ℕ) (List ℕ)) (m : ℕ) (k k' : Next H) → After m k k' → Alike m (replied said k) (replied said k')
  replied_alike (Ok result) m k k' h = h 0 result
  replied_alike (Err message) m k k' h = h 1 message

  call_native_alike : (words : List (List ℕ)) (m : ℕ) (k k' : Next H) → After m k k' → Alike m (call_native words k) (call_native words k')
  call_native_alike words m k k' h =
      choice (is_in_range (arg words 0) words) m _ _ _ _ (replied_alike (pure_of (arg words 0) words) m k k' h) (give_alike (wrong_words_end words) m k k' h)

  catch_end_after : (name : Option (List ℕ)) (m : ℕ) (k k' : Next H) → After m k k' → After m (catch_end name k) (catch_end name k')
  catch_end_after None m k k' h code result = h 0 (decimal code)
  catch_end_after (Some name) m k k' h code result = write_variable_alike name result (decimal code) m k k' h

  by_flow_alike : (flow : Flow) (go go' : Rest H) (m : ℕ) (k k' : Next H) → Alike m go go' → After m k k' → Alike m (by_flow flow go k) (by_flow flow go' k')
  by_flow_alike On go go' m k k' on h = on
  by_flow_alike (Ends value) go go' m k k' on h = give_alike value m k k' h

  in_loop_after : (go go' : Rest H) (m : ℕ) (k k' : Next H) → Alike m go go' → After m k k' → After m (in_loop go k) (in_loop go' k')
  in_loop_after go go' m k k' on h code result = by_flow_alike (flow_of code result) go go' m k k' on h

  behind_left_alike : (way : Way) (left : List ℕ) (right right' : Rest H) (m : ℕ) (k k' : Next H) → Alike m right right' → After m k k' → Alike m (behind_left way left right k) (behind_left way left right' k')
  behind_left_alike Both left right right' m k k' on h = on
  behind_left_alike IfTrue left right right' m k k' on h = by_truth_alike left right right' (k 0 (codes "0")) (k' 0 (codes "0")) m k k' on (h 0 (codes "0")) h
  behind_left_alike IfFalse left right right' m k k' on h = by_truth_alike left (k 0 (codes "1")) (k' 0 (codes "1")) right right' m k k' (h 0 (codes "1")) on h

module _ {H : Type 0} (inner : Inner H) (run : Runs inner) where
  mutual
    pub run_part_alike : (p : Part) (m : ℕ) (k k' : Next H) → After m k k' → Alike m (run_part inner p k) (run_part inner p k')
    run_part_alike (text bytes) m k k' h = h 0 bytes
    run_part_alike (variable name) m k k' h = read_variable_alike name m k k' h
    run_part_alike (element array index) m k k' h =
        run_parts_alike index [] m (word_end (λ v. read_variable (element_name array v) k) k) (word_end (λ v. read_variable (element_name array v) k') k')
        (word_end_after (λ v. read_variable (element_name array v) k) (λ v. read_variable (element_name array v) k') m k k' (λ v. read_variable_alike (element_name array v) m k k' h) h)
    run_part_alike (bracket script) m k k' h = run (read script) m k k' h

    pub run_parts_alike : (ps : Parts) (so_far : List ℕ) (m : ℕ) (k k' : Next H) → After m k k' → Alike m (run_parts inner ps so_far k) (run_parts inner ps so_far k')
    run_parts_alike no_parts so_far m k k' h = h 0 so_far
    run_parts_alike (part p ps) so_far m k k' h =
        run_part_alike p m (on_ok (λ v. run_parts inner ps (so_far ++ v) k) k) (on_ok (λ v. run_parts inner ps (so_far ++ v) k') k')
        (on_ok_after (λ v. run_parts inner ps (so_far ++ v) k) (λ v. run_parts inner ps (so_far ++ v) k') m k k' (λ v. run_parts_alike ps (so_far ++ v) m k k' h) h)

  -- ---- expressions

  run_expression_alike : (x : Tree) (m : ℕ) (k k' : Next H) → After m k k' → Alike m (run_expression inner x k) (run_expression inner x k')
  run_expression_alike (trees.value bytes) m k k' h = h 0 bytes
  run_expression_alike (trees.word w) m k k' h =
      run_parts_alike (parts w) [] m (word_end (λ v. k 0 v) k) (word_end (λ v. k' 0 v) k') (word_end_after (λ v. k 0 v) (λ v. k' 0 v) m k k' (λ v. h 0 v) h)
  run_expression_alike (trees.unary op x) m k k' h =
      run_expression_alike x m (on_ok (λ v. give (with_one op v) k) k) (on_ok (λ v. give (with_one op v) k') k')
      (on_ok_after (λ v. give (with_one op v) k) (λ v. give (with_one op v) k') m k k' (λ v. give_alike (with_one op v) m k k' h) h)
  run_expression_alike (trees.binary op x y) m k k' h =
      let right : Next H → List ℕ → Rest H = λ n left. run_expression inner y (on_ok (λ v. give (with_two op left v) n) n) in
      let behind : Next H → List ℕ → Rest H = λ n left. behind_left (way_of op) left (right n left) n in
      run_expression_alike x m (on_ok (behind k) k) (on_ok (behind k') k')
      (on_ok_after (behind k) (behind k') m k k'
      (λ left. behind_left_alike (way_of op) left (right k left) (right k' left) m k k'
      (run_expression_alike y m (on_ok (λ v. give (with_two op left v) k) k) (on_ok (λ v. give (with_two op left v) k') k')
      (on_ok_after (λ v. give (with_two op left v) k) (λ v. give (with_two op left v) k') m k k' (λ v. give_alike (with_two op left v) m k k' h) h)) h) h)
  run_expression_alike (trees.choice x y z) m k k' h =
      let go : Next H → List ℕ → Rest H = λ n v. by_truth v (run_expression inner y n) (run_expression inner z n) n in
      run_expression_alike x m (on_ok (go k) k) (on_ok (go k') k')
      (on_ok_after (go k) (go k') m k k'
      (λ v. by_truth_alike v (run_expression inner y k) (run_expression inner y k') (run_expression inner z k) (run_expression inner z k') m k k' (run_expression_alike y m k k' h) (run_expression_alike z m k k' h) h) h)

  run_answer_alike : (bytes : List ℕ) (answer : Answer) (m : ℕ) (k k' : Next H) → After m k k' → Alike m (run_answer inner bytes answer k) (run_answer inner bytes answer k')
  run_answer_alike bytes (answers.tree x) m k k' h = run_expression_alike x m k k' h
  run_answer_alike bytes (answers.bad_from left) m k k' h = fails_alike (bad_expression (length bytes - left)) m k k' h

  evaluate_alike : (bytes : List ℕ) (m : ℕ) (k k' : Next H) → After m k k' → Alike m (evaluate inner bytes k) (evaluate inner bytes k')
  evaluate_alike bytes m k k' h =
      pay_alike 1 m (run_answer inner bytes (expression_of bytes) k) (run_answer inner bytes (expression_of bytes) k') (run_answer_alike bytes (expression_of bytes) m k k' h)

  -- an `expr` whose words are all there
  pub evaluation_alike : (evaluation : Evaluation) (m : ℕ) (k k' : Next H) → After m k k' → Alike m (evaluation_next inner evaluation k) (evaluation_next inner evaluation k')
  evaluation_alike evaluation m k k' h =
      let x : Tree = expression_tree evaluation.expr.value in
      let end : After m (command_end k) (command_end k') = command_end_after m k k' h in
      let way : Next H → Rest H = λ n. run_expression inner x (value_end (command_end n)) in
      pay_alike evaluation.cost m (pay 1 (way k)) (pay 1 (way k'))
      (pay_alike 1 m (way k) (way k')
      (run_expression_alike x m (value_end (command_end k)) (value_end (command_end k'))
      (on_ok_after (λ v. command_end k 0 (value_of v)) (λ v. command_end k' 0 (value_of v)) m (command_end k) (command_end k') (λ v. end 0 (value_of v)) end)))

  tested : (one one' other other' : Rest H) (m : ℕ) (k k' : Next H) → Alike m one one' → Alike m other other' → After m k k' → After m (on_ok (λ v. by_truth v one other k) k) (on_ok (λ v. by_truth v one' other' k') k')
  tested one one' other other' m k k' h1 h2 h =
      on_ok_after (λ v. by_truth v one other k) (λ v. by_truth v one' other' k') m k k' (λ v. by_truth_alike v one one' other other' m k k' h1 h2 h) h

  test_alike : (bytes : List ℕ) (one one' other other' : Rest H) (m : ℕ) (k k' : Next H) → Alike m one one' → Alike m other other' → After m k k' → Alike m (test inner bytes one other k) (test inner bytes one' other' k')
  test_alike bytes one one' other other' m k k' h1 h2 h =
      evaluate_alike bytes m (on_ok (λ v. by_truth v one other k) k) (on_ok (λ v. by_truth v one' other' k') k') (tested one one' other other' m k k' h1 h2 h)

  do_expr_alike : (words : List (List ℕ)) (m : ℕ) (k k' : Next H) → After m k k' → Alike m (do_expr inner words k) (do_expr inner words k')
  do_expr_alike words m k k' h =
      choice (nat_lt (length words) 2) m _ _ _ _ (give_alike (wrong_words_end words) m k k' h)
      (evaluate_alike (joined (drop 1 words)) m (value_end k) (value_end k') (on_ok_after (λ v. k 0 (value_of v)) (λ v. k' 0 (value_of v)) m k k' (λ v. h 0 (value_of v)) h))

  -- ---- choices and loops

  run_body_alike : (body : Option (List ℕ)) (m : ℕ) (k k' : Next H) → After m k k' → Alike m (run_body inner body k) (run_body inner body k')
  run_body_alike None m k k' h = h 0 []
  run_body_alike (Some body) m k k' h = run (unread body) m k k' h

  choose_alike : (clauses : List (List ℕ × List ℕ)) (last : Option (List ℕ)) (m : ℕ) (k k' : Next H) → After m k k' → Alike m (choose inner clauses last k) (choose inner clauses last k')
  choose_alike [] last m k k' h = run_body_alike last m k k' h
  choose_alike (clause ∷ clauses) last m k k' h =
      test_alike clause.0 (inner.run (unread clause.1) k) (inner.run (unread clause.1) k') (choose inner clauses last k) (choose inner clauses last k') m k k'
      (run (unread clause.1) m k k' h) (choose_alike clauses last m k k' h) h

  choose_of_alike : (found : Option Branches) (words : List (List ℕ)) (m : ℕ) (k k' : Next H) → After m k k' → Alike m (choose_of inner found words k) (choose_of inner found words k')
  choose_of_alike None words m k k' h = give_alike (wrong_words_end words) m k k' h
  choose_of_alike (Some found) words m k k' h = choose_alike found.clauses found.last m k k' h

  between_alike : (next : Option (List ℕ)) (go go' : Rest H) (m : ℕ) (k k' : Next H) → Alike m go go' → After m k k' → Alike m (between inner next go k) (between inner next go' k')
  between_alike None go go' m k k' on h = on
  between_alike (Some next) go go' m k k' on h = run (unread next) m (in_loop go k) (in_loop go' k') (in_loop_after go go' m k k' on h)

  turn_body_alike : (turning : Turning) (go go' : Rest H) (m : ℕ) (k k' : Next H) → Alike m go go' → After m k k' → Alike m (turn_body inner turning go k) (turn_body inner turning go' k')
  turn_body_alike turning go go' m k k' on h =
      let next : Rest H = between inner turning.next go k in
      let next' : Rest H = between inner turning.next go' k' in
      pay_alike 1 m (inner.run (unread turning.body) (in_loop next k)) (inner.run (unread turning.body) (in_loop next' k'))
      (run (unread turning.body) m (in_loop next k) (in_loop next' k') (in_loop_after next next' m k k' (between_alike turning.next go go' m k k' on h) h))

  turns_alike : (turning : Turning) (n m : ℕ) (k k' : Next H) → After m k k' → Alike m (turns inner turning n k) (turns inner turning n k')
  turns_alike turning zero m k k' h = λ s b g le. refl
  turns_alike turning (suc n) m k k' h =
      test_alike turning.condition (turn_body inner turning (turns inner turning n k) k) (turn_body inner turning (turns inner turning n k') k') (k 0 []) (k' 0 []) m k k'
      (turn_body_alike turning (turns inner turning n k) (turns inner turning n k') m k k' (turns_alike turning n m k k' h) h) (h 0 []) h

  turn_on_alike : (turning : Turning) (m : ℕ) (k k' : Next H) → After m k k' → Alike m (turn_on inner turning k) (turn_on inner turning k')
  turn_on_alike turning m k k' h = λ s b g le. turns_alike turning b m k k' h s b g le

  do_while_alike : (words : List (List ℕ)) (m : ℕ) (k k' : Next H) → After m k k' → Alike m (do_while inner words k) (do_while inner words k')
  do_while_alike words m k k' h =
      choice (length words == 3) m _ _ _ _ (turn_on_alike (record { condition = arg words 1; next = None; body = arg words 2 }) m k k' h) (give_alike (wrong_words_end words) m k k' h)

  do_for_alike : (words : List (List ℕ)) (m : ℕ) (k k' : Next H) → After m k k' → Alike m (do_for inner words k) (do_for inner words k')
  do_for_alike words m k k' h =
      let turning : Turning = record { condition = arg words 2; next = Some (arg words 3); body = arg words 4 } in
      choice (length words == 5) m _ _ _ _
      (run (unread (arg words 1)) m (on_ok (λ v. turn_on inner turning k) k) (on_ok (λ v. turn_on inner turning k') k')
      (on_ok_after (λ v. turn_on inner turning k) (λ v. turn_on inner turning k') m k k' (λ v. turn_on_alike turning m k k' h) h))
      (give_alike (wrong_words_end words) m k k' h)

  walk_on_alike : (names : List (List ℕ)) (body : List ℕ) (n : ℕ) (values : List (List ℕ)) (m : ℕ) (k k' : Next H) → After m k k' → Alike m (walk_on inner names body n values k) (walk_on inner names body n values k')
  walk_on_alike names body zero values m k k' h = h 0 []
  walk_on_alike names body (suc n) values m k k' h =
      let next : Next H → Rest H = λ x. walk_on inner names body n (drop (length names) values) x in
      let go : Next H → Rest H = λ x. inner.run (unread body) (in_loop (next x) x) in
      pay_alike 1 m (write_all (assigned names values) (go k) k) (write_all (assigned names values) (go k') k')
      (write_all_alike (assigned names values) (go k) (go k') m k k'
      (run (unread body) m (in_loop (next k) k) (in_loop (next k') k')
      (in_loop_after (next k) (next k') m k k' (walk_on_alike names body n (drop (length names) values) m k k' h) h)) h)

  over_values_alike : (names : List (List ℕ)) (values : Listing) (body : List ℕ) (m : ℕ) (k k' : Next H) → After m k k' → Alike m (over_values inner names values body k) (over_values inner names values body k')
  over_values_alike names (bad_at place) body m k k' h = fails_alike (no_list place) m k k' h
  over_values_alike names (elements values) body m k k' h = walk_on_alike names body (div_ceil (length values) (length names)) values m k k' h

  over_names_alike : (names : Listing) (words : List (List ℕ)) (m : ℕ) (k k' : Next H) → After m k k' → Alike m (over_names inner names words k) (over_names inner names words k')
  over_names_alike (bad_at place) words m k k' h = fails_alike (no_list place) m k k' h
  over_names_alike (elements []) words m k k' h = fails_alike (bad_value (arg words 1) (codes "foreach")) m k k' h
  over_names_alike (elements (name ∷ names)) words m k k' h = over_values_alike (name ∷ names) (lists.listing (arg words 2)) (arg words 3) m k k' h

  do_foreach_alike : (words : List (List ℕ)) (m : ℕ) (k k' : Next H) → After m k k' → Alike m (do_foreach inner words k) (do_foreach inner words k')
  do_foreach_alike words m k k' h =
      choice (length words == 4) m _ _ _ _ (over_names_alike (lists.listing (arg words 1)) words m k k' h) (give_alike (wrong_words_end words) m k k' h)

  -- ---- switch

  by_pairs_alike : (globs : Bool) (bytes : List ℕ) (pairs : List (List ℕ)) (m : ℕ) (k k' : Next H) → After m k k' → Alike m (by_pairs inner globs bytes pairs k) (by_pairs inner globs bytes pairs k')
  by_pairs_alike globs bytes pairs m k k' h =
      choice (bytes_eq (arg pairs (length pairs - 1)) (codes "-")) m _ _ _ _
      (fails_alike (bad_value (codes "-") (codes "switch")) m k k' h) (run_body_alike (body_for globs bytes pairs) m k k' h)

  by_listing_alike : (globs : Bool) (bytes list : List ℕ) (pairs : Listing) (m : ℕ) (k k' : Next H) → After m k k' → Alike m (by_listing inner globs bytes list pairs k) (by_listing inner globs bytes list pairs k')
  by_listing_alike globs bytes list (bad_at place) m k k' h = fails_alike (no_list place) m k k' h
  by_listing_alike globs bytes list (elements pairs) m k k' h =
      choice (length pairs % 2 == 0) m _ _ _ _ (by_pairs_alike globs bytes pairs m k k' h) (fails_alike (bad_value list (codes "switch")) m k k' h)

  by_words_alike : (globs : Bool) (bytes : List ℕ) (behind words : List (List ℕ)) (m : ℕ) (k k' : Next H) → After m k k' → Alike m (by_words inner globs bytes behind words k) (by_words inner globs bytes behind words k')
  by_words_alike globs bytes [] words m k k' h = give_alike (wrong_words_end words) m k k' h
  by_words_alike globs bytes (list ∷ []) words m k k' h = by_listing_alike globs bytes list (lists.listing list) m k k' h
  by_words_alike globs bytes (pattern ∷ body ∷ pairs) words m k k' h =
      choice (length pairs % 2 == 0) m _ _ _ _ (by_pairs_alike globs bytes (pattern ∷ body ∷ pairs) m k k' h) (give_alike (wrong_words_end words) m k k' h)

  by_options_alike : (found : Result (Bool × List (List ℕ)) (List ℕ)) (words : List (List ℕ)) (m : ℕ) (k k' : Next H) → After m k k' → Alike m (by_options inner found words k) (by_options inner found words k')
  by_options_alike (Err bytes) words m k k' h = fails_alike (bad_value bytes (codes "switch")) m k k' h
  by_options_alike (Ok (globs, [])) words m k k' h = give_alike (wrong_words_end words) m k k' h
  by_options_alike (Ok (globs, bytes ∷ behind)) words m k k' h = by_words_alike globs bytes behind words m k k' h

  -- ---- procedures, `eval`, `catch`

  call_bound_alike : (found : Result Values (List ℕ)) (body : List ℕ) (m : ℕ) (k k' : Next H) → After m k k' → Alike m (call_bound inner found body k) (call_bound inner found body k')
  call_bound_alike (Err message) body m k k' h = fails_alike message m k k' h
  call_bound_alike (Ok values) body m k k' h =
      let end : After m (proc_end k) (proc_end k') = proc_end_after m k k' h in
      λ s b g le. write_all_alike values (inner.run (unread body) (proc_end k)) (inner.run (unread body) (proc_end k')) m (proc_end k) (proc_end k')
      (run (unread body) m (proc_end k) (proc_end k') end) end (with_frames s (pushed s.frames)) b g le

  do_eval_alike : (words : List (List ℕ)) (m : ℕ) (k k' : Next H) → After m k k' → Alike m (do_eval inner words k) (do_eval inner words k')
  do_eval_alike words m k k' h =
      choice (nat_lt (length words) 2) m _ _ _ _ (give_alike (wrong_words_end words) m k k' h) (run (unread (joined (drop 1 words))) m k k' h)

  do_catch_alike : (words : List (List ℕ)) (m : ℕ) (k k' : Next H) → After m k k' → Alike m (do_catch inner words k) (do_catch inner words k')
  do_catch_alike words m k k' h =
      choice (length words == 2) m _ _ _ _ (run (unread (arg words 1)) m (catch_end None k) (catch_end None k') (catch_end_after None m k k' h))
      (choice (length words == 3) m _ _ _ _
      (run (unread (arg words 1)) m (catch_end (Some (arg words 2)) k) (catch_end (Some (arg words 2)) k') (catch_end_after (Some (arg words 2)) m k k' h))
      (give_alike (wrong_words_end words) m k k' h))

module _ {H : Type 0} (t : LeafTable H) (inner : Inner H) (run : Runs inner) where
  -- ---- pages

  page_end_alike : (code m : ℕ) (k k' : Next H) → After m k k' → Alike m (page_end code k) (page_end code k')
  page_end_alike code m k k' h s b g le = h code [] (with_frames s (popped s.frames)) b g le

  text_end_alike : (end : TextEnd H) (m : ℕ) (k k' : Next H) → After m k k' → Alike m (text_end end k) (text_end end k')
  text_end_alike end m k k' h s b g le = h end.code end.result (with_host s end.host) b g le

  told_alike : (code m : ℕ) (go go' : Rest H) → Alike m go go' → Alike m (told t code go) (told t code go')
  told_alike code m go go' h s b g le = h (with_host s (t.leaves code s.host)) b g le

  piece_end_after : (go go' : Rest H) (m : ℕ) (k k' : Next H) → Alike m go go' → After m k k' → After m (piece_end t go k) (piece_end t go' k')
  piece_end_after go go' m k k' on h code result =
      let all = choice ((code == 6) || (code == 7)) m (page_end code k) go (page_end code k') go' (page_end_alike code m k k' h) on in
      let one = choice ((code == 2) || (code == 5)) m (page_end 0 k) _ (page_end 0 k') _ (page_end_alike 0 m k k' h) all in
      choice (code == 0) m go _ go' _ on (told_alike code m _ _ one)

  run_piece_alike : (piece : Piece) (m : ℕ) (k k' : Next H) → After m k k' → Alike m (run_piece t inner piece k) (run_piece t inner piece k')
  run_piece_alike (pieces.Text bytes) m k k' h = λ s b g le. text_end_alike (t.texts bytes s.host) m k k' h s b g le
  run_piece_alike (pieces.Script bytes) m k k' h = run (unread bytes) m k k' h
  run_piece_alike (pieces.Words bytes) m k k' h = run (unread (words_script bytes)) m k k' h

  run_pieces_alike : (ps : List Piece) (m : ℕ) (k k' : Next H) → After m k k' → Alike m (run_pieces t inner ps k) (run_pieces t inner ps k')
  run_pieces_alike [] m k k' h = told_alike 0 m (page_end 0 k) (page_end 0 k') (page_end_alike 0 m k k' h)
  run_pieces_alike (p ∷ ps) m k k' h =
      run_piece_alike p m (piece_end t (run_pieces t inner ps k) k) (piece_end t (run_pieces t inner ps k') k')
      (piece_end_after (run_pieces t inner ps k) (run_pieces t inner ps k') m k k' (run_pieces_alike ps m k k' h) h)

  run_page_alike : (page : Pieces) (m : ℕ) (k k' : Next H) → After m k k' → Alike m (run_page t inner page k) (run_page t inner page k')
  run_page_alike page m k k' h = λ s b g le. run_pieces_alike page.list m k k' h (with_frames s (pushed s.frames)) b g le

  -- ---- the host's commands

  set_or_fails_alike : (why : Option VarFault) (name value : List ℕ) (m : ℕ) (k k' : Next H) → After m k k' → Alike m (set_or_fails why name value k) (set_or_fails why name value k')
  set_or_fails_alike None name value m k k' h s b g le = h 0 value (with_made (with_frames s (globally_written s.frames name value)) (defs.Set name value)) b g le
  set_or_fails_alike (Some why) name value m k k' h s b g le = fails_alike (variable_fault why name) m k k' h s b g le

  set_global_alike : (name value : List ℕ) (m : ℕ) (k k' : Next H) → After m k k' → Alike m (set_global name value k) (set_global name value k')
  set_global_alike name value m k k' h =
      choice (is_long value) m (k 1 too_long) _ (k' 1 too_long) _ (h 1 too_long)
      (λ s b g le. set_or_fails_alike (global_fault s.frames name) name value m k k' h s b g le)

  make_alike : (def : Def) (m : ℕ) (k k' : Next H) → After m k k' → Alike m (make def k) (make def k')
  make_alike (defs.Proc name params body) m k k' h s b g le = h 0 [] (with_made s (defs.Proc name params body)) b g le
  make_alike (defs.Rename old new) m k k' h s b g le = h 0 [] (with_made s (defs.Rename old new)) b g le
  make_alike (defs.Route method url inherit words) m k k' h s b g le = h 0 [] (with_made s (defs.Route method url inherit words)) b g le
  make_alike (defs.Filter when method pattern words) m k k' h s b g le = h 0 [] (with_made s (defs.Filter when method pattern words)) b g le
  make_alike (defs.Cleanup script) m k k' h s b g le = h 0 [] (with_made s (defs.Cleanup script)) b g le
  make_alike (defs.Set name value) m k k' h s b g le = set_global_alike name value m k k' h s b g le

  define_alike : (def : Def) (words : List (List ℕ)) (m : ℕ) (k k' : Next H) → After m k k' → Alike m (define def words k) (define def words k')
  define_alike def words m k k' h =
      choice (is_for_host def) m (make def k) (fails (unknown_command (arg words 0)) k) (make def k') (fails (unknown_command (arg words 0)) k') (make_alike def m k k' h)
      (fails_alike (unknown_command (arg words 0)) m k k' h)

  resumed_alike : (said : Onward H) (go go' : Leaf H → Out H) (m : ℕ) (k k' : Next H) → ((l : Leaf H) → go l ≡ go' l) → After m k k' → (s : State H) (b : ℕ) (g : Given) → b ≤ m → resumed t inner said go k s b g ≡ resumed t inner said go' k' s b g
  resumed_alike (goes said) go go' m k k' on h s b g le = on said
  resumed_alike (enters page host) go go' m k k' on h s b g le = run_page_alike page m k k' h (with_host s host) b g le

  leaf_alike : (words : List (List ℕ)) (said : Leaf H) (m : ℕ) (k k' : Next H) → After m k k' → (s : State H) (b : ℕ) (g : Given) → b ≤ m → leaf t inner words said k s b g ≡ leaf t inner words said k' s b g
  leaf_alike words (says code result host) m k k' h s b g le = h code result (with_host s host) b g le
  leaf_alike words (defines def host) m k k' h s b g le = define_alike def words m k k' h (with_host s host) b g le
  leaf_alike words (stores name value result host) m k k' h s b g le = write_variable_alike name value result m k k' h (with_host s host) b g le
  leaf_alike words (not_mine host) m k k' h s b g le = fails_alike (unknown_command (arg words 0)) m k k' h (with_host s host) b g le
  leaf_alike words (wants question host) m k k' h s b [] le = refl
  leaf_alike words (wants question host) m k k' h s b (answer ∷ g) le =
      let cost : ℕ = answer.1 + answer_cost answer.0 in
      let s' : State H = with_host s host in
      let less : b - cost ≤ m = omega (arith, le) in
      either (nat_lt b cost) (spent s') (onward t inner words (t.answers words answer.0 host) k s' (b - cost) g) (spent s') (onward t inner words (t.answers words answer.0 host) k' s' (b - cost) g) refl
      (resumed_alike (t.answers words answer.0 host) (λ said. leaf t inner words said k s' (b - cost) g) (λ said. leaf t inner words said k' s' (b - cost) g) m k k'
      (λ said. leaf_alike words said m k k' h s' (b - cost) g less) h s' (b - cost) g less)

module _ {H : Type 0} (ns : Names) (t : LeafTable H) (inner : Inner H) (run : Runs inner) where
  built_in_alike : (v : Verb) (words : List (List ℕ)) (m : ℕ) (k k' : Next H) → After m k k' → Alike m (built_in ns t inner v words k) (built_in ns t inner v words k')
  built_in_alike verb.Proc words m k k' h = do_proc_alike words m k k' h
  built_in_alike verb.Return words m k k' h = give_alike (return_of words) m k k' h
  built_in_alike verb.Error words m k k' h = give_alike (raised_of words) m k k' h
  built_in_alike verb.Break words m k k' h = give_alike (break_of words) m k k' h
  built_in_alike verb.Continue words m k k' h = give_alike (continue_of words) m k k' h
  built_in_alike verb.Rename words m k k' h = do_rename_alike words m k k' h
  built_in_alike verb.Eval words m k k' h = do_eval_alike inner run words m k k' h
  built_in_alike verb.Catch words m k k' h = do_catch_alike inner run words m k k' h
  built_in_alike verb.Expr words m k k' h = do_expr_alike inner run words m k k' h
  built_in_alike verb.If words m k k' h = choose_of_alike inner run (from_condition (drop 1 words)) words m k k' h
  built_in_alike verb.While words m k k' h = do_while_alike inner run words m k k' h
  built_in_alike verb.For words m k k' h = do_for_alike inner run words m k k' h
  built_in_alike verb.Foreach words m k k' h = do_foreach_alike inner run words m k k' h
  built_in_alike verb.Switch words m k k' h = by_options_alike inner run (options false (drop 1 words)) words m k k' h
  built_in_alike verb.Info words m k k' h = do_info_alike words m k k' h
  built_in_alike verb.Other words m k k' h = λ s b g le. leaf_alike t inner run words (t.calls words s.host) m k k' h s b g le

  built_alike : (words : List (List ℕ)) (m : ℕ) (k k' : Next H) → After m k k' → Alike m (built ns t inner words k) (built ns t inner words k')
  built_alike words m k k' h =
      choice (has_name ns (arg words 0)) m _ _ _ _ (call_native_alike words m k k' h)
      (choice (begins_var_command words) m _ _ _ _ (λ s b g le. came_next_alike (var_came s.frames words) m k k' h s b g le)
      (built_in_alike (verb_of (arg words 0)) words m k k' h))

  run_command_alike : (found : Option Cmd) (words : List (List ℕ)) (m : ℕ) (k k' : Next H) → After m k k' → Alike m (run_command ns t inner found words k) (run_command ns t inner found words k')
  run_command_alike None words m k k' h = fails_alike (unknown_command (arg words 0)) m k k' h
  run_command_alike (Some (commands.Built name)) words m k k' h = built_alike (name ∷ drop 1 words) m k k' h
  run_command_alike (Some (commands.Proc params body)) words m k k' h = call_bound_alike inner run (bound params (arg words 0) (drop 1 words)) body m k k' h

  act_alike : (words : List (List ℕ)) (m : ℕ) (k k' : Next H) → After m k k' → Alike m (act ns t inner words k) (act ns t inner words k')
  act_alike words m k k' h = λ s b g le. run_command_alike (command_of s.commands (arg words 0)) words m k k' h s b g le

  command_alike : (words : List (List ℕ)) (m : ℕ) (k k' : Next H) → After m k k' → Alike m (command ns t inner words k) (command ns t inner words k')
  command_alike words m k k' h =
      pay_alike (command_cost words) m (act ns t inner words (command_end k)) (act ns t inner words (command_end k'))
      (act_alike words m (command_end k) (command_end k') (command_end_after m k k' h))

  pub run_words_alike : (ws : Words) (values : List (List ℕ)) (m : ℕ) (k k' : Next H) → After m k k' → Alike m (run_words ns t inner ws values k) (run_words ns t inner ws values k')
  run_words_alike no_words values m k k' h = command_alike values m k k' h
  run_words_alike (word w ws) values m k k' h =
      let go : Next H → List ℕ → Rest H = λ x v. run_words ns t inner ws (values ++ v ∷ []) x in
      run_parts_alike inner run w [] m (word_end (go k) k) (word_end (go k') k')
      (word_end_after (go k) (go k') m k k' (λ v. run_words_alike ws (values ++ v ∷ []) m k k' h) h)

  run_commands_alike : (cs : Commands) (result : List ℕ) (m : ℕ) (k k' : Next H) → After m k k' → Alike m (run_commands ns t inner cs result k) (run_commands ns t inner cs result k')
  run_commands_alike no_commands result m k k' h = h 0 result
  run_commands_alike (tree.command c cs) result m k k' h =
      let go : Next H → List ℕ → Rest H = λ x v. run_commands ns t inner cs v x in
      run_words_alike c [] m (on_ok (go k) k) (on_ok (go k') k')
      (on_ok_after (go k) (go k') m k k' (λ v. run_commands_alike cs v m k k' h) h)

  run_reading_alike : (bytes : List ℕ) (found : parsed.Outcome Script) (m : ℕ) (k k' : Next H) → After m k k' → Alike m (run_reading ns t inner bytes found k) (run_reading ns t inner bytes found k')
  run_reading_alike bytes (parsed.done script rest) m k k' h = run_commands_alike (tree.commands script) [] m k k' h
  run_reading_alike bytes (parsed.fault kind left) m k k' h = fails_alike (script_fault kind (length bytes - left)) m k k' h

module _ {H : Type 0} (ns : Names) (t : LeafTable H) where
  pub run_script_alike : (levels : ℕ) (source : Source) (m : ℕ) (k k' : Next H) → After m k k' → Alike m (run_script ns t levels source k) (run_script ns t levels source k')
  run_script_alike zero source m k k' h = λ s b g le. refl
  run_script_alike (suc levels) (read script) m k k' h = run_commands_alike ns t (nested ns t levels) (run_script_alike levels) script [] m k k' h
  run_script_alike (suc levels) (unread bytes) m k k' h = run_reading_alike ns t (nested ns t levels) (run_script_alike levels) bytes (reading bytes) m k k' h

  -- a turn more changes nothing
  suffice : (levels : ℕ) (turning : Turning) (n : ℕ) (k : Next H) → Alike n (turns (nested ns t levels) turning n k) (turns (nested ns t levels) turning (suc n) k)
  suffice levels turning zero k s b g le =
      let inner = nested ns t levels in
      let go : Next H = on_ok (λ v. by_truth v (turn_body inner turning (turns inner turning zero k) k) (k 0 []) k) k in
      sym (ap (λ (c : Bool). cond c (spent s) (run_answer inner turning.condition (expression_of turning.condition) go s (b - 1) g)) (lt-ltb b 1 (omega (arith, le))))
  suffice levels turning (suc n) k s b g le =
      let inner = nested ns t levels in
      let one : Rest H = turn_body inner turning (turns inner turning n k) k in
      let other : Rest H = turn_body inner turning (turns inner turning (suc n) k) k in
      let go : Rest H → Next H = λ r. on_ok (λ v. by_truth v r (k 0 []) k) k in
      let same : After n k k = λ code result s b g le. refl in
      let run : Rest H → Out H = λ r. run_answer inner turning.condition (expression_of turning.condition) (go r) s (b - 1) g in
      either (nat_lt b 1) (spent s) (run one) (spent s) (run other) refl
      (run_answer_alike inner (run_script_alike levels) turning.condition (expression_of turning.condition) n (go one) (go other)
      (tested inner (run_script_alike levels) one other (k 0 []) (k 0 []) n k k
      (turn_body_alike inner (run_script_alike levels) turning (turns inner turning n k) (turns inner turning (suc n) k) n k k (suffice levels turning n k) same)
      (λ s b g le. refl) same)
      s (b - 1) g (omega (arith, le)))

pub turns_suffice : {H : Type 0} (t : LeafTable H) → TurnsSuffice t
turns_suffice t ns levels turning n k s b g le = suffice ns t levels turning n k s b g le
