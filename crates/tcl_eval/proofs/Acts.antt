-- What commands come to.
use Rattle.std.proofs.Common.{◌≡◌, ◌≢◌, ◌≤◌, ℕ, suc, ◌+◌, ◌-◌, List, [], ◌∷◌, ◌++◌, length, drop, Option, Some, None, Result, Ok, Err, ◌<◌, Bool, true, false, cond, nat_lt, refl, sym, ap, ◌∙◌, arith}
use Rattle.std.specs.Prelude.{◌==◌, if◌then◌else◌}
use Rattle.std.proofs.lemmas.Bool.{lt-ltb, le-ltb, ltb-true, ltb-false}
use Rattle.txt_core.specs.Names.{Names}
use Rattle.outside.specs.declared.question.Answer.{Answer}
use Rattle.outside.specs.declared.question.Question.{Question}
use Rattle.tcl_parse.specs.declared.tree.Script as code_script
use Rattle.tcl_parse.specs.Outcome as parsed
use Rattle.tcl_parse.specs.Tree as tree
use Rattle.tcl_parse.specs.Reading.{reading}
use Rattle.tcl_parse.specs.View.{script_of}
use Rattle.cmd_table.specs.Table.{Table, command_of}
use Rattle.cmd_table.specs.Renaming.{rename_answer, renamed, renamed_by}
use Rattle.cmd_table.specs.declared.renaming.Renamed.{Renamed}
use Rattle.cmd_table.specs.declared.renaming.Renamed.TheVariants.{NoOld, NewExists}
use Rattle.cmd_table.specs.declared.command.Cmd.{Cmd}
use Rattle.cmd_table.specs.declared.command.Cmd.TheVariants as commands
use Rattle.cmd_table.specs.declared.command.Cmd.TheVariants.{Built}
use Rattle.tcl_frame.specs.Stack.{Stack}
use Rattle.tcl_frame.specs.Frames.{pushed as pushed_frame}
use Rattle.tcl_varcmd.specs.Answers.{Came, gives as gives_text, fails as fails_with, IsAnswer}
use Rattle.natives.specs.declared.fault.Fault.TheVariants as faults
use Rattle.tcl_eval.specs.State.{State, LeafTable, Leaf, says, wants, defines, stores, not_mine, Onward, goes, enters, Given, Out, spent, Next}
use Rattle.tcl_eval.specs.Messages.{unknown_command, no_command, command_exists}
use Rattle.tcl_eval.specs.Parameters.{Values, bound}
use Rattle.cmd_table.specs.declared.definition.Def.{Def}
use Rattle.tcl_eval.specs.Eval.{Inner, unread, ended, error_of, give, fails, make, define, is_for_host, command_cost, answer_cost, arg, built, with_host, with_frames, proc_end, command_end, write_all, call_bound, call_proc, leaf, onward, run_command, act, command, run_commands, run_reading, run_script, nested, came_next, wrong_words_end, renamed_as, do_rename, catch_end, do_catch}
use Rattle.tcl_eval.specs.Places.{tree_of}
use Rattle.tcl_eval.specs.Stack.{stack_next}
use Rattle.tcl_eval.specs.Engine.{IsNoPage, Enters, PaidFor, Moves, Fell, FellTo, FellFrom, credit, IfRan, state_of, words_of, levels_of, open_words, comes_to, with_more}
use Rattle.tcl_eval.specs.declared.engine.Engine.{Engine}
use Rattle.tcl_eval.specs.declared.engine.OpenQuestion.{OpenQuestion}
use Rattle.tcl_eval.specs.declared.outcome.Outcome.{Outcome}
use Rattle.tcl_eval.specs.declared.outcome.Outcome.TheVariants.{Done, Asks, Spent, TooDeep, NoMemory}
use Rattle.tcl_host.specs.Answers.{Replies, RepliesTo}
use Rattle.tcl_host.specs.declared.host.HostReply.{HostReply}
use Rattle.tcl_host.specs.declared.host.HostReply.TheVariants as replies
use Rattle.tcl_eval.specs.Verbs.{IsRunning}
use Rattle.tcl_eval.specs.declared.verb.Verb.{Verb}
use Rattle.tcl_eval.specs.declared.verb.Verb.TheVariants.{Proc, Return, Error, Break, Continue, Rename, Eval, Catch, Expr, If, While, For, Foreach, Switch, Info, Other}
use Rattle.tcl_eval.specs.declared.stack.Acted.{Acted}
use Rattle.tcl_eval.specs.declared.stack.Acted.TheVariants as acted
use Rattle.tcl_eval.specs.declared.stack.Ended.{Ended}
use Rattle.tcl_eval.specs.declared.stack.Frame.{Frame}
use Rattle.tcl_eval.specs.declared.stack.Frame.TheVariants.{Script, Procedure, Result as Result_frame}
use Rattle.tcl_eval.proofs.Stacks.{pushed}

-- what holds of a run holds where memory didn't want
pub ran : (outcome : Outcome) (fact : Type 0) → fact → IfRan outcome fact
ran (Done code result) fact h = h
ran (Asks question) fact h = h
ran Spent fact h = h
ran TooDeep fact h = h
ran NoMemory fact h = tt

same_test : (b c n : ℕ) (v : Bool) → nat_lt b (0 + c) ≡ v → nat_lt b (0 + c) ≡ nat_lt (b + n) (n + c)
same_test b c n true e = e ∙ sym (lt-ltb (b + n) (n + c) (omega (arith, ltb-true b (0 + c) e)))
same_test b c n false e = e ∙ sym (le-ltb (b + n) (n + c) (omega (arith, ltb-false b (0 + c) e)))

module _ {H : Type 0} (ns : Names) (t : LeafTable H) where
  -- a text is a script, which begins
  pub text_step : (fs fs1 : List Frame) (script : _) (found : code_script.Script) (levels less : ℕ) (bytes : List ℕ) (value : Ended) (s : State H) (b : ℕ) (g : Given) → fs1 ≡ fs ++ Script script 0 less ∷ [] → levels ≡ suc less → value ≡ ended 0 [] → script.value ≡ found → reading bytes ≡ parsed.done (script_of found) [] → give value (stack_next ns t fs1) s b g ≡ run_script ns t levels (unread bytes) (stack_next ns t fs) s b g
  text_step fs fs1 script found levels less bytes value s b g push l is same reads =
      let k = stack_next ns t fs in
      ap (λ (v : Ended). give v (stack_next ns t fs1) s b g) is
      ∙ ap (λ (x : Next H). x 0 [] s b g) (pushed ns t fs fs1 (Script script 0 less) push)
      ∙ ap (λ (x : code_script.Script). run_commands ns t (nested ns t less) (tree_of x) [] k s b g) same
      ∙ sym (ap (λ (o : parsed.Outcome tree.Script). run_reading ns t (nested ns t less) bytes o k s b g) reads)
      ∙ sym (ap (λ (n : ℕ). run_script ns t n (unread bytes) k s b g) l)

  -- a host's state before what it said of a command, or of an answer, doesn't matter
  pub leaf_host : (inner : Inner H) (words : List (List ℕ)) (said : Leaf H) (k : Next H) (s : State H) (h : H) (b : ℕ) (g : Given) → leaf t inner words said k (with_host s h) b g ≡ leaf t inner words said k s b g
  leaf_host inner words (says code result host) k s h b g = refl
  leaf_host inner words (defines def host) k s h b g = refl
  leaf_host inner words (stores name value result host) k s h b g = refl
  leaf_host inner words (not_mine host) k s h b g = refl
  leaf_host inner words (wants question host) k s h b [] = refl
  leaf_host inner words (wants question host) k s h b (answer ∷ g) = refl

  pub onward_host : (inner : Inner H) (words : List (List ℕ)) (said : Onward H) (k : Next H) (s : State H) (h : H) (b : ℕ) (g : Given) → onward t inner words said k (with_host s h) b g ≡ onward t inner words said k s b g
  onward_host inner words (goes said) k s h b g = leaf_host inner words said k s h b g
  onward_host inner words (enters pieces host) k s h b g = refl

  -- no command has this name
  pub unknown_step : (inner : Inner H) (words : List (List ℕ)) (name bytes message : List ℕ) (value : Ended) (k : Next H) (s : State H) (b : ℕ) (g : Given) → None ≡ command_of s.commands name → name ≡ arg words 0 → bytes ≡ name → message ≡ unknown_command bytes → value ≡ error_of message → give value k s b g ≡ act ns t inner words k s b g
  unknown_step inner words name bytes message value k s b g none named same text is =
      ap (λ (v : Ended). give v k s b g) is
      ∙ ap (λ (m : List ℕ). give (error_of m) k s b g) (text ∙ ap (λ (n : List ℕ). unknown_command n) (same ∙ named))
      ∙ ap (λ (o : Option Cmd). run_command ns t inner o words k s b g) (none ∙ ap (λ (n : List ℕ). command_of s.commands n) named)

  -- a built-in has this name
  pub built_step : (inner : Inner H) (words words' : List (List ℕ)) (name own : List ℕ) (k : Next H) (s : State H) (b : ℕ) (g : Given) (x : Out H) → Some (Built own) ≡ command_of s.commands name → name ≡ arg words 0 → words' ≡ own ∷ drop 1 words → x ≡ built ns t inner words' k s b g → x ≡ act ns t inner words k s b g
  built_step inner words words' name own k s b g x some named same e =
      e ∙ ap (λ (ws : List (List ℕ)). built ns t inner ws k s b g) same
      ∙ ap (λ (o : Option Cmd). run_command ns t inner o words k s b g) (some ∙ ap (λ (n : List ℕ). command_of s.commands n) named)

  -- a procedure has this name
  pub proc_step : (inner : Inner H) (words : List (List ℕ)) (name params params' body body' : List ℕ) (k : Next H) (s : State H) (b : ℕ) (g : Given) (x : Out H) → Some (commands.Proc params body) ≡ command_of s.commands name → name ≡ arg words 0 → params' ≡ params → body' ≡ body → x ≡ call_proc inner params' body' words k s b g → x ≡ act ns t inner words k s b g
  proc_step inner words name params params' body body' k s b g x some named is same e =
      e ∙ ap (λ (p : List ℕ). call_proc inner p body' words k s b g) is
      ∙ ap (λ (p : List ℕ). call_proc inner params p words k s b g) same
      ∙ ap (λ (o : Option Cmd). run_command ns t inner o words k s b g) (some ∙ ap (λ (n : List ℕ). command_of s.commands n) named)

  -- a procedure is called, whose parameters have these values
  pub called : (inner : Inner H) (fs fs1 : List Frame) (params body : List ℕ) (words : List (List ℕ)) (values : Values) (frames : Stack) (s : State H) (b : ℕ) (g : Given) (x : Out H) → fs1 ≡ fs ++ Procedure ∷ [] → frames ≡ pushed_frame s.frames → bound params (arg words 0) (drop 1 words) ≡ Ok values → x ≡ write_all values (inner.run (unread body) (stack_next ns t fs1)) (stack_next ns t fs1) (with_frames s frames) b g → x ≡ call_proc inner params body words (stack_next ns t fs) s b g
  called inner fs fs1 params body words values frames s b g x push is found e =
      e ∙ ap (λ (k : Next H). write_all values (inner.run (unread body) k) k (with_frames s frames) b g) (pushed ns t fs fs1 Procedure push)
      ∙ ap (λ (f : Stack). write_all values (inner.run (unread body) (proc_end (stack_next ns t fs))) (proc_end (stack_next ns t fs)) (with_frames s f) b g) is
      ∙ sym (ap (λ (o : Result Values (List ℕ)). call_bound inner o body (stack_next ns t fs) s b g) found)

  -- a command is paid for, and then done
  pub paid_step : (old paid : Engine H) (fs1 : List Frame) (inner : Inner H) (words : List (List ℕ)) (cost : ℕ) (g : Given) (x : Out H) → cost ≡ command_cost words → cost ≤ old.budget → paid ≡ record old { budget = old.budget - cost } → fs1 ≡ paid.stack.items ++ Result_frame ∷ [] → x ≡ act ns t inner words (stack_next ns t fs1) (state_of paid) paid.budget g → x ≡ command ns t inner words (stack_next ns t old.stack.items) (state_of old) old.budget g
  paid_step old paid fs1 inner words cost g x costs enough is push e =
      let less : command_cost words ≤ old.budget = omega (arith, costs, enough) in
      e ∙ ap (λ (k : Next H). act ns t inner words k (state_of paid) paid.budget g) (pushed ns t paid.stack.items fs1 Result_frame push)
      ∙ ap (λ (p : Engine H). act ns t inner words (command_end (stack_next ns t p.stack.items)) (state_of p) p.budget g) is
      ∙ ap (λ (n : ℕ). act ns t inner words (command_end (stack_next ns t old.stack.items)) (state_of old) (old.budget - n) g) costs
      ∙ sym (ap (λ (c : Bool). cond c (spent (state_of old)) (act ns t inner words (command_end (stack_next ns t old.stack.items)) (state_of old) (old.budget - command_cost words) g)) (le-ltb old.budget (command_cost words) less))

  -- an answer is paid for, and then the host goes on
  pub answered_step : (old paid : Engine H) (left : Option OpenQuestion) (now : OpenQuestion) (cost : ℕ) (answer : Answer) (h : H) (question : Question) (g : Given) (x : Out H) → cost ≡ answer_cost answer → cost ≤ old.budget → paid ≡ record old { question = left; budget = old.budget - cost } → old.question ≡ Some now → x ≡ onward t (nested ns t now.levels) now.words (t.answers now.words answer paid.host) (stack_next ns t paid.stack.items) (with_host (state_of paid) h) paid.budget g → x ≡ comes_to ns t (Asks question) old ((answer, 0) ∷ g)
  answered_step old paid left now cost answer h question g x costs enough is opened e =
      let k = stack_next ns t old.stack.items in
      let all : cost ≡ 0 + answer_cost answer = omega (arith, costs) in
      let less : 0 + answer_cost answer ≤ old.budget = omega (arith, costs, enough) in
      let same : Some now ≡ old.question = sym opened in
      e ∙ onward_host (nested ns t now.levels) now.words (t.answers now.words answer paid.host) (stack_next ns t paid.stack.items) (state_of paid) h paid.budget g
      ∙ ap (λ (p : Engine H). onward t (nested ns t now.levels) now.words (t.answers now.words answer p.host) (stack_next ns t p.stack.items) (state_of p) p.budget g) is
      ∙ ap (λ (o : Option OpenQuestion). onward t (nested ns t (levels_of o)) (words_of o) (t.answers (words_of o) answer old.host) k (state_of old) (old.budget - cost) g) same
      ∙ ap (λ (n : ℕ). onward t (nested ns t (levels_of old.question)) (open_words old) (t.answers (open_words old) answer old.host) k (state_of old) (old.budget - n) g) all
      ∙ sym (ap (λ (c : Bool). cond c (spent (state_of old)) (onward t (nested ns t (levels_of old.question)) (open_words old) (t.answers (open_words old) answer old.host) k (state_of old) (old.budget - (0 + answer_cost answer)) g)) (le-ltb old.budget (0 + answer_cost answer) less))

  -- the charge, by which the budget was lowered since the question
  pub charged_step : (old : Engine H) (answer : Answer) (question : Question) (charge : ℕ) (g : Given) (x : Out H) → x ≡ comes_to ns t (Asks question) old ((answer, 0) ∷ g) → x ≡ comes_to ns t (Asks question) (with_more old charge) ((answer, charge) ∷ g)
  charged_step old answer question charge g x e =
      let said = t.answers (open_words old) answer old.host in
      let k = stack_next ns t old.stack.items in
      let inner = nested ns t (levels_of old.question) in
      let left : old.budget - (0 + answer_cost answer) ≡ (old.budget + charge) - (charge + answer_cost answer) = omega arith in
      e ∙ ap (λ (c : Bool). cond c (spent (state_of old)) (onward t inner (open_words old) said k (state_of old) (old.budget - (0 + answer_cost answer)) g)) (same_test old.budget (answer_cost answer) charge (nat_lt old.budget (0 + answer_cost answer)) refl)
      ∙ ap (λ (n : ℕ). cond (nat_lt (old.budget + charge) (charge + answer_cost answer)) (spent (state_of old)) (onward t inner (open_words old) said k (state_of old) n g)) left

-- ---- what a host says

-- a command's reply enters no page
pub no_page : {H : Type 0} → (reply : HostReply) (host : H) (said : Leaf H) → Replies reply host said → IsNoPage reply
no_page (replies.Done code result) host said h = tt
no_page (replies.Ask question) host said h = tt
no_page (replies.Enter pieces) host said h = absurd h
no_page (replies.Define def) host said h = tt
no_page (replies.Store name value result) host said h = tt
no_page replies.NotMine host said h = tt
no_page replies.NoMemory host said h = tt

-- what it says of a command it may say of an answer
pub said_onward : {H : Type 0} → (reply : HostReply) (host : H) (said : Leaf H) → Replies reply host said → RepliesTo reply host (goes said)
said_onward (replies.Done code result) host said h = ap goes h
said_onward (replies.Ask question) host said h = ap goes h
said_onward (replies.Enter pieces) host said h = absurd h
said_onward (replies.Define def) host said h = ap goes h
said_onward (replies.Store name value result) host said h = ap goes h
said_onward replies.NotMine host said h = ap goes h
said_onward replies.NoMemory host said h = tt

-- ---- commands on variables

module _ {H : Type 0} where
  pub came_ok : (came : Came) (result : List ℕ) (new : Stack) (k : Next H) (s : State H) (b : ℕ) (g : Given) → IsAnswer (Ok result) came new → k 0 result (with_frames s new) b g ≡ came_next came k s b g
  came_ok (gives_text text frames) result new k s b g h =
      ap (λ (x : List ℕ). k 0 x (with_frames s new) b g) h.0 ∙ ap (λ (f : Stack). k 0 text (with_frames s f) b g) h.1
  came_ok (fails_with text frames) result new k s b g h = absurd h

  pub came_error : (came : Came) (message : List ℕ) (value : Ended) (new : Stack) (k : Next H) (s : State H) (b : ℕ) (g : Given) → IsAnswer (Err (faults.Error message)) came new → value ≡ ended 1 message → give value k (with_frames s new) b g ≡ came_next came k s b g
  came_error (gives_text text frames) message value new k s b g h is = absurd h
  came_error (fails_with text frames) message value new k s b g h is =
      ap (λ (v : Ended). give v k (with_frames s new) b g) is
      ∙ ap (λ (x : List ℕ). k 1 x (with_frames s new) b g) h.0 ∙ ap (λ (f : Stack). k 1 text (with_frames s f) b g) h.1

-- ---- renames and what is caught

-- a rename that is refused changes nothing
kept_without_old : (t : Table) (old new : List ℕ) → NoOld ≡ rename_answer t old new → renamed t old new ≡ t
unfolding renamed
kept_without_old t old new e = ap (λ (a : Renamed). renamed_by t a (command_of t old) old new) (sym e)

kept_with_new : (t : Table) (old new : List ℕ) → NewExists ≡ rename_answer t old new → renamed t old new ≡ t
unfolding renamed
kept_with_new t old new e = ap (λ (a : Renamed). renamed_by t a (command_of t old) old new) (sym e)

module _ {H : Type 0} where
  -- a rename comes to what is answered
  rename_to : (words : List (List ℕ)) (old new : List ℕ) (answer : Renamed) (k : Next H) (s : State H) (b : ℕ) (g : Given) → length words ≡ 3 → old ≡ arg words 1 → new ≡ arg words 2 → answer ≡ rename_answer s.commands old new → renamed_as answer words k s b g ≡ do_rename words k s b g
  rename_to words old new answer k s b g three olds news is =
      ap (λ (a : Renamed). renamed_as a words k s b g) (is ∙ ap (λ (x : List ℕ). rename_answer s.commands x new) olds ∙ ap (λ (x : List ℕ). rename_answer s.commands (arg words 1) x) news)
      ∙ sym (ap (λ (n : ℕ). (if n == 3 then (λ state. renamed_as (rename_answer state.commands (arg words 1) (arg words 2)) words k state) else give (wrong_words_end words) k) s b g) three)

  pub rename_without_old : (words : List (List ℕ)) (old new bytes message : List ℕ) (value : Ended) (commands : Table) (k : Next H) (s : State H) (b : ℕ) (g : Given) → length words ≡ 3 → old ≡ arg words 1 → new ≡ arg words 2 → NoOld ≡ rename_answer s.commands old new → commands ≡ renamed s.commands old new → bytes ≡ old → message ≡ no_command bytes → value ≡ error_of message → give value k (record s { commands = commands }) b g ≡ do_rename words k s b g
  rename_without_old words old new bytes message value commands k s b g three olds news answer same named text is =
      ap (λ (v : Ended). give v k (record s { commands = commands }) b g) (is ∙ ap (λ (m : List ℕ). error_of m) (text ∙ ap (λ (n : List ℕ). no_command n) (named ∙ olds)))
      ∙ ap (λ (t : Table). give (error_of (no_command (arg words 1))) k (record s { commands = t }) b g) (same ∙ kept_without_old s.commands old new answer)
      ∙ rename_to words old new NoOld k s b g three olds news answer

  pub rename_with_new : (words : List (List ℕ)) (old new bytes message : List ℕ) (value : Ended) (commands : Table) (k : Next H) (s : State H) (b : ℕ) (g : Given) → length words ≡ 3 → old ≡ arg words 1 → new ≡ arg words 2 → NewExists ≡ rename_answer s.commands old new → commands ≡ renamed s.commands old new → bytes ≡ new → message ≡ command_exists bytes → value ≡ error_of message → give value k (record s { commands = commands }) b g ≡ do_rename words k s b g
  rename_with_new words old new bytes message value commands k s b g three olds news answer same named text is =
      ap (λ (v : Ended). give v k (record s { commands = commands }) b g) (is ∙ ap (λ (m : List ℕ). error_of m) (text ∙ ap (λ (n : List ℕ). command_exists n) (named ∙ news)))
      ∙ ap (λ (t : Table). give (error_of (command_exists (arg words 2))) k (record s { commands = t }) b g) (same ∙ kept_with_new s.commands old new answer)
      ∙ rename_to words old new NewExists k s b g three olds news answer

  -- a `catch` with no variable, and with one
  pub catch_two : (inner : Inner H) (words : List (List ℕ)) (k : Next H) (s : State H) (b : ℕ) (g : Given) (x : Out H) → length words ≡ 2 → x ≡ inner.run (unread (arg words 1)) (catch_end None k) s b g → x ≡ do_catch inner words k s b g
  catch_two inner words k s b g x two e =
      e ∙ sym (ap (λ (n : ℕ). (if n == 2 then inner.run (unread (arg words 1)) (catch_end None k) else if n == 3 then inner.run (unread (arg words 1)) (catch_end (Some (arg words 2)) k) else give (wrong_words_end words) k) s b g) two)

  pub catch_three : (inner : Inner H) (words : List (List ℕ)) (name : List ℕ) (k : Next H) (s : State H) (b : ℕ) (g : Given) (x : Out H) → length words ≡ 3 → name ≡ arg words 2 → x ≡ inner.run (unread (arg words 1)) (catch_end (Some name) k) s b g → x ≡ do_catch inner words k s b g
  catch_three inner words name k s b g x three named e =
      e ∙ ap (λ (n : List ℕ). inner.run (unread (arg words 1)) (catch_end (Some n) k) s b g) named
      ∙ sym (ap (λ (n : ℕ). (if n == 2 then inner.run (unread (arg words 1)) (catch_end None k) else if n == 3 then inner.run (unread (arg words 1)) (catch_end (Some (arg words 2)) k) else give (wrong_words_end words) k) s b g) three)

  -- a definition that isn't the host's to make
  pub undefined_step : (def : Def) (words : List (List ℕ)) (first message : List ℕ) (value : Ended) (k : Next H) (s : State H) (b : ℕ) (g : Given) → is_for_host def ≡ false → first ≡ arg words 0 → message ≡ unknown_command first → value ≡ error_of message → give value k s b g ≡ define def words k s b g
  undefined_step def words first message value k s b g not_its named text is =
      ap (λ (v : Ended). give v k s b g) (is ∙ ap (λ (m : List ℕ). error_of m) (text ∙ ap (λ (n : List ℕ). unknown_command n) named))
      ∙ sym (ap (λ (c : Bool). (cond c (make def k) (fails (unknown_command (arg words 0)) k)) s b g) not_its)

-- a built-in that isn't one of these is the host's
pub host_verb : (verb : Verb) → IsRunning verb → verb ≢ Eval → verb ≢ Catch → verb ≢ Expr → verb ≢ If → verb ≢ While → verb ≢ For → verb ≢ Foreach → verb ≢ Switch → verb ≡ Other
host_verb Proc r a b c d e f g h = absurd r
host_verb Return r a b c d e f g h = absurd r
host_verb Error r a b c d e f g h = absurd r
host_verb Break r a b c d e f g h = absurd r
host_verb Continue r a b c d e f g h = absurd r
host_verb Rename r a b c d e f g h = absurd r
host_verb Eval r a b c d e f g h = absurd (a refl)
host_verb Catch r a b c d e f g h = absurd (b refl)
host_verb Expr r a b c d e f g h = absurd (c refl)
host_verb If r a b c d e f g h = absurd (d refl)
host_verb While r a b c d e f g h = absurd (e refl)
host_verb For r a b c d e f g h = absurd (f refl)
host_verb Foreach r a b c d e f g h = absurd (g refl)
host_verb Switch r a b c d e f g h = absurd (h refl)
host_verb Info r a b c d e f g h = absurd r
host_verb Other r a b c d e f g h = refl

module _ {H : Type 0} where
  -- a command that is paid for
  pub paid_moves : (a : Acted) (new old : Engine H) → PaidFor a new old → Moves a 0 new old
  paid_moves (acted.Gives value) new old h = (omega (arith, h.0), omega (arith, h.1))
  paid_moves (acted.Asks question) new old h = h
  paid_moves acted.TooDeep new old h = h
  paid_moves acted.Spent new old h = h

  -- a choice or a loop that goes on
  pub entered_moves : (a : Acted) (free : ℕ) (new old : Engine H) → Enters a (credit new < credit old + free) → new.budget ≤ old.budget → Moves a free new old
  entered_moves (acted.Gives value) free new old h lower = (lower, h)
  entered_moves (acted.Asks question) free new old h lower = absurd h
  entered_moves acted.TooDeep free new old h lower = lower
  entered_moves acted.Spent free new old h lower = lower

  -- what a run begins with that asks nothing
  pub fell_entered : (a : Acted) (engine : Engine H) (budget : ℕ) (fact : Type 0) → Enters a fact → engine.budget ≤ budget → Fell a engine budget
  fell_entered (acted.Gives value) engine budget fact h lower = lower
  fell_entered (acted.Asks question) engine budget fact h lower = absurd h
  fell_entered acted.TooDeep engine budget fact h lower = lower
  fell_entered acted.Spent engine budget fact h lower = lower

  -- or that was paid for
  pub fell_paid : (a : Acted) (new old : Engine H) → PaidFor a new old → Fell a new old.budget
  fell_paid (acted.Gives value) new old h = omega (arith, h.0)
  fell_paid (acted.Asks question) new old h = h
  fell_paid acted.TooDeep new old h = h
  fell_paid acted.Spent new old h = h

  fell_less : (o : Outcome) (engine : Engine H) (less more : ℕ) → less ≤ more → FellTo o engine less → FellTo o engine more
  fell_less (Done code result) engine less more le h = omega (arith, le, h)
  fell_less (Asks question) engine less more le h = omega (arith, le, h)
  fell_less Spent engine less more le h = omega (arith, le, h)
  fell_less TooDeep engine less more le h = omega (arith, le, h)
  fell_less NoMemory engine less more le h = omega (arith, le, h)

  -- and what the run comes to
  pub fell_on : (a : Acted) (o : Outcome) (new mid : Engine H) (budget : ℕ) → FellFrom a o new mid → Fell a mid budget → FellTo o new budget
  fell_on (acted.Gives value) o new mid budget h f = fell_less o new mid.budget budget f h
  fell_on (acted.Asks question) o new mid budget h f = rw (h.0, h.1) f
  fell_on acted.TooDeep o new mid budget h f = rw (h.0, h.1) f
  fell_on acted.Spent o new mid budget h f = rw (h.0, h.1) f

  -- where memory didn't want, the budget didn't rise
  pub fell_lower : (o : Outcome) (engine : Engine H) (budget : ℕ) → FellTo o engine budget → IfRan o (engine.budget ≤ budget)
  fell_lower (Done code result) engine budget h = h
  fell_lower (Asks question) engine budget h = omega (arith, h)
  fell_lower Spent engine budget h = h
  fell_lower TooDeep engine budget h = h
  fell_lower NoMemory engine budget h = tt
