-- Calls of procedures.
use Rattle.std.proofs.Common.{◌≡◌, ◌≤◌, ℕ, ◌-◌, List, [], ◌∷◌, ◌++◌, drop, Bool, Option, Result, Ok, Err, cond, sym, ap, ◌∙◌, arith}
use Rattle.std.proofs.lemmas.Bool.{le-ltb}
use Rattle.txt_core.specs.Names.{Names}
use Rattle.cmd_table.specs.declared.command.Cmd.{Cmd}
use Rattle.tcl_frame.specs.Stack.{Stack}
use Rattle.tcl_frame.specs.Frames.{pushed as pushed_frame}
use Rattle.tcl_eval.specs.Parameters.{Values, bound}
use Rattle.tcl_eval.specs.State.{State, LeafTable, Given, Out, Rest, Next, spent}
use Rattle.tcl_eval.specs.Eval.{Inner, act, arg, call_bound, call_proc, command, command_cost, command_end, error_of, give, proc_end, run_command, unread, with_frames, write_all}
use Rattle.tcl_eval.specs.Calls.{IsCalled}
use Rattle.tcl_eval.specs.Stack.{stack_next}
use Rattle.tcl_eval.specs.Straight.{Alike}
use Rattle.tcl_eval.specs.Engine.{state_of}
use Rattle.tcl_eval.specs.declared.call.Called.{Called}
use Rattle.tcl_eval.specs.declared.engine.Engine.{Engine}
use Rattle.tcl_eval.specs.declared.stack.Ended.{Ended}
use Rattle.tcl_eval.specs.declared.loop_turns.Ran.{Ran}
use Rattle.tcl_eval.specs.declared.stack.Frame.{Frame}
use Rattle.tcl_eval.specs.declared.stack.Frame.TheVariants.{ProcedureResult}
use Rattle.tcl_eval.specs.Turns.{ran_next}
use Rattle.tcl_eval.proofs.Stacks.{pushed}

module _ {H : Type 0} (ns : Names) (t : LeafTable H) where
  -- a call of a procedure is paid for, and then done
  pub paid_call : (old paid : Engine H) (inner : Inner H) (words : List (List ℕ)) (called : Called) (cost : ℕ) (g : Given) (x : Out H) → cost ≡ command_cost words → cost ≤ old.budget → paid ≡ record old { budget = old.budget - cost } → IsCalled old.table.table words called → x ≡ call_proc inner called.params called.body words (command_end (stack_next ns t paid.stack.items)) (state_of paid) paid.budget g → x ≡ command ns t inner words (stack_next ns t old.stack.items) (state_of old) old.budget g
  paid_call old paid inner words called cost g x costs enough is found e =
      let less : command_cost words ≤ old.budget = omega (arith, costs, enough) in
      let k : Next H = command_end (stack_next ns t old.stack.items) in
      e
      ∙ ap (λ (p : Engine H). call_proc inner called.params called.body words (command_end (stack_next ns t p.stack.items)) (state_of p) p.budget g) is
      ∙ ap (λ (n : ℕ). call_proc inner called.params called.body words k (state_of old) (old.budget - n) g) costs
      ∙ sym (ap (λ (o : Option Cmd). run_command ns t inner o words k (state_of old) (old.budget - command_cost words) g) found)
      ∙ sym (ap (λ (c : Bool). cond c (spent (state_of old)) (act ns t inner words k (state_of old) (old.budget - command_cost words) g)) (le-ltb old.budget (command_cost words) less))

  -- the parameters of a procedure don't take the words of its call
  pub refused_call : (inner : Inner H) (params body : List ℕ) (words : List (List ℕ)) (message : List ℕ) (value : Ended) (k : Next H) (s : State H) (b : ℕ) (g : Given) (x : Out H) → bound params (arg words 0) (drop 1 words) ≡ Err message → value ≡ error_of message → x ≡ give value k s b g → x ≡ call_proc inner params body words k s b g
  refused_call inner params body words message value k s b g x found is e =
      e ∙ ap (λ (v : Ended). give v k s b g) is
      ∙ sym (ap (λ (o : Result Values (List ℕ)). call_bound inner o body k s b g) found)

  -- they take them
  pub taken_call : (inner : Inner H) (params body : List ℕ) (words : List (List ℕ)) (values : Values) (k : Next H) (s : State H) (b : ℕ) (g : Given) (x : Out H) → bound params (arg words 0) (drop 1 words) ≡ Ok values → x ≡ call_bound inner (Ok values) body k s b g → x ≡ call_proc inner params body words k s b g
  taken_call inner params body words values k s b g x found e =
      e ∙ sym (ap (λ (o : Result Values (List ℕ)). call_bound inner o body k s b g) found)

  -- the body of a procedure is run, whose parameters have these values
  pub body_call : (inner : Inner H) (old new : Engine H) (frames : Stack) (body : List ℕ) (values : Values) (way : Next H → Rest H) (g : Given) (x : Out H) → frames ≡ pushed_frame old.frames → Alike new (record old { frames = frames }) way (λ k. write_all values (inner.run (unread body) k) k) → new.stack ≡ old.stack → x ≡ way (proc_end (command_end (stack_next ns t new.stack.items))) (state_of new) new.budget g → x ≡ call_bound inner (Ok values) body (command_end (stack_next ns t old.stack.items)) (state_of old) old.budget g
  body_call inner old new frames body values way g x is alike same e =
      let end : List Frame → Next H = λ items. proc_end (command_end (stack_next ns t items)) in
      let from : Stack → List Frame → Out H = λ f items. write_all values (inner.run (unread body) (end items)) (end items) (with_frames (state_of old) f) old.budget g in
      e
      ∙ alike (end new.stack.items) g
      ∙ ap (λ stack. from frames stack.items) same
      ∙ ap (λ (f : Stack). from f old.stack.items) is

  -- what is left of a body stands on the stack
  pub call_pushed : (fs fs1 : List Frame) (ran : Ran) (s : State H) (b : ℕ) (g : Given) → fs1 ≡ fs ++ ProcedureResult ∷ [] → ran_next ns t ran (stack_next ns t fs1) s b g ≡ ran_next ns t ran (proc_end (command_end (stack_next ns t fs))) s b g
  call_pushed fs fs1 ran s b g push = ap (λ (x : Next H). ran_next ns t ran x s b g) (pushed ns t fs fs1 ProcedureResult push)
