-- Commands that come to a value straight away.
use Rattle.std.proofs.Common.{◌≡◌, ◌≢◌, ◌≤◌, ℕ, zero, suc, ◌+◌, ◌-◌, List, [], ◌∷◌, ◌++◌, drop, length, Bool, true, false, cond, Option, Some, refl, sym, ap, ◌∙◌, arith, subst}
use Rattle.std.specs.Prelude.{slice_get, unwrap_or}
use Rattle.txt_core.specs.Names.{Names}
use Rattle.tcl_parse.specs.Tree.{Words, no_words, Commands}
use Rattle.cmd_table.specs.Table.{Table, command_of}
use Rattle.cmd_table.specs.declared.command.Cmd.{Cmd}
use Rattle.cmd_table.specs.declared.command.Cmd.TheVariants.{Built}
use Rattle.natives.specs.Names.{has_name}
use Rattle.tcl_varcmd.specs.Commands.{begins_var_command, var_came}
use Rattle.tcl_eval.specs.State.{State, LeafTable, Given, Out, Rest, Next}
use Rattle.tcl_eval.specs.Eval.{Inner, act, arg, built, built_in, call_native, came_next, ended, give, on_ok, run_command, run_commands, run_words, verb_of}
use Rattle.tcl_eval.specs.Places.{command_at, commands_from, commands_size, words_size, HasCommand}
use Rattle.tcl_eval.specs.Straight.{IfExpr, IfGives, IfLeft, IsOwn, behind_command}
use Rattle.tcl_eval.specs.declared.straight.Straight.{Straight}
use Rattle.tcl_eval.specs.declared.straight.Straight.TheVariants as straight
use Rattle.tcl_eval.specs.declared.stack.Ended.{Ended}
use Rattle.tcl_parse.specs.declared.tree.Script as code_script
use Rattle.tcl_eval.specs.Eval.{nested}
use Rattle.tcl_eval.specs.Places.{tree_of}
use Rattle.tcl_eval.specs.Straight.{Alike}
use Rattle.tcl_eval.specs.Stack.{stack_next}
use Rattle.tcl_eval.specs.Engine.{Same, state_of}
use Rattle.tcl_eval.specs.declared.engine.Engine.{Engine}
use Rattle.tcl_eval.specs.declared.stack.Frame.{Frame}
use Rattle.tcl_eval.specs.declared.stack.Frame.TheVariants.{Script}
use Rattle.std.proofs.lemmas.Bool.{le-ltb}
use Rattle.tcl_expr.specs.Reading.{expression_of}
use Rattle.tcl_eval.specs.State.{spent}
use Rattle.tcl_eval.specs.Eval.{command_cost, command_end, joined, wrong_words_end}
use Rattle.tcl_eval.specs.Expressions.{evaluate, run_answer, value_end, whole_value}
use Rattle.tcl_eval.specs.declared.verb.Verb.{Verb}
use Rattle.tcl_eval.specs.declared.verb.Verb.TheVariants.{Expr}
use Rattle.tcl_eval.proofs.Alike.{Runs, run_words_alike}
use Rattle.tcl_eval.proofs.Stacks.{pushed}
use Rattle.tcl_eval.proofs.Steps.{other_code, handed_on}

-- a first word that is a built-in's own name
pub own_first : (commands : Table) (ws : List (List ℕ)) (first : List ℕ) → Some first ≡ slice_get ws 0 → command_of commands first ≡ Some (Built first) → IsOwn commands ws
own_first commands [] first there own = absurd (cc)
own_first commands (w ∷ ws) first there own =
    (subst (λ (n : List ℕ). command_of commands n ≡ Some (Built n)) (ap (λ (o : Option (List ℕ)). unwrap_or o first) there) own, refl)

-- what is known of a value is known in another way
pub same_gives : (what : Straight) (known wanted : Ended → Type 0) → ((v : Ended) → known v → wanted v) → IfGives what known → IfGives what wanted
same_gives (straight.Gives v) known wanted f h = f v h
same_gives straight.Expr known wanted f h = tt
same_gives straight.Other known wanted f h = tt

-- what is known of an `expr` is known in another way
pub same_expr : (what : Straight) (known wanted : Type 0) → (known → wanted) → IfExpr what known → IfExpr what wanted
same_expr (straight.Gives v) known wanted f h = tt
same_expr straight.Expr known wanted f h = f h
same_expr straight.Other known wanted f h = tt

-- what holds anyhow holds where nothing was done
pub left_so : (what : Straight) (fact : Type 0) → fact → IfLeft what fact
left_so (straight.Gives v) fact h = tt
left_so straight.Expr fact h = h
left_so straight.Other fact h = h

module _ {H : Type 0} (ns : Names) (t : LeafTable H) where
  -- a command on variables
  pub variable_built : (inner : Inner H) (words : List (List ℕ)) (k : Next H) (s : State H) (b : ℕ) (g : Given) (x : Out H) → has_name ns (arg words 0) ≡ false → begins_var_command words ≡ true → x ≡ came_next (var_came s.frames words) k s b g → x ≡ built ns t inner words k s b g
  variable_built inner words k s b g x miss is e =
      let way : Bool → Rest H = λ c. cond c (λ (state : State H). came_next (var_came state.frames words) k state) (built_in ns t inner (verb_of (arg words 0)) words k) in
      e ∙ sym (ap (λ (c : Bool). way c s b g) is)
      ∙ sym (ap (λ (c : Bool). (cond c (call_native words k) (way (begins_var_command words))) s b g) miss)

  -- a built-in that ends what is under way
  pub end_built : (inner : Inner H) (words : List (List ℕ)) (k : Next H) (s : State H) (b : ℕ) (g : Given) (x : Out H) → has_name ns (arg words 0) ≡ false → begins_var_command words ≡ false → x ≡ built_in ns t inner (verb_of (arg words 0)) words k s b g → x ≡ built ns t inner words k s b g
  end_built inner words k s b g x miss none e =
      let way : Bool → Rest H = λ c. cond c (λ (state : State H). came_next (var_came state.frames words) k state) (built_in ns t inner (verb_of (arg words 0)) words k) in
      e ∙ sym (ap (λ (c : Bool). way c s b g) none)
      ∙ sym (ap (λ (c : Bool). (cond c (call_native words k) (way (begins_var_command words))) s b g) miss)

  -- a built-in is called by its own name
  pub own_act : (inner : Inner H) (words : List (List ℕ)) (k : Next H) (s : State H) (b : ℕ) (g : Given) (x : Out H) → IsOwn s.commands words → x ≡ built ns t inner words k s b g → x ≡ act ns t inner words k s b g
  own_act inner words k s b g x own e =
      e ∙ ap (λ (ws : List (List ℕ)). built ns t inner ws k s b g) own.1
      ∙ sym (ap (λ (o : Option Cmd). run_command ns t inner o words k s b g) own.0)

  -- the command at a place of a script is next
  pub next_from : (inner : Inner H) (cs : Commands) (at : ℕ) (result : List ℕ) (k : Next H) (s : State H) (b : ℕ) (g : Given) (x : Out H) → HasCommand true at cs → x ≡ run_words ns t inner (command_at at cs) [] (behind_command ns t inner cs at k) s b g → x ≡ run_commands ns t inner (commands_from at cs) result k s b g
  next_from inner cs at result k s b g x here e =
      e ∙ sym (ap (λ (c : Commands). run_commands ns t inner c result k s b g) here)

  -- where a command comes next, the value before it is let go
  pub any_value : (inner : Inner H) (cs : Commands) (at : ℕ) (value : Ended) (k : Next H) (s : State H) (b : ℕ) (g : Given) → value.code ≡ 0 → HasCommand true at cs → run_commands ns t inner (commands_from at cs) [] k s b g ≡ on_ok (λ result. run_commands ns t inner (commands_from at cs) result k) k value.code value.result s b g
  any_value inner cs at value k s b g z here =
      ap (λ (c : Commands). run_commands ns t inner c [] k s b g) here
      ∙ sym (ap (λ (c : Commands). run_commands ns t inner c value.result k s b g) here)
      ∙ sym (ap (λ (n : ℕ). on_ok (λ result. run_commands ns t inner (commands_from at cs) result k) k n value.result s b g) z)

  -- a script without a command ends well with the empty result
  pub none_at_all : (inner : Inner H) (cs : Commands) (at : ℕ) (value : Ended) (k : Next H) (s : State H) (b : ℕ) (g : Given) → value ≡ ended 0 [] → HasCommand false at cs → give value k s b g ≡ run_commands ns t inner (commands_from at cs) [] k s b g
  none_at_all inner cs at value k s b g is none =
      ap (λ (v : Ended). give v k s b g) is
      ∙ sym (ap (λ (c : Commands). run_commands ns t inner c [] k s b g) none)

  -- no command is left
  pub none_left : (inner : Inner H) (cs : Commands) (at : ℕ) (value : Ended) (k : Next H) (s : State H) (b : ℕ) (g : Given) → value.code ≡ 0 → HasCommand false at cs → give value k s b g ≡ on_ok (λ result. run_commands ns t inner (commands_from at cs) result k) k value.code value.result s b g
  none_left inner cs at value k s b g z none =
      ap (λ (n : ℕ). k n value.result s b g) z
      ∙ sym (ap (λ (c : Commands). run_commands ns t inner c value.result k s b g) none)
      ∙ sym (ap (λ (n : ℕ). on_ok (λ result. run_commands ns t inner (commands_from at cs) result k) k n value.result s b g) z)

module _ {H : Type 0} (ns : Names) (t : LeafTable H) where
  -- what is alike whatever comes next is the same above one stack
  pub alike_same : (new old : Engine H) (new_way old_way : Next H → Rest H) → Alike new old new_way old_way → new.stack ≡ old.stack → Same ns t new old new_way old_way
  alike_same new old new_way old_way alike same = λ given.
      alike (stack_next ns t new.stack.items) given
      ∙ ap (λ stack. old_way (stack_next ns t stack.items) (state_of old) old.budget given) same

  -- a script waits on the stack for the command that goes on
  pub waits_behind : (fs fs1 : List Frame) (script : code_script.Script) (again : _) (at levels : ℕ) (way : Next H → Rest H) (s : State H) (b : ℕ) (g : Given) → fs1 ≡ fs ++ Script again (at + 1) levels ∷ [] → again.value ≡ script → way (stack_next ns t fs1) s b g ≡ way (behind_command ns t (nested ns t levels) (tree_of script) at (stack_next ns t fs)) s b g
  waits_behind fs fs1 script again at levels way s b g push same =
      let inner = nested ns t levels in
      let k = stack_next ns t fs in
      ap (λ (x : Next H). way x s b g) (pushed ns t fs fs1 (Script again (at + 1) levels) push)
      ∙ ap (λ (x : code_script.Script). way (on_ok (λ v. run_commands ns t inner (commands_from (at + 1) (tree_of x)) v k) k) s b g) same

  -- nothing waits for the last command
  pub last_behind : (inner : Inner H) (run : Runs inner) (cs : Commands) (at : ℕ) (ws : Words) (values : List (List ℕ)) (k : Next H) (s : State H) (b : ℕ) (g : Given) → HasCommand false (at + 1) cs → run_words ns t inner ws values k s b g ≡ run_words ns t inner ws values (behind_command ns t inner cs at k) s b g
  last_behind inner run cs at ws values k s b g none =
      run_words_alike ns t inner run ws values b k (on_ok (λ v. k 0 v) k) (handed_on k b) s b g (omega arith)
      ∙ sym (ap (λ (c : Commands). run_words ns t inner ws values (on_ok (λ v. run_commands ns t inner c v k) k) s b g) none)

-- behind another code than 0 nothing more is run
module _ {H : Type 0} where
  pub ended_so : (go : List ℕ → Next H → Rest H) (k : Next H) (value : Ended) (s : State H) (b : ℕ) (g : Given) → value.code ≢ 0 → give value k s b g ≡ on_ok (λ v. go v k) k value.code value.result s b g
  ended_so go k value s b g other = other_code (λ v. go v k) k value.code value.result s b g other

-- how much is left behind a command
pub less_left : (cs : Commands) (at : ℕ) → HasCommand true at cs → commands_size (commands_from at cs) ≡ words_size (command_at at cs) + 1 + commands_size (commands_from (at + 1) cs)
less_left cs at here = ap (λ (c : Commands). commands_size c) here

module _ {H : Type 0} (ns : Names) (t : LeafTable H) where
  pub whole_gives : (code : ℕ) (result : List ℕ) (k : Next H) (s : State H) (b : ℕ) (g : Given) → give (whole_value code result) k s b g ≡ value_end k code result s b g
  whole_gives zero result k s b g = refl
  whole_gives (suc code) result k s b g = refl

  -- an `expr` is paid for, with its evaluation
  pub expr_paid : (inner : Inner H) (words : List (List ℕ)) (ws : Words) (k : Next H) (s : State H) (b cost : ℕ) (g : Given) (x : Out H) → IsOwn s.commands words → has_name ns (arg words 0) ≡ false → begins_var_command words ≡ false → verb_of (arg words 0) ≡ Expr → 2 ≤ length words → cost ≡ command_cost words + 1 → cost ≤ b → ws ≡ no_words → x ≡ run_answer inner (joined (drop 1 words)) (expression_of (joined (drop 1 words))) (value_end (command_end k)) s (b - cost) g → x ≡ run_words ns t inner ws words k s b g
  expr_paid inner words ws k s b cost g x own miss none is enough costs le done e =
      let after = command_end k in
      let less = b - command_cost words in
      let pays : command_cost words ≤ b = omega (arith, costs, le) in
      let one : 1 ≤ less = omega (arith, costs, le) in
      let left : b - cost ≡ less - 1 = omega (arith, costs, le) in
      let text = joined (drop 1 words) in
      e
      ∙ ap (λ (n : ℕ). run_answer inner text (expression_of text) (value_end after) s n g) left
      ∙ sym (ap (λ (c : Bool). cond c (spent s) (run_answer inner text (expression_of text) (value_end after) s (less - 1) g)) (le-ltb less 1 one))
      ∙ sym (ap (λ (c : Bool). (cond c (give (wrong_words_end words) after) (evaluate inner text (value_end after))) s less g) (le-ltb (length words) 2 enough))
      ∙ sym (ap (λ (v : Verb). built_in ns t inner v words after s less g) is)
      ∙ own_act ns t inner words after s less g (built_in ns t inner (verb_of (arg words 0)) words after s less g) own (end_built ns t inner words after s less g (built_in ns t inner (verb_of (arg words 0)) words after s less g) miss none refl)
      ∙ sym (ap (λ (c : Bool). cond c (spent s) (act ns t inner words after s less g)) (le-ltb b (command_cost words) pays))
      ∙ sym (ap (λ (w : Words). run_words ns t inner w words k s b g) done)
