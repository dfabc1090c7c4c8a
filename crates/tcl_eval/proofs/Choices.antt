-- An `if` that comes to a value straight away.
use Rattle.std.proofs.Common.{◌≡◌, ◌≤◌, ℕ, suc, ◌-◌, List, [], Bool, cond, refl, sym, ap, ◌∙◌, subst, arith}
use Rattle.std.proofs.lemmas.Bool.{le-ltb}
use Rattle.txt_core.specs.Names.{Names}
use Rattle.tcl_parse.specs.Tree.{Words, no_words, word, Commands, no_commands, command}
use Rattle.tcl_eval.specs.State.{State, LeafTable, Given, Out, Rest, Next, spent}
use Rattle.tcl_eval.specs.Eval.{Inner, act, arg, built_in, command_cost, command_end, do_if, give, nested, on_ok, run_commands, run_words, verb_of}
use Rattle.tcl_eval.specs.Choices.{CameTo, PaidAlone}
use Rattle.tcl_eval.specs.Places.{command_at, words_size}
use Rattle.tcl_eval.specs.Straight.{Alike, CallsVerb, tried_next}
use Rattle.tcl_eval.specs.Engine.{state_of}
use Rattle.tcl_eval.specs.declared.engine.Engine.{Engine}
use Rattle.tcl_eval.specs.declared.stack.Ended.{Ended}
use Rattle.tcl_eval.specs.declared.straight.Tried.{Tried}
use Rattle.tcl_eval.specs.declared.stack.Once.{Once}
use Rattle.tcl_eval.specs.declared.stack.Once.TheVariants as once
use Rattle.tcl_eval.specs.declared.verb.Verb.{Verb}
use Rattle.tcl_eval.specs.declared.verb.Verb.TheVariants.{If}
use Rattle.tcl_eval.proofs.Commands.{end_built, own_act}
use Rattle.tcl_eval.proofs.Steps.{handed_on}

-- no words are left that there is nothing to go over of
pub none_sized : (ws : Words) → words_size ws ≤ 0 → ws ≡ no_words
none_sized no_words le = refl
none_sized (word w ws) le = absurd (omega (arith, le))

module _ {H : Type 0} where
  -- the end of a script's only command is the script's
  pub one_ends : (value : Ended) (k : Next H) (s : State H) (b : ℕ) (g : Given) → give value k s b g ≡ give value (on_ok (λ v. k 0 v) k) s b g
  one_ends value k s b g = handed_on k b value.code value.result s b g (omega arith)

  -- twice nothing but the budget changed
  pub paid_both : (new mid old : Engine H) → PaidAlone new mid → PaidAlone mid old → PaidAlone new old
  paid_both new mid old n m = n ∙ ap (λ (e : Engine H). record e { budget = new.budget }) m

  -- nothing changed
  pub paid_none : (new old : Engine H) → new ≡ old → PaidAlone new old
  paid_none new old same = same ∙ ap (λ (e : Engine H). record old { budget = e.budget }) (sym same)

  -- the budget is another one
  pub paid_so : (new old : Engine H) (left : ℕ) → new ≡ record old { budget = left } → PaidAlone new old
  paid_so new old left same = same ∙ ap (λ (e : Engine H). record old { budget = e.budget }) (sym same)

  -- the budget is as it was again
  pub paid_back : (new old : Engine H) (less : ℕ) → PaidAlone new (record old { budget = less }) → record new { budget = old.budget } ≡ old
  paid_back new old less paid = ap (λ (e : Engine H). record e { budget = old.budget }) paid

  -- two ways that come to the same
  pub came_same : (what : Once) (new old : Engine H) (way other : Next H → Rest H) → ((k : Next H) (s : State H) (b : ℕ) (g : Given) → way k s b g ≡ other k s b g) → CameTo what new old way → CameTo what new old other
  came_same (once.Gives value) new old way other same did = λ k g. did k g ∙ same k (state_of old) old.budget g
  came_same once.Spent new old way other same did = λ k g. did k g ∙ same k (state_of old) old.budget g
  came_same once.Left new old way other same did = did

  -- what was paid for before
  pub came_behind : (what : Once) (new mid old : Engine H) (way other : Next H → Rest H) → Alike mid old way other → PaidAlone mid old → CameTo what new mid way → CameTo what new old other
  came_behind (once.Gives value) new mid old way other same paid did = λ k g. did k g ∙ same k g
  came_behind once.Spent new mid old way other same paid did = λ k g. did k g ∙ same k g
  came_behind once.Left new mid old way other same paid did = paid_both new mid old did paid

module _ {H : Type 0} (ns : Names) (t : LeafTable H) where
  -- a script of one command runs that command
  pub one_runs : (inner : Inner H) (cs : Commands) (k : Next H) (s : State H) (b : ℕ) (g : Given) (x : Out H) → cs ≡ command (command_at 0 cs) no_commands → x ≡ run_words ns t inner (command_at 0 cs) [] (on_ok (λ v. k 0 v) k) s b g → x ≡ run_commands ns t inner cs [] k s b g
  one_runs inner cs k s b g x is e = e ∙ sym (ap (λ (c : Commands). run_commands ns t inner c [] k s b g) is)

  -- an `if` is paid for
  pub if_paid : (inner : Inner H) (words : List (List ℕ)) (ws : Words) (k : Next H) (s : State H) (b cost : ℕ) (g : Given) (x : Out H) → CallsVerb If ns s.commands words → cost ≡ command_cost words → cost ≤ b → ws ≡ no_words → x ≡ do_if inner words (command_end k) s (b - cost) g → x ≡ run_words ns t inner ws words k s b g
  if_paid inner words ws k s b cost g x called costs le done e =
      let after = command_end k in
      let less = b - command_cost words in
      let pays : command_cost words ≤ b = omega (arith, costs, le) in
      let left : b - cost ≡ less = omega (arith, costs, le) in
      e
      ∙ ap (λ (n : ℕ). do_if inner words after s n g) left
      ∙ sym (ap (λ (v : Verb). built_in ns t inner v words after s less g) called.1.2)
      ∙ own_act ns t inner words after s less g (built_in ns t inner (verb_of (arg words 0)) words after s less g) called.0 (end_built ns t inner words after s less g (built_in ns t inner (verb_of (arg words 0)) words after s less g) called.1.0 called.1.1 refl)
      ∙ sym (ap (λ (c : Bool). cond c (spent s) (act ns t inner words after s less g)) (le-ltb b (command_cost words) pays))
      ∙ sym (ap (λ (w : Words). run_words ns t inner w words k s b g) done)

  -- these are its levels
  pub if_levels : (new old : Engine H) (tried : Tried) (words ws : Words) (values : List (List ℕ)) (levels less : ℕ) → levels ≡ suc less → Alike new old (tried_next ns t (nested ns t (suc less)) words tried) (run_words ns t (nested ns t (suc less)) ws values) → Alike new old (tried_next ns t (nested ns t levels) words tried) (run_words ns t (nested ns t levels) ws values)
  if_levels new old tried words ws values levels less l did =
      subst (λ (n : ℕ). Alike new old (tried_next ns t (nested ns t n) words tried) (run_words ns t (nested ns t n) ws values)) (sym l) did
