-- What a word comes to that is one bracket of one command.
use Rattle.std.proofs.Common.{◌≡◌, ◌≤◌, ℕ, zero, suc, ◌+◌, true, false, List, [], ◌∷◌, ◌++◌, length, map, get_or, refl, sym, ap, ◌∙◌, subst, arith}
use Rattle.txt_core.specs.Names.{Names}
use Rattle.tcl_parse.specs.Tree.{Part, Parts, no_parts, part, parts, Words, Commands, no_commands, command}
use Rattle.tcl_parse.specs.View.{part_of}
use Rattle.tcl_parse.specs.declared.tree.Piece.{Piece}
use Rattle.tcl_eval.specs.State.{State, LeafTable, Given, Rest, Next}
use Rattle.tcl_eval.specs.Eval.{Inner, give, nested, on_ok, run_parts, run_words}
use Rattle.tcl_eval.specs.Kept.{judged}
use Rattle.tcl_eval.specs.Places.{command_at, words_from, words_size, HasCommand}
use Rattle.tcl_eval.specs.Straight.{Alike, IsDone, LeftAlone}
use Rattle.tcl_eval.specs.Brackets.{LeavesAsSaid, IsWordAt, bracket_value, bracketed_next}
use Rattle.tcl_eval.specs.Engine.{state_of}
use Rattle.tcl_eval.specs.declared.gather.SoFar.TheVariants.{Kept}
use Rattle.tcl_eval.specs.declared.engine.Engine.{Engine}
use Rattle.tcl_eval.specs.declared.stack.Ended.{Ended}
use Rattle.tcl_eval.specs.declared.straight.Tried.{Tried}
use Rattle.tcl_eval.specs.declared.straight.Tried.TheVariants as tried
use Rattle.tcl_eval.specs.declared.stack.Once.{Once}
use Rattle.tcl_eval.specs.declared.bracket.Passed.{Passed}
use Rattle.tcl_eval.specs.declared.bracket.Passed.TheVariants as passed
use Rattle.tcl_eval.proofs.Alike.{run_script_alike}
use Rattle.tcl_eval.proofs.Kept.{kept_end, judged_word}

-- a script of a first command and no second one
pub one_only : (cs : Commands) → HasCommand true 0 cs → HasCommand false 1 cs → cs ≡ command (command_at 0 cs) no_commands
one_only cs here none = here ∙ ap (λ (c : Commands). command (command_at 0 cs) c) none

-- behind fewer words less is left
pub less_more : (what : Passed) (left mid before : Words) → words_size mid ≤ words_size before → LeavesAsSaid what left mid → LeavesAsSaid what left before
less_more passed.On left mid before le less = omega (arith, le, less)
less_more passed.All left mid before le less = less
less_more (passed.Ends value) left mid before le less = tt
less_more passed.Spent left mid before le less = tt
less_more passed.Costly left mid before le less = omega (arith, le, less)
less_more passed.Left left mid before le less = omega (arith, le, less)

-- a word of one piece
pub one_piece_of : (all : List Piece) (p : Piece) (q : Part) → length all ≡ 1 → p ≡ get_or all 0 p → part_of p ≡ q → parts (map part_of all) ≡ part q no_parts
one_piece_of [] p q one is same = absurd (omega (arith, one))
one_piece_of (x ∷ []) p q one is same =
    ap (λ (y : Piece). part (part_of y) no_parts) (sym is) ∙ ap (λ (y : Part). part y no_parts) same
one_piece_of (x ∷ y ∷ all) p q one is same = absurd (omega (arith, one))

module _ {H : Type 0} where
  -- a command that was done isn't left
  pub done_alone : (what : Tried) (new old : Engine H) → IsDone what → LeftAlone what new old
  done_alone (tried.Gives value) new old was = tt
  done_alone tried.Spent new old was = tt
  done_alone (tried.Left values) new old was = absurd was
  done_alone (tried.Costly count) new old was = absurd was
  done_alone (tried.Evaluates evaluation) new old was = absurd was

  -- an engine goes on as it was
  pub left_alone : (new old : Engine H) (way : Next H → Rest H) (k : Next H) (g : Given) → new ≡ old → way k (state_of new) new.budget g ≡ way k (state_of old) old.budget g
  left_alone new old way k g same = ap (λ (e : Engine H). way k (state_of e) e.budget g) same

  -- what comes behind the script of a bracket that is a word
  abbrev pub behind_bracket : Next H → Next H
  behind_bracket k = on_ok (λ v. judged k 0 v) (judged k)

  bracket_gives : (inner : Inner H) (code : ℕ) (result : List ℕ) (k : Next H) (s : State H) (b : ℕ) (g : Given) → give (bracket_value code result) k s b g ≡ behind_bracket k code result s b g
  bracket_gives inner zero result k s b g = kept_end inner (Kept result) k s b g
  bracket_gives inner (suc code) result k s b g = refl

  -- the value of a bracket is handed on as that of its word
  pub bracket_handed : (inner : Inner H) (word value : Ended) (k : Next H) (s : State H) (b : ℕ) (g : Given) → word ≡ bracket_value value.code value.result → give word k s b g ≡ give value (behind_bracket k) s b g
  bracket_handed inner word value k s b g is =
      ap (λ (v : Ended). give v k s b g) is ∙ bracket_gives inner value.code value.result k s b g

module _ {H : Type 0} (ns : Names) (t : LeafTable H) where
  -- this is the bracket, and these are its levels
  pub bracket_here : (new old : Engine H) (what : Once) (levels less : ℕ) (ps : Parts) (p : Part) → levels ≡ suc less → ps ≡ part p no_parts → Alike new old (bracketed_next (nested ns t (suc less)) (part p no_parts) what) (λ k. run_parts (nested ns t (suc less)) (part p no_parts) [] (judged k)) → Alike new old (bracketed_next (nested ns t levels) ps what) (λ k. run_parts (nested ns t levels) ps [] (judged k))
  bracket_here new old what levels less ps p l is did =
      let way : ℕ → Parts → Type 0 = λ n x. Alike new old (bracketed_next (nested ns t n) x what) (λ k. run_parts (nested ns t n) x [] (judged k)) in
      subst (λ (n : ℕ). way n ps) (sym l) (subst (λ (x : Parts). way (suc less) x) (sym is) did)

  -- what the next word of a command comes to is what the command goes on with
  pub word_next : (levels : ℕ) (all : Words) (ps : Parts) (values : List (List ℕ)) (k : Next H) (s : State H) (b : ℕ) (g : Given) → IsWordAt ps (length values) all → run_parts (nested ns t levels) ps [] (judged (on_ok (λ v. run_words ns t (nested ns t levels) (words_from (length values + 1) all) (values ++ v ∷ []) k) k)) s b g ≡ run_words ns t (nested ns t levels) (words_from (length values) all) values k s b g
  word_next levels all ps values k s b g is =
      let inner = nested ns t levels in
      judged_word inner (run_script_alike ns t levels) ps (λ v. run_words ns t inner (words_from (length values + 1) all) (values ++ v ∷ []) k) k s b g
      ∙ sym (ap (λ (x : Words). run_words ns t inner x values k s b g) is)
