-- What was made by a moment of a run is a front of what the run makes.
use Rattle.std.proofs.Common.{◌≡◌, ◌≤◌, ℕ, ◌+◌, ◌-◌, List, [], ◌∷◌, ◌++◌, drop, Option, Result, Ok, Err, nat_lt, sym, subst, arith}
use Rattle.std.specs.Prelude.{OnErr}
use Rattle.std.proofs.lemmas.List.Sums.{sum_by-append}
use Rattle.txt_core.specs.Names.{Names}
use Rattle.outside.specs.declared.question.Question.{Question}
use Rattle.cmd_table.specs.Commands.{writes, Writes}
use Rattle.cmd_table.specs.declared.definition.Def.{Def}
use Rattle.tcl_eval.specs.State.{State, Onward, LeafTable, Given, Out, spent, Rest, Next}
use Rattle.tcl_eval.specs.Costs.{answer_cost}
use Rattle.tcl_eval.specs.Going.{Inner}
use Rattle.tcl_eval.specs.Eval.{leaf, onward, standing, nested, eval}
use Rattle.tcl_eval.specs.Stack.{stack_next, step_next}
use Rattle.tcl_eval.specs.Engine.{state_of, levels_of, words_of, outcome_next, gives, Same, comes_to}
use Rattle.tcl_eval.specs.Laws.{state_in, Adds, IsFront, FrontsWriteLess}
use Rattle.tcl_eval.specs.declared.engine.Engine.{Engine}
use Rattle.tcl_eval.specs.declared.engine.OpenQuestion.{OpenQuestion}
use Rattle.tcl_eval.specs.declared.outcome.Outcome.{Outcome}
use Rattle.tcl_eval.specs.declared.outcome.Outcome.TheVariants as outcomes
use Rattle.tcl_eval.specs.declared.outcome.Work.{Work}
use Rattle.tcl_eval.specs.declared.stack.Step.{Step}
use Rattle.tcl_eval.proofs.Every as every
use Rattle.tcl_eval.proofs.Laws.{AnyWord, any_words}
use Rattle.tcl_eval.proofs.Made.{Grows, AnyDef, grows, any_making, adds_none, resumed_grows, leaf_grows, run_grows, made_grows}

-- what holds anyway holds at an error
pub on_err : {T E P : Type 0} (r : Result T E) → P → OnErr r P
on_err (Ok value) p = tt
on_err (Err error) p = p

-- ---- lists

adds_front : (old new : List Def) → Adds AnyDef old new → IsFront old new
adds_front old new a = (a.0, a.1)

pub front_from : (made old new : List Def) → made ≡ old → IsFront old new → IsFront made new
front_from made old new same f = subst (λ (x : List Def). IsFront x new) (sym same) f

written_in_front : (old more : List Def) → Writes old ≤ Writes (old ++ more)
written_in_front old more =
    let all : Writes (old ++ more) ≡ Writes old + Writes more = sum_by-append writes old more in
    omega (arith, all)

pub fronts_write_less : FrontsWriteLess
fronts_write_less old new f = subst (λ (x : List Def). Writes old ≤ Writes x) (sym f.1) (written_in_front old f.0)

-- ---- what comes behind a moment of a run

module _ {H : Type 0} (ns : Names) (t : LeafTable H) where
  abbrev AllGrow : Next H → Type 0
  AllGrow k = every.GoodNext (Grows AnyDef) (Grows AnyDef) AnyWord (grows t AnyDef AnyWord (any_making t)) t k

  abbrev AllGrowFrom : Rest H → Type 0
  AllGrowFrom r = every.Good (Grows AnyDef) (Grows AnyDef) AnyWord (grows t AnyDef AnyWord (any_making t)) t r

  rule : every.LeafRule (Grows AnyDef) (Grows AnyDef) AnyWord (grows t AnyDef AnyWord (any_making t)) t
  rule = run_grows t AnyDef AnyWord (any_making t)

  stack_grows : (engine : Engine H) → AllGrow (stack_next ns t engine.stack.items)
  stack_grows engine = every.stack_good (Grows AnyDef) (Grows AnyDef) AnyWord (grows t AnyDef AnyWord (any_making t)) t rule any_words ns engine.stack.items

  step_grows : (step : Step) (engine : Engine H) → AllGrowFrom (step_next ns t step (stack_next ns t engine.stack.items))
  step_grows step engine =
      every.step_good (Grows AnyDef) (Grows AnyDef) AnyWord (grows t AnyDef AnyWord (any_making t)) t rule any_words ns step (stack_next ns t engine.stack.items) (stack_grows engine)

  standing_grows : (levels : ℕ) (words : List (List ℕ)) (question : Question) (k : Next H) → AllGrow k → AllGrowFrom (standing t (nested ns t levels) words question k)
  standing_grows levels words question k h s b [] = adds_none AnyDef s
  standing_grows levels words question k h s b (answer ∷ g) =
      let inner : Inner H = nested ns t levels in
      let cost : ℕ = answer.1 + answer_cost answer.0 in
      let said : Onward H = t.answers words answer.0 s.host in
      let x : Out H = onward t inner words said k s (b - cost) g in
      every.either (λ (x : Out H). Adds AnyDef s.made (state_in x).made) (nat_lt b cost) (spent s) x (adds_none AnyDef s)
      (resumed_grows t AnyDef AnyWord (any_making t) inner
      (every.nested_good (Grows AnyDef) (Grows AnyDef) AnyWord (grows t AnyDef AnyWord (any_making t)) t rule ns levels)
      said (λ said. leaf t inner words said k s (b - cost) g) k s (b - cost) g
      (λ leaf_said e. leaf_grows t AnyDef AnyWord (any_making t) inner
      (every.nested_good (Grows AnyDef) (Grows AnyDef) AnyWord (grows t AnyDef AnyWord (any_making t)) t rule ns levels)
      words (any_words (drop 1 words)) leaf_said (λ def new yes same. tt) k h s (b - cost) g) h)

  outcome_grows : (outcome : Outcome) (opened : Option OpenQuestion) (k : Next H) → AllGrow k → AllGrowFrom (outcome_next ns t outcome opened k)
  outcome_grows (outcomes.Done code result) opened k h = λ s b g. adds_none AnyDef s
  outcome_grows (outcomes.Asks question) opened k h = standing_grows (levels_of opened) (words_of opened) question k h
  outcome_grows outcomes.Spent opened k h = λ s b g. adds_none AnyDef s
  outcome_grows outcomes.TooDeep opened k h = λ s b g. adds_none AnyDef s
  outcome_grows outcomes.NoMemory opened k h = λ s b g. adds_none AnyDef s

  -- what is listed as made where a run came to an outcome, and what comes of it
  pub outcome_front : (outcome : Outcome) (engine : Engine H) (g : Given) → IsFront engine.made (state_in (comes_to ns t outcome engine g)).made
  outcome_front outcome engine g =
      adds_front engine.made (state_in (comes_to ns t outcome engine g)).made
      (outcome_grows outcome engine.question (stack_next ns t engine.stack.items) (stack_grows engine) (state_of engine) engine.budget g)

  -- what was made before a step, and what comes of the run that began earlier
  pub step_front : (step : Step) (way : Next H → Rest H) (new mid old : Engine H) (g : Given) → new.made ≡ mid.made → Same ns t mid old (step_next ns t step) way → IsFront new.made (state_in (gives ns t way old g)).made
  step_front step way new mid old g same means =
      let x : Out H = gives ns t (step_next ns t step) mid g in
      subst (λ (y : Out H). IsFront new.made (state_in y).made) (means g)
      (front_from new.made mid.made (state_in x).made same
      (adds_front mid.made (state_in x).made (step_grows step mid (state_of mid) mid.budget g)))

  -- the same of a whole run
  pub eval_front : (depth : ℕ) (work : Work) (made : List Def) (s : State H) (b : ℕ) (g : Given) → made ≡ s.made → IsFront made (state_in (eval ns t depth work s b g)).made
  eval_front depth work made s b g same =
      let x : Out H = eval ns t depth work s b g in
      front_from made s.made (state_in x).made same (adds_front s.made (state_in x).made (made_grows t ns depth work s b g))

-- what comes to the same has the same front
pub front_same : {H : Type 0} (made : List Def) (x y : Out H) → x ≡ y → IsFront made (state_in x).made → IsFront made (state_in y).made
front_same {H = H} made x y e f = subst (λ (o : Out H). IsFront made (state_in o).made) e f
