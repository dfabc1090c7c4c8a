-- What runs make: it begins with what was made before, and commands made the rest.
use Rattle.std.proofs.Common.{◌≡◌, ◌==◌, ℕ, ◌+◌, ◌-◌, List, [], ◌∷◌, ◌++◌, length, drop, true, Ok, nat_lt, refl, sym, ap, ◌∙◌, append_assoc, append-nil}
use Rattle.std.specs.List.{AllByRecursion}
use Rattle.std.proofs.lemmas.Bool.{eqb-true}
use Rattle.outside.specs.declared.question.Answer.{Answer}
use Rattle.cmd_table.specs.declared.definition.Def.{Def}
use Rattle.tcl_eval.specs.declared.parameter.Parameter.{Parameter}
use Rattle.tcl_eval.specs.declared.outcome.Work.{Work}
use Rattle.tcl_eval.specs.declared.outcome.Work.TheVariants as work
use Rattle.tcl_eval.specs.Words.{arg}
use Rattle.tcl_eval.specs.Costs.{answer_cost}
use Rattle.tcl_eval.specs.Messages.{unknown_command}
use Rattle.tcl_eval.specs.Parameters.{parameters}
use Rattle.tcl_eval.specs.Commands.{proc_of, rename_of}
use Rattle.tcl_eval.specs.Going.{Inner, with_host}
use Rattle.tcl_eval.specs.Eval.{is_for_host, resumed, leaf, onward}
use Rattle.tcl_eval.specs.State.{State, Leaf, says, wants, defines, stores, not_mine, Onward, goes, enters, LeafTable, Given, Out, spent, Next}
use Rattle.tcl_eval.specs.Laws.{state_in, Adds, MadeGrows, IsShort, Makes, procedure, renaming, called, answered, HasShortCall, MadeByCommands}
use Rattle.tcl_eval.proofs.Every as every
use Rattle.tcl_eval.proofs.Every.{Closed}
use Rattle.tcl_eval.proofs.Laws.{AnyWord, any_call}

-- What is made behind these words of commands: each definition is so.
pub record Making (H : Type 0) (t : LeafTable H) (Is : Def → Type 0) (Short : List ℕ → Type 0) : Type 0 where
  pub procs : (words : List (List ℕ)) (all : List Parameter) → parameters (arg words 2) ≡ Ok all → AllByRecursion Short (drop 1 words) → (length words == 4) ≡ true → Is (proc_of words)
  pub renames : (words : List (List ℕ)) → AllByRecursion Short (drop 1 words) → (length words == 3) ≡ true → Is (rename_of words)
  pub calls : (words : List (List ℕ)) (host new : H) (def : Def) → AllByRecursion Short (drop 1 words) → is_for_host def ≡ true → t.calls words host ≡ defines def new → Is def
  pub answers : (words : List (List ℕ)) (answer : Answer) (host new : H) (def : Def) → AllByRecursion Short (drop 1 words) → is_for_host def ≡ true → t.answers words answer host ≡ goes (defines def new) → Is def
  pub shortens : (value : List ℕ) → IsShort value → Short value

abbrev pub Grows : {H : Type 0} → (Def → Type 0) → State H → ℕ → Given → Out H → Type 0
Grows Is s b g x = Adds Is s.made (state_in x).made

module _ {H : Type 0} (Is : Def → Type 0) where
  -- one more is made, and then others
  adds_one : (s : State H) (def : Def) (new : List Def) → Is def → Adds Is (s.made ++ def ∷ []) new → Adds Is s.made new
  adds_one s def new is a = (def ∷ a.0, a.1 ∙ append_assoc s.made (def ∷ []) a.0, (is, a.2))

  adds_moved : (s s' : State H) (new : List Def) → s'.made ≡ s.made → Adds Is s'.made new → Adds Is s.made new
  adds_moved s s' new same a = (a.0, a.1 ∙ ap (λ (made : List Def). made ++ a.0) same, a.2)

  pub adds_none : (s : State H) → Adds Is s.made s.made
  adds_none s = ([], sym (append-nil s.made), tt)

module _ {H : Type 0} (t : LeafTable H) (Is : Def → Type 0) (Short : List ℕ → Type 0) (making : Making H t Is Short) where
  pub grows : Closed H (Grows Is) (Grows Is) Short
  grows = record {
    falls = λ s b b' g x le h. h;
    moves = λ s s' b g x same h. adds_moved Is s s' (state_in x).made same h;
    procs = λ s words all b g x is short four h. adds_one Is s (proc_of words) (state_in x).made (making.procs words all is short four) h;
    renames = λ s words b g x short three h. adds_one Is s (rename_of words) (state_in x).made (making.renames words short three) h;
    ends = λ code result s b g. adds_none Is s;
    spends = λ s b g. adds_none Is s;
    sinks = λ s b g. adds_none Is s;
    pays = λ s b b' g x less h. h;
    weakens = λ s b g x h. h;
    shortens = making.shortens;
  }

module _ {H : Type 0} (t : LeafTable H) (Is : Def → Type 0) (Short : List ℕ → Type 0) (making : Making H t Is Short) (inner : Inner H) (run : every.Runs (Grows Is) (Grows Is) Short (grows t Is Short making) t inner) where
  -- what a command said, or an answer made it say, is so
  abbrev pub Said : Leaf H → Type 0
  Said said = (def : Def) (new : H) → is_for_host def ≡ true → said ≡ defines def new → Is def

  pub resumed_grows : (said : Onward H) (go : Leaf H → Out H) (k : Next H) (s : State H) (b : ℕ) (g : Given) → ((l : Leaf H) → said ≡ goes l → Grows Is s b g (go l)) → every.GoodNext (Grows Is) (Grows Is) Short (grows t Is Short making) t k → Grows Is s b g (resumed t inner said go k s b g)
  resumed_grows (goes said) go k s b g on h = on said refl
  resumed_grows (enters page host) go k s b g on h = every.run_page_good (Grows Is) (Grows Is) Short (grows t Is Short making) t inner run page k h (with_host s host) b g

  pub leaf_grows : (words : List (List ℕ)) → AllByRecursion Short (drop 1 words) → (said : Leaf H) → Said said → (k : Next H) → every.GoodNext (Grows Is) (Grows Is) Short (grows t Is Short making) t k → (s : State H) (b : ℕ) (g : Given) → Grows Is s b g (leaf t inner words said k s b g)
  leaf_grows words short (says code result host) is k h s b g = h code result (with_host s host) b g
  leaf_grows words short (defines def host) is k h s b g =
      every.define_good (Grows Is) (Grows Is) Short (grows t Is Short making) t def
      (λ yes s b g x put. adds_one Is s def (state_in x).made (is def host yes refl) put) words k h (with_host s host) b g
  leaf_grows words short (stores name value result host) is k h s b g =
      every.write_variable_good (Grows Is) (Grows Is) Short (grows t Is Short making) t name value result k h (with_host s host) b g
  leaf_grows words short (not_mine host) is k h s b g =
      every.fails_good (Grows Is) (Grows Is) Short (grows t Is Short making) t (unknown_command (arg words 0)) k h (with_host s host) b g
  leaf_grows words short (wants question host) is k h s b [] = adds_none Is s
  leaf_grows words short (wants question host) is k h s b (answer ∷ g) =
      let cost : ℕ = answer.1 + answer_cost answer.0 in
      let s' : State H = with_host s host in
      let said : Onward H = t.answers words answer.0 host in
      let x : Out H = onward t inner words said k s' (b - cost) g in
      every.either (λ (x : Out H). Adds Is s.made (state_in x).made) (nat_lt b cost) (spent s') x (adds_none Is s)
      (resumed_grows said (λ said. leaf t inner words said k s' (b - cost) g) k s' (b - cost) g
      (λ leaf_said e. leaf_grows words short leaf_said
      (λ def new yes same. making.answers words answer.0 host new def short yes (e ∙ ap (λ (l : Leaf H). goes l) same))
      k h s' (b - cost) g) h)

module _ {H : Type 0} (t : LeafTable H) (Is : Def → Type 0) (Short : List ℕ → Type 0) (making : Making H t Is Short) where
  pub run_grows : every.LeafRule (Grows Is) (Grows Is) Short (grows t Is Short making) t
  run_grows inner run words short k h s b g =
      leaf_grows t Is Short making inner run words short (t.calls words s.host) (λ def new yes e. making.calls words s.host new def short yes e) k h s b g

-- ---- whatever is made

abbrev pub AnyDef : Def → Type 0
AnyDef def = Unit {0}

pub any_making : {H : Type 0} (t : LeafTable H) → Making H t AnyDef AnyWord
any_making t = record {
  procs = λ words all is short four. tt;
  renames = λ words short three. tt;
  calls = λ words host new def short yes e. tt;
  answers = λ words answer host new def short yes e. tt;
  shortens = λ value short. tt;
}

pub made_grows : {H : Type 0} (t : LeafTable H) → MadeGrows t
made_grows t names depth w s b g =
    every.eval_good (Grows AnyDef) (Grows AnyDef) AnyWord (grows t AnyDef AnyWord (any_making t)) t (run_grows t AnyDef AnyWord (any_making t))
    names depth w (any_call (Grows AnyDef) (Grows AnyDef) (grows t AnyDef AnyWord (any_making t)) t w) s b g

-- ---- what commands make

command_making : {H : Type 0} (t : LeafTable H) → Making H t (Makes H t) IsShort
command_making t = record {
  procs = λ words all is short four. procedure words all short (eqb-true (length words) 4 four) is refl;
  renames = λ words short three. renaming words short (eqb-true (length words) 3 three) refl;
  calls = λ words host new def short yes e. called words host new short yes e;
  answers = λ words answer host new def short yes e. answered words answer host new short yes e;
  shortens = λ value short. short;
}

short_call : {H : Type 0} (t : LeafTable H) (w : Work) → HasShortCall w → every.ShortWork (Grows (Makes H t)) (Grows (Makes H t)) IsShort (grows t (Makes H t) IsShort (command_making t)) t w
short_call t (work.Script bytes) short = tt
short_call t (work.Call words) short = short
short_call t (work.Page page) short = tt

pub made_by_commands : {H : Type 0} (t : LeafTable H) → MadeByCommands t
made_by_commands {H = H} t names depth w s b g short =
    every.eval_good (Grows (Makes H t)) (Grows (Makes H t)) IsShort (grows t (Makes H t) IsShort (command_making t)) t (run_grows t (Makes H t) IsShort (command_making t))
    names depth w (short_call t w short) s b g
