-- What holds of every run.
use Rattle.std.specs.Prelude.{◌≡◌, ◌≤◌, ◌<◌, ℕ, suc, ◌+◌, ◌*◌, Bool, true, false, not, ◌||◌, is_some, List, ◌++◌, length, drop, Ok}
use Rattle.std.specs.List.{AllByRecursion}
use Rattle.txt_core.specs.Names.{Bytes, Words, Names}
use Rattle.outside.specs.declared.question.Answer.{Answer}
use Rattle.outside.specs.declared.question.Question.{Question}
use Rattle.cmd_table.specs.Commands.{Writes, language_names}
use Rattle.cmd_table.specs.declared.definition.Def.{Def}
use Rattle.tcl_varcmd.specs.Commands.{command_named}
use Rattle.tcl_eval.specs.declared.verb.Verb.{Verb}
use Rattle.tcl_eval.specs.declared.verb.Verb.TheVariants as verbs
use Rattle.tcl_eval.specs.declared.branch.Turning.{Turning}
use Rattle.tcl_eval.specs.declared.parameter.Parameter.{Parameter}
use Rattle.tcl_eval.specs.declared.outcome.Work.{Work}
use Rattle.tcl_eval.specs.declared.outcome.Work.TheVariants.{Script, Call, Page}
use Rattle.tcl_eval.specs.Words.{arg}
use Rattle.txt_core.specs.Limits.{most_bytes}
use Rattle.tcl_eval.specs.Parameters.{parameters}
use Rattle.tcl_eval.specs.Commands.{proc_of, rename_of}
use Rattle.tcl_eval.specs.Loops.{turns}
use Rattle.tcl_eval.specs.Eval.{verb_of, is_for_host, nested, eval}
use Rattle.tcl_eval.specs.Engine.{comes_to}
use Rattle.tcl_eval.specs.declared.engine.Engine.{Engine}
use Rattle.tcl_eval.specs.declared.outcome.Outcome.TheVariants.{Asks}
use Rattle.tcl_eval.specs.State.{State, LeafTable, wants, defines, goes, Given, Out, done, asks, spent, too_deep, Next}

-- More turns than the budget that is left change nothing. So the number of turns never ends a loop that has budget left.
abbrev pub TurnsSuffice : {H : Type 0} → LeafTable H → Type 0
TurnsSuffice {H} table =
    (names : Names) (levels : ℕ) (turning : Turning) (n : ℕ) (k : Next H) (state : State H) (budget : ℕ) (given : Given)
    → budget ≤ n
    → turns (nested names table levels) turning n k state budget given ≡ turns (nested names table levels) turning (suc n) k state budget given

-- ---- questions

-- where a run asks, less is left than this, and where it ended, not more
abbrev pub LeavesLess : {H : Type 0} → Out H → ℕ → Type 0
LeavesLess (done code result state left given) budget = left ≤ budget
LeavesLess (asks question state left) budget = left < budget
LeavesLess (spent state) budget = Unit {0}
LeavesLess (too_deep state) budget = Unit {0}

-- A question costs: where a run asks, it has spent some of its budget.
abbrev pub QuestionsCost : {H : Type 0} → LeafTable H → Type 0
QuestionsCost {H} table =
    (names : Names) (depth : ℕ) (work : Work) (state : State H) (budget : ℕ) (given : Given)
    → LeavesLess (eval names table depth work state budget given) budget

-- A command that asked may ask again, each time with a lower rank of the host's state, and no rank is more than this.
pub record IsRanked (H : Type 0) (table : LeafTable H) (rank : H → ℕ) (most : ℕ) : Type 0 where
  pub bounded : (host : H) → rank host ≤ most
  pub falls : (words : Words) (answer : Answer) (host new : H) (question : Question)
      → table.answers words answer host ≡ goes (wants question new)
      → rank new < rank host

-- What may still be asked falls with each answer: so much for each unit of the budget that is left, and the rank of the host's
-- state. Of the answers that a run was given, those that it took are counted.
abbrev pub AsksFew : {H : Type 0} → (H → ℕ) → ℕ → Out H → ℕ → Given → Type 0
AsksFew rank most (done code result state left behind) budget given =
    (most + 1) * left + length given ≤ (most + 1) * budget + length behind
AsksFew rank most (asks question state left) budget given =
    (most + 1) * left + rank state.host + length given < (most + 1) * budget
AsksFew rank most (spent state) budget given = Unit {0}
AsksFew rank most (too_deep state) budget given = Unit {0}

-- A run asks at most so many questions as its budget has units, times one more than the highest rank.
abbrev pub QuestionsAreFew : {H : Type 0} → LeafTable H → Type 0
QuestionsAreFew {H} table =
    (rank : H → ℕ) (most : ℕ) → IsRanked H table rank most
    → (names : Names) (depth : ℕ) (work : Work) (state : State H) (budget : ℕ) (given : Given)
    → AsksFew rank most (eval names table depth work state budget given) budget given

-- ---- definitions that are made

-- the state that a run came to
abbrev pub state_in : {H : Type 0} → Out H → State H
state_in (done code result state left given) = state
state_in (asks question state left) = state
state_in (spent state) = state
state_in (too_deep state) = state

-- definitions that begin with others, and behind which each is so
abbrev pub Adds : (Def → Type 0) → List Def → List Def → Type 0
Adds Is old new = (more : List Def) × (new ≡ old ++ more) × AllByRecursion Is more

-- definitions that stand in front of others: these are the same ones, and perhaps more behind them
abbrev pub IsFront : List Def → List Def → Type 0
IsFront old new = (more : List Def) × (new ≡ old ++ more)

-- What is made only grows.
abbrev pub MadeGrows : {H : Type 0} → LeafTable H → Type 0
MadeGrows {H} table =
    (names : Names) (depth : ℕ) (work : Work) (state : State H) (budget : ℕ) (given : Given)
    → Adds (λ def. Unit {0}) state.made (state_in (eval names table depth work state budget given)).made

-- The same from an engine that stands at a question: what it made stays in front of what it makes with any answers.
abbrev pub MadeGrowsOn : {H : Type 0} → LeafTable H → Type 0
MadeGrowsOn {H} table =
    (names : Names) (question : Question) (engine : Engine H) (given : Given)
    → IsFront engine.made (state_in (comes_to names table (Asks question) engine given)).made

-- a word isn't longer than a word may be
abbrev pub IsShort : Bytes → Type 0
IsShort word = length word ≤ most_bytes

-- none of the words behind a command's name is
abbrev pub HasShortWords : Words → Type 0
HasShortWords words = AllByRecursion IsShort (drop 1 words)

-- A command with these words makes this definition: `proc` with parameters that are some, `rename`, or a command of the host's,
-- which said so at once or of an answer.
pub data Makes (H : Type 0) (table : LeafTable H) : Def → Type 0 where
  procedure : {def : Def} (words : Words) (all : List Parameter)
      → HasShortWords words
      → length words ≡ 4
      → parameters (arg words 2) ≡ Ok all
      → def ≡ proc_of words
      → Makes H table def
  renaming : {def : Def} (words : Words)
      → HasShortWords words
      → length words ≡ 3
      → def ≡ rename_of words
      → Makes H table def
  called : {def : Def} (words : Words) (host new : H)
      → HasShortWords words
      → is_for_host def ≡ true
      → table.calls words host ≡ defines def new
      → Makes H table def
  answered : {def : Def} (words : Words) (answer : Answer) (host new : H)
      → HasShortWords words
      → is_for_host def ≡ true
      → table.answers words answer host ≡ goes (defines def new)
      → Makes H table def

-- the words of a call aren't too long
abbrev pub HasShortCall : Work → Type 0
HasShortCall (Script text) = Unit {0}
HasShortCall (Call words) = HasShortWords words
HasShortCall (Page pieces) = Unit {0}

-- Each definition that a run adds is one that a command makes.
abbrev pub MadeByCommands : {H : Type 0} → LeafTable H → Type 0
MadeByCommands {H} table =
    (names : Names) (depth : ℕ) (work : Work) (state : State H) (budget : ℕ) (given : Given)
    → HasShortCall work
    → Adds (Makes H table) state.made (state_in (eval names table depth work state budget given)).made

-- Definitions in front of others write at most as many entries of the table as those.
abbrev pub FrontsWriteLess : Type 0
FrontsWriteLess = (old new : List Def) → IsFront old new → Writes old ≤ Writes new

-- ---- names

-- no built-in of the engine's own
abbrev pub is_other : Verb → Bool
is_other verbs.Other = true
is_other verbs.Proc = false
is_other verbs.Return = false
is_other verbs.Error = false
is_other verbs.Break = false
is_other verbs.Continue = false
is_other verbs.Rename = false
is_other verbs.Eval = false
is_other verbs.Catch = false
is_other verbs.Expr = false
is_other verbs.If = false
is_other verbs.While = false
is_other verbs.For = false
is_other verbs.Foreach = false
is_other verbs.Switch = false
is_other verbs.Info = false

-- the engine does the command of this name: it is one on variables, or a built-in of its own
abbrev pub is_done_here : Bytes → Bool
is_done_here name = is_some (command_named name) || not (is_other (verb_of name))

-- each name that stands for a command of the language in a new table of commands is done here
abbrev pub LanguageNamesHaveDoers : Type 0
LanguageNamesHaveDoers = AllByRecursion (λ name. is_done_here name ≡ true) language_names
