-- What the contracts of an engine's functions say alike, each form by one name.
use Rattle.std.specs.Prelude.{◌≡◌, ◌<◌, ◌≤◌, ℕ, ◌+◌, [], length, Option}
use Rattle.txt_core.specs.Names.{Words, Names}
use Rattle.tcl_parse.specs.Tree.{Words as TreeWords, no_words}
use Rattle.tcl_expr.specs.Trees.{Tree}
use Rattle.tcl_eval.specs.State.{LeafTable, Given, Rest, Next}
use Rattle.tcl_eval.specs.Eval.{nested, run_words}
use Rattle.tcl_eval.specs.Expressions.{run_expression}
use Rattle.tcl_eval.specs.Evaluations.{begun_next}
use Rattle.tcl_eval.specs.Places.{words_from, words_size}
use Rattle.tcl_eval.specs.Stack.{branch_next, branch_free, frame_next, step_next, step_weight, stack_weight}
use Rattle.tcl_eval.specs.Straight.{Alike, tried_next, tried_size}
use Rattle.tcl_eval.specs.Engine.{Same, Nears, acted_next, credit, gone_next, state_of}
use Rattle.tcl_eval.specs.declared.branch.Branch.{Branch}
use Rattle.tcl_eval.specs.declared.engine.Engine.{Engine}
use Rattle.tcl_eval.specs.declared.engine.OpenQuestion.{OpenQuestion}
use Rattle.tcl_eval.specs.declared.evaluation.Begun.{Begun}
use Rattle.tcl_eval.specs.declared.stack.Acted.{Acted}
use Rattle.tcl_eval.specs.declared.stack.Ended.{Ended}
use Rattle.tcl_eval.specs.declared.stack.Frame.{Frame}
use Rattle.tcl_eval.specs.declared.stack.Gone.{Gone}
use Rattle.tcl_eval.specs.declared.stack.Step.{Step}
use Rattle.tcl_eval.specs.declared.straight.Tried.{Tried}

module _ {H : Type 0} (names : Names) (table : LeafTable H) where
  -- a step from the new engine is this way to go on from the old one
  abbrev pub StepIs : Step → Engine H → Engine H → (Next H → Rest H) → Type 0
  StepIs step new old way = Same names table new old (step_next names table step) way

  -- a step is what a frame does with this code and result
  abbrev pub GivesFrame : Step → Frame → Ended → Engine H → Engine H → Type 0
  GivesFrame step frame value new old = StepIs step new old (λ k. frame_next names table frame k value.code value.result)

  -- what comes after a choice, a loop, a page or a call of a procedure is this way to go on from the old engine
  abbrev pub GoneIs : Gone → Engine H → Engine H → (Next H → Rest H) → Type 0
  GoneIs gone new old way = Same names table new old (gone_next names table gone) way

  -- it is what a choice, a loop or a page does with this code and result
  abbrev pub GivesBranch : Gone → Branch → Ended → Engine H → Engine H → Type 0
  GivesBranch gone branch value new old = GoneIs gone new old (λ k. branch_next names table branch k value.code value.result)

  -- what was done of a command is this way to go on from the old engine; the question is the one that is open now
  abbrev pub ActedIs : Acted → Engine H → Engine H → (Next H → Rest H) → Type 0
  ActedIs acted new old way = Same names table new old (acted_next names table acted new.question) way

  -- what was done of a command whose words are all there is the command of these words
  abbrev pub Tries : ℕ → TreeWords → Words → Tried → Engine H → Engine H → Type 0
  Tries levels words values tried new old =
      words_from (length values) words ≡ no_words
      → Alike new old (tried_next names table (nested names table levels) words tried) (run_words names table (nested names table levels) (words_from (length values) words) values)

  -- what was done of a command of a script, from its first word on, is that command
  abbrev pub TriesCommand : ℕ → TreeWords → Tried → Engine H → Engine H → Type 0
  TriesCommand levels words tried new old =
      Alike new old (tried_next names table (nested names table levels) words tried) (run_words names table (nested names table levels) words [])

module _ {H : Type 0} (table : LeafTable H) where
  -- what was done of a command is this way to go on from the old engine, whatever names natives have and whichever question is open
  abbrev pub ActsAs : Acted → Engine H → Engine H → (Names → Next H → Rest H) → Type 0
  ActsAs acted new old way = (names : Names) (opened : Option OpenQuestion) → Same names table new old (acted_next names table acted opened) (way names)

  -- an expression goes on as it was begun, whatever comes next and is left of the budget
  abbrev pub Begins : Begun → Engine H → Tree → Type 0
  Begins begun engine x =
      (names : Names) (levels : ℕ) (k : Next H) (budget : ℕ) (given : Given)
      → begun_next (nested names table levels) begun k (state_of engine) budget given ≡ run_expression (nested names table levels) x k (state_of engine) budget given

-- of a command, no more is left to go over than behind these values
abbrev pub IsLeftOf : Words → Tried → Type 0
IsLeftOf values tried = (words : TreeWords) → tried_size words tried ≤ words_size (words_from (length values) words)

module _ {H : Type 0} where
  -- a step, with the stack behind it, is less to go over than the stack before with so much more
  abbrev pub IsLighter : Step → Engine H → Engine H → ℕ → Type 0
  IsLighter step new old more = stack_weight new.stack.items + step_weight step < stack_weight old.stack.items + more

  -- it is no more than that
  abbrev pub IsNoHeavier : Step → Engine H → Engine H → ℕ → Type 0
  IsNoHeavier step new old more = stack_weight new.stack.items + step_weight step ≤ stack_weight old.stack.items + more

  -- where a run goes on, what falls from one text that is run to the next is at most what fell before and so much more
  abbrev pub NearsMost : Gone → Engine H → Engine H → ℕ → Type 0
  NearsMost gone new old free = (most : ℕ) → credit old + free < most → Nears gone new most

  -- where a run goes on, less falls than before with the texts that a choice, a loop or a page may run for nothing
  abbrev pub NearsBranch : Gone → Engine H → Engine H → Branch → Type 0
  NearsBranch gone new old branch = Nears gone new (credit old + branch_free branch)
