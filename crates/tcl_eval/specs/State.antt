-- What a run is over: its state, what is given to it, and what it comes to.
use Rattle.std.specs.Prelude.{ℕ, List}
use Rattle.txt_core.specs.Names.{Bytes}
use Rattle.outside.specs.declared.question.Answer.{Answer}
use Rattle.outside.specs.declared.question.Question.{Question}
pub use Rattle.tcl_host.specs.Leaf.{Leaf, says, wants, defines, stores, not_mine, Onward, goes, enters, TextEnd, LeafTable}
use Rattle.cmd_table.specs.Table.{Table}
use Rattle.cmd_table.specs.declared.definition.Def.{Def}
use Rattle.tcl_frame.specs.Stack.{Stack}

-- The state of a run, where that of its host is an H.
pub record State (H : Type 0) : Type 0 where
  -- the commands by their names
  pub commands : Table
  -- the variables
  pub frames : Stack
  -- what the host knows
  pub host : H
  -- the definitions that were made, in order
  pub made : List Def

-- Answers in the order in which they are given, each with what it cost elsewhere.
abbrev pub Given : Type 0
Given = List (Answer × ℕ)

-- What a run comes to.
pub data Out (H : Type 0) : Type 0 where
  -- it ended with this code and result; so much of its budget, and these answers, are left
  done : (code : ℕ) (result : Bytes) (state : State H) (budget : ℕ) (given : Given) → Out H
  -- it stands at this question, and no answer is left
  asks : (question : Question) (state : State H) (budget : ℕ) → Out H
  -- it ended where a cost was more than what was left of the budget
  spent : (state : State H) → Out H
  -- it ended where a script stood too deep
  too_deep : (state : State H) → Out H

-- the rest of a run: what it comes to from a state, a budget and the answers that are left
abbrev pub Rest : Type 0 → Type 0
Rest H = State H → ℕ → Given → Out H

-- what comes after a code and a result
abbrev pub Next : Type 0 → Type 0
Next H = ℕ → Bytes → Rest H
