-- Commands that come to a value straight away, and scripts whose first commands do.
use Rattle.std.specs.Prelude.{◌≡◌, ◌≤◌, ◌<◌, ℕ, false, ◌+◌, ◌^◌, ◌∷◌, drop, length, Option, None, Some}
use Rattle.txt_core.specs.Names.{Words, Names}
use Rattle.tcl_parse.specs.Tree.{Words as TreeWords, Commands}
use Rattle.cmd_table.specs.Table.{Table, command_of}
use Rattle.cmd_table.specs.declared.command.Cmd.TheVariants.{Built}
use Rattle.tcl_eval.specs.State.{LeafTable, Given, Rest, Next, spent}
use Rattle.natives.specs.Names.{has_name}
use Rattle.tcl_varcmd.specs.Commands.{begins_var_command}
use Rattle.tcl_eval.specs.Words.{arg}
use Rattle.tcl_eval.specs.Going.{Inner, on_ok, give}
use Rattle.tcl_eval.specs.Eval.{run_words, run_commands, verb_of}
use Rattle.tcl_eval.specs.Kept.{run_costly}
use Rattle.tcl_eval.specs.Evaluations.{evaluation_next}
use Rattle.tcl_eval.specs.Places.{commands_from, command_at, words_from, words_size, commands_size}
use Rattle.tcl_eval.specs.Engine.{state_of}
use Rattle.tcl_eval.specs.declared.engine.Engine.{Engine}
use Rattle.tcl_eval.specs.declared.stack.Ended.{Ended}
use Rattle.tcl_eval.specs.declared.verb.Verb.{Verb}
use Rattle.tcl_eval.specs.declared.straight.Straight.{Straight}
use Rattle.tcl_eval.specs.declared.straight.Straight.TheVariants as straight
use Rattle.tcl_eval.specs.declared.straight.Stand.{Stand}
use Rattle.tcl_eval.specs.declared.straight.Stand.TheVariants as stand
use Rattle.tcl_eval.specs.declared.straight.Tried.{Tried}
use Rattle.tcl_eval.specs.declared.straight.Tried.TheVariants as tried

-- these words call a built-in by its own name
abbrev pub IsOwn : Table → Words → Type 0
IsOwn commands words = (command_of commands (arg words 0) ≡ Some (Built (arg words 0))) × (words ≡ arg words 0 ∷ drop 1 words)

-- the first of these words is the name of a built-in of this kind, and names neither a native nor a command on variables
abbrev pub IsNamed : Verb → Names → Words → Type 0
IsNamed verb natives words =
    (has_name natives (arg words 0) ≡ false) × (begins_var_command words ≡ false) × (verb_of (arg words 0) ≡ verb)

-- these words call a built-in of this kind by its own name
abbrev pub CallsVerb : Verb → Names → Table → Words → Type 0
CallsVerb verb natives commands words = IsOwn commands words × IsNamed verb natives words

-- where a command came to a value, this holds of it
abbrev pub IfGives : Straight → (Ended → Type 0) → Type 0
IfGives (straight.Gives value) fact = fact value
IfGives straight.Expr fact = Unit {0}
IfGives straight.Other fact = Unit {0}

-- where a command is an `expr`, this holds
abbrev pub IfExpr : Straight → Type 0 → Type 0
IfExpr (straight.Gives value) fact = Unit {0}
IfExpr straight.Expr fact = fact
IfExpr straight.Other fact = Unit {0}

-- where nothing of a command was done, this holds
abbrev pub IfLeft : Straight → Type 0 → Type 0
IfLeft (straight.Gives value) fact = Unit {0}
IfLeft straight.Expr fact = fact
IfLeft straight.Other fact = fact

module _ {H : Type 0} where
  -- this value, and the new state, is what a way to go on comes to from the old one, whatever comes next and is left of the budget
  abbrev pub Does : Engine H → Engine H → Ended → (Next H → Rest H) → Type 0
  Does new old value way = (k : Next H) (budget : ℕ) (given : Given) → give value k (state_of new) budget given ≡ way k (state_of old) budget given

  -- one way to go on from the new engine comes to the same as another one from the old engine, whatever comes next
  abbrev pub Alike : Engine H → Engine H → (Next H → Rest H) → (Next H → Rest H) → Type 0
  Alike new old new_way old_way = (k : Next H) (given : Given) → new_way k (state_of new) new.budget given ≡ old_way k (state_of old) old.budget given

  -- the budget didn't rise, and nothing was asked or put on the stack
  abbrev pub Straightly : Engine H → Engine H → Type 0
  Straightly new old = (new.budget ≤ old.budget) × (new.question ≡ old.question) × (new.stack ≡ old.stack)

  -- a result was paid for, or it costs more than is left of the budget
  abbrev pub paid_next : Option Ended → Next H → Rest H
  paid_next None k = λ state budget given. spent state
  paid_next (Some value) k = give value k

  -- where a command is left, the engine is as it was
  abbrev pub LeftAlone : Tried → Engine H → Engine H → Type 0
  LeftAlone (tried.Gives value) new old = Unit {0}
  LeftAlone tried.Spent new old = Unit {0}
  LeftAlone (tried.Left values) new old = new ≡ old
  LeftAlone (tried.Costly count) new old = new ≡ old
  LeftAlone (tried.Evaluates evaluation) new old = new ≡ old

module _ {H : Type 0} (names : Names) (table : LeafTable H) where
  -- how a command of these words goes on from what was done of it
  abbrev pub tried_next : Inner H → TreeWords → Tried → Next H → Rest H
  tried_next inner words (tried.Gives value) k = give value k
  tried_next inner words tried.Spent k = λ state budget given. spent state
  tried_next inner words (tried.Left values) k = run_words names table inner (words_from (length values) words) values k
  tried_next inner words (tried.Costly count) k = run_costly inner (words_from count words) k
  tried_next inner words (tried.Evaluates evaluation) k = evaluation_next inner evaluation k

  -- what comes behind the command at a place of a script
  abbrev pub behind_command : Inner H → Commands → ℕ → Next H → Next H
  behind_command inner script at k = on_ok (λ value. run_commands names table inner (commands_from (at + 1) script) value k) k

  -- how a script goes on from where it stands
  abbrev pub stand_next : Inner H → Commands → Stand → Next H → Rest H
  stand_next inner script (stand.Ends value) k = give value k
  stand_next inner script stand.Spent k = λ state budget given. spent state
  stand_next inner script (stand.Waits at values) k =
      run_words names table inner (words_from (length values) (command_at at script)) values (behind_command inner script at k)
  stand_next inner script (stand.Costly at word) k =
      run_costly inner (words_from word (command_at at script)) (behind_command inner script at k)
  stand_next inner script (stand.Evaluates at evaluation) k = evaluation_next inner evaluation (behind_command inner script at k)

-- a command was done, or costs more than is left
abbrev pub IsDone : Tried → Type 0
IsDone (tried.Gives value) = Unit {0}
IsDone tried.Spent = Unit {0}
IsDone (tried.Left values) = ⊥
IsDone (tried.Costly count) = ⊥
IsDone (tried.Evaluates evaluation) = ⊥

-- how much of a command of these words there is to go over
abbrev pub tried_size : TreeWords → Tried → ℕ
tried_size words (tried.Gives value) = 0
tried_size words tried.Spent = 0
tried_size words (tried.Left values) = words_size (words_from (length values) words)
tried_size words (tried.Costly count) = words_size (words_from count words)
tried_size words (tried.Evaluates evaluation) = 0

-- how much of a script there is to go over from where it stands
abbrev pub stand_size : Commands → Stand → ℕ
stand_size script (stand.Ends value) = 0
stand_size script stand.Spent = 0
stand_size script (stand.Waits at values) =
    words_size (words_from (length values) (command_at at script)) + 1 + commands_size (commands_from (at + 1) script)
stand_size script (stand.Costly at word) =
    words_size (words_from word (command_at at script)) + 1 + commands_size (commands_from (at + 1) script)
stand_size script (stand.Evaluates at evaluation) = commands_size (commands_from (at + 1) script) + 1

-- the place of the command at which a script stands lies below this, so that the next place is a number of the machine's
abbrev pub IsWithin : Stand → Type 0
IsWithin (stand.Ends value) = Unit {0}
IsWithin stand.Spent = Unit {0}
IsWithin (stand.Waits at values) = at < 2 ^ 63
IsWithin (stand.Costly at word) = at < 2 ^ 63
IsWithin (stand.Evaluates at evaluation) = at < 2 ^ 63
