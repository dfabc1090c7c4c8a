-- Turns of loops for which nothing is put on the stack.
use Rattle.std.specs.Prelude.{◌≡◌, ◌≤◌, ℕ, ◌+◌, [], Option, None, Some}
use Rattle.txt_core.specs.Names.{Bytes, Names}
use Rattle.tcl_host.specs.Codes as code_of
use Rattle.tcl_eval.specs.State.{State, LeafTable, Given, Rest, Next, spent, too_deep}
use Rattle.tcl_eval.specs.Going.{Inner, on_ok, give, by_truth}
use Rattle.tcl_eval.specs.Eval.{nested}
use Rattle.tcl_eval.specs.Expressions.{test}
use Rattle.tcl_eval.specs.Loops.{in_loop, between, turn_body}
use Rattle.tcl_eval.specs.Places.{tree_of}
use Rattle.tcl_eval.specs.Straight.{IsWithin, stand_next}
use Rattle.tcl_eval.specs.Engine.{state_of}
use Rattle.tcl_eval.specs.declared.engine.Engine.{Engine}
use Rattle.tcl_eval.specs.declared.stack.Ended.{Ended}
use Rattle.tcl_eval.specs.declared.branch.Turning.{Turning}
use Rattle.tcl_eval.specs.declared.loop_turns.Ran.{Ran}
use Rattle.tcl_eval.specs.declared.loop_turns.Ran.TheVariants as ran
use Rattle.tcl_eval.specs.declared.loop_turns.Tested.{Tested}
use Rattle.tcl_eval.specs.declared.loop_turns.Tested.TheVariants as tested
use Rattle.tcl_eval.specs.declared.loop_turns.Turn.{Turn}
use Rattle.tcl_eval.specs.declared.loop_turns.Turn.TheVariants as turn
use Rattle.tcl_eval.specs.declared.walk_turns.Each.{Each}
use Rattle.tcl_eval.specs.declared.walk_turns.Each.TheVariants as each

-- the place of the command at which a script stands is one behind which another may follow
abbrev pub IsSet : Ran → Type 0
IsSet (ran.Ends value) = Unit {0}
IsSet ran.TooDeep = Unit {0}
IsSet (ran.Stands script stand levels) = IsWithin stand

-- the same of what is left of a turn
abbrev pub IsTurnSet : Turn → Type 0
IsTurnSet (turn.Ends value) = Unit {0}
IsTurnSet turn.Spent = Unit {0}
IsTurnSet turn.Whole = Unit {0}
IsTurnSet (turn.Body text) = IsSet text
IsTurnSet (turn.Next text) = IsSet text

-- the same of what is left of a turn over values
abbrev pub IsEachSet : Each → Type 0
IsEachSet (each.Ends value) = Unit {0}
IsEachSet each.Spent = Unit {0}
IsEachSet (each.Body text) = IsSet text

-- no body stands
abbrev pub IsBehind : Turn → Type 0
IsBehind (turn.Ends value) = Unit {0}
IsBehind turn.Spent = Unit {0}
IsBehind turn.Whole = Unit {0}
IsBehind (turn.Body text) = ⊥
IsBehind (turn.Next text) = Unit {0}

-- a condition was evaluated
abbrev pub IsTruth : Tested → Type 0
IsTruth tested.Holds = Unit {0}
IsTruth tested.Fails = Unit {0}
IsTruth (tested.Ends value) = Unit {0}
IsTruth tested.Spent = ⊥
IsTruth tested.Left = ⊥

module _ {H : Type 0} where
  -- how a command goes on by a condition
  abbrev pub tested_next : Inner H → Bytes → Tested → Rest H → Rest H → Next H → Rest H
  tested_next inner text tested.Holds first second k = first
  tested_next inner text tested.Fails first second k = second
  tested_next inner text (tested.Ends value) first second k = give value k
  tested_next inner text tested.Spent first second k = λ state budget given. spent state
  tested_next inner text tested.Left first second k = test inner text first second k

  -- a value is looked at as that of a condition
  abbrev pub IsTested : Inner H → Tested → Ended → Type 0
  IsTested inner what value =
      (text : Bytes) (first second : Rest H) (k : Next H) (state : State H) (budget : ℕ) (given : Given)
      → tested_next inner text what first second k state budget given ≡ on_ok (λ v. by_truth v first second k) k value.code value.result state budget given

  -- at least so much was paid for a condition
  abbrev pub TestPays : Tested → Engine H → Engine H → Type 0
  TestPays tested.Holds new old = new.budget + 1 ≤ old.budget
  TestPays tested.Fails new old = new.budget + 1 ≤ old.budget
  TestPays (tested.Ends value) new old = new.budget + 1 ≤ old.budget
  TestPays tested.Spent new old = new.budget ≤ old.budget
  TestPays tested.Left new old = new.budget ≤ old.budget

  -- at least so much was paid for a turn, where the loop ends with it, and where it goes on
  abbrev pub TurnPays : ℕ → ℕ → Option Turn → Engine H → Engine H → Type 0
  TurnPays ends goes None new old = new.budget + goes ≤ old.budget
  TurnPays ends goes (Some (turn.Ends value)) new old = new.budget + ends ≤ old.budget
  TurnPays ends goes (Some turn.Spent) new old = new.budget ≤ old.budget
  TurnPays ends goes (Some turn.Whole) new old = new.budget ≤ old.budget
  TurnPays ends goes (Some (turn.Body text)) new old = new.budget + goes ≤ old.budget
  TurnPays ends goes (Some (turn.Next text)) new old = new.budget + goes ≤ old.budget

  -- a turn over values whose body stands was paid for
  abbrev pub EachPays : Engine H → Engine H → Each → Type 0
  EachPays new old (each.Ends value) = new.budget ≤ old.budget
  EachPays new old each.Spent = new.budget ≤ old.budget
  EachPays new old (each.Body text) = new.budget + 1 ≤ old.budget

  -- One way to go on from the new engine comes to the same as another one from the old engine, whatever comes behind this turn and
  -- behind the loop.
  abbrev pub Leads : Engine H → Engine H → (Rest H → Next H → Rest H) → (Rest H → Next H → Rest H) → Type 0
  Leads new old new_way old_way = (go : Rest H) (k : Next H) (given : Given) → new_way go k (state_of new) new.budget given ≡ old_way go k (state_of old) old.budget given

module _ {H : Type 0} (names : Names) (table : LeafTable H) where
  -- how a text goes on that was run
  abbrev pub ran_next : Ran → Next H → Rest H
  ran_next (ran.Ends value) k = give value k
  ran_next ran.TooDeep k = λ state budget given. too_deep state
  ran_next (ran.Stands script stand levels) k = stand_next names table (nested names table levels) (tree_of script.value) stand k

  -- how a loop goes on with what is left of a turn, and then with the next turn
  abbrev pub turn_next : Inner H → Turning → Option Turn → Rest H → Next H → Rest H
  turn_next inner turning None go k = go
  turn_next inner turning (Some (turn.Ends value)) go k = give value k
  turn_next inner turning (Some turn.Spent) go k = λ state budget given. spent state
  turn_next inner turning (Some turn.Whole) go k = test inner turning.condition (turn_body inner turning go k) (k code_of.ok []) k
  turn_next inner turning (Some (turn.Body text)) go k = ran_next text (in_loop (between inner turning.next go k) k)
  turn_next inner turning (Some (turn.Next text)) go k = ran_next text (in_loop go k)

  -- how a loop over values goes on with what is left of a turn, and then with the next turn
  abbrev pub each_next : Option Each → Rest H → Next H → Rest H
  each_next None go k = go
  each_next (Some (each.Ends value)) go k = give value k
  each_next (Some each.Spent) go k = λ state budget given. spent state
  each_next (Some (each.Body text)) go k = ran_next text (in_loop go k)

-- how many texts may be run for nothing once what is left of a turn stands on the stack
abbrev pub turn_free : Turn → ℕ
turn_free (turn.Ends value) = 0
turn_free turn.Spent = 0
turn_free turn.Whole = 0
turn_free (turn.Body text) = 2
turn_free (turn.Next text) = 1

-- the same, where there may be none
abbrev pub option_free : Option Turn → ℕ
option_free None = 1
option_free (Some what) = turn_free what

-- the same of what is left of a turn over values
abbrev pub each_free : Each → ℕ
each_free (each.Ends value) = 0
each_free each.Spent = 0
each_free (each.Body text) = 1
