-- Turns of loops for which nothing is put on the stack.
use Rattle.std.proofs.Common.{◌≡◌, ◌≤◌, ◌<◌, ℕ, suc, ◌+◌, ◌-◌, List, [], ◌∷◌, ◌++◌, length, drop, Bool, true, false, cond, nat_lt, Option, Some, None, refl, sym, ap, ◌∙◌, arith}
use Rattle.std.proofs.lemmas.Bool.{le-ltb}
use Rattle.txt_core.specs.Names.{Names}
use Rattle.txt_core.specs.Truth.{truth}
use Rattle.tcl_parse.specs.declared.tree.Script as code_script
use Rattle.tcl_parse.specs.Outcome as parsed
use Rattle.tcl_parse.specs.Tree as tree
use Rattle.tcl_parse.specs.Reading.{reading}
use Rattle.tcl_parse.specs.View.{script_of}
use Rattle.tcl_expr.specs.Grammar.{Reads}
use Rattle.tcl_expr.specs.Outcome as expr_outcome
use Rattle.tcl_expr.specs.Outcome.{Answer}
use Rattle.tcl_expr.specs.Reading.{expression_is}
use Rattle.tcl_expr.specs.Trees.{Tree}
use Rattle.tcl_eval.specs.State.{State, LeafTable, Given, Out, Rest, Next, spent}
use Rattle.tcl_eval.specs.Eval.{unread, by_truth, give, nested, on_ok, pay, run_commands, run_reading, run_script, write_all}
use Rattle.tcl_eval.specs.Expressions.{evaluate, run_answer, test}
use Rattle.tcl_eval.specs.Places.{tree_of}
use Rattle.tcl_eval.specs.AtOnce.{HasTruth, at_once}
use Rattle.tcl_eval.specs.Engine.{state_of}
use Rattle.std.specs.Prelude.{IfSome}
use Rattle.tcl_eval.specs.Loops.{assigned, in_loop, turns, turn_body, walk_on}
use Rattle.tcl_eval.specs.Stack.{frame_next, stack_next, stack_free}
use Rattle.tcl_eval.specs.Engine.{Enters, Nears, Opens, acted_next, credit, gone_next, gone_of}
use Rattle.tcl_eval.specs.Turns.{EachPays, IsBehind, TurnPays, each_free, option_free, ran_next, turn_free}
use Rattle.tcl_eval.specs.declared.branch.Turning.{Turning}
use Rattle.tcl_eval.specs.declared.branch.Walk.{Walk}
use Rattle.tcl_eval.specs.declared.walk_turns.Each.{Each}
use Rattle.tcl_eval.specs.declared.walk_turns.Each.TheVariants as each
use Rattle.tcl_eval.specs.declared.branch.Branch.TheVariants as branch
use Rattle.tcl_eval.specs.declared.engine.OpenQuestion.{OpenQuestion}
use Rattle.tcl_eval.specs.declared.loop_turns.Ran.{Ran}
use Rattle.tcl_eval.specs.declared.stack.Acted.{Acted}
use Rattle.tcl_eval.specs.declared.stack.Acted.TheVariants as acted
use Rattle.tcl_eval.specs.declared.stack.Frame.{Frame}
use Rattle.tcl_eval.specs.declared.stack.Frame.TheVariants.{Branch as Branching}
use Rattle.tcl_eval.specs.declared.stack.Gone.{Gone}
use Rattle.tcl_eval.specs.declared.stack.Gone.TheVariants as gone
use Rattle.tcl_eval.proofs.Stacks.{pushed}
use Rattle.tcl_eval.specs.declared.engine.Engine.{Engine}
use Rattle.tcl_eval.specs.declared.stack.Ended.{Ended}
use Rattle.tcl_eval.specs.declared.loop_turns.Turn.{Turn}
use Rattle.tcl_eval.specs.declared.loop_turns.Turn.TheVariants as turn
use Rattle.tcl_eval.specs.Going.{decided}
use Rattle.tcl_eval.specs.Messages.{no_boolean}
use Rattle.tcl_eval.specs.Results.{ended, error_of}
use Rattle.tcl_eval.proofs.AtOnce.{expression_gives}
use Rattle.tcl_eval.proofs.Steps.{good_code}

module _ {H : Type 0} (ns : Names) (t : LeafTable H) where
  -- a text is this script
  pub script_read : (found : code_script.Script) (levels less : ℕ) (bytes : List ℕ) (k : Next H) (s : State H) (b : ℕ) (g : Given) → levels ≡ suc less → reading bytes ≡ parsed.done (script_of found) [] → run_commands ns t (nested ns t less) (tree_of found) [] k s b g ≡ run_script ns t levels (unread bytes) k s b g
  script_read found levels less bytes k s b g l reads =
      sym (ap (λ (o : parsed.Outcome tree.Script). run_reading ns t (nested ns t less) bytes o k s b g) reads)
      ∙ sym (ap (λ (n : ℕ). run_script ns t n (unread bytes) k s b g) l)

  -- a condition comes to this at once
  pub test_gives : (levels : ℕ) (text : List ℕ) (x : Tree) (value : Ended) (first second : Rest H) (k : Next H) (s : State H) (b : ℕ) (g : Given) → Reads text (expr_outcome.tree x) → at_once s.frames x ≡ Some value → pay 1 (on_ok (λ v. by_truth v first second k) k value.code value.result) s b g ≡ test (nested ns t levels) text first second k s b g
  test_gives levels text x value first second k s b g reads found =
      let inner = nested ns t levels in
      let after : Next H = on_ok (λ v. by_truth v first second k) k in
      ap (λ (o : Out H). cond (nat_lt b 1) (spent s) o)
      (expression_gives ns t levels s (b - 1) g x after value found
      ∙ sym (ap (λ (a : Answer). run_answer inner text a after s (b - 1) g) (expression_is text (expr_outcome.tree x) reads)))

module _ {H : Type 0} where
  -- 1 was paid
  pub paid_one : (old paid : Engine H) (cost : ℕ) (go : Rest H) (g : Given) (x : Out H) → cost ≡ 1 → cost ≤ old.budget → paid ≡ record old { budget = old.budget - cost } → x ≡ go (state_of paid) paid.budget g → x ≡ pay 1 go (state_of old) old.budget g
  paid_one old paid cost go g x one enough is e =
      let less : 1 ≤ old.budget = omega (arith, one, enough) in
      e
      ∙ ap (λ (p : Engine H). go (state_of p) p.budget g) is
      ∙ ap (λ (n : ℕ). go (state_of old) (old.budget - n) g) one
      ∙ sym (ap (λ (c : Bool). cond c (spent (state_of old)) (go (state_of old) (old.budget - 1) g)) (le-ltb old.budget 1 less))

  -- what was paid before counts too
  pub pays_more : (ends goes more : ℕ) (what : Option Turn) (new mid old : Engine H) → TurnPays ends goes what new mid → mid.budget + more ≤ old.budget → TurnPays (ends + more) (goes + more) what new old
  pays_more ends goes more None new mid old h le = omega (arith, h, le)
  pays_more ends goes more (Some (turn.Ends value)) new mid old h le = omega (arith, h, le)
  pays_more ends goes more (Some turn.Spent) new mid old h le = omega (arith, h, le)
  pays_more ends goes more (Some turn.Whole) new mid old h le = omega (arith, h, le)
  pays_more ends goes more (Some (turn.Body text)) new mid old h le = omega (arith, h, le)
  pays_more ends goes more (Some (turn.Next text)) new mid old h le = omega (arith, h, le)

  -- less is asked for where the loop ends
  pub pays_less : (ends fewer goes : ℕ) (what : Option Turn) (new old : Engine H) → fewer ≤ ends → TurnPays ends goes what new old → TurnPays fewer goes what new old
  pays_less ends fewer goes None new old le h = h
  pays_less ends fewer goes (Some (turn.Ends value)) new old le h = omega (arith, h, le)
  pays_less ends fewer goes (Some turn.Spent) new old le h = h
  pays_less ends fewer goes (Some turn.Whole) new old le h = h
  pays_less ends fewer goes (Some (turn.Body text)) new old le h = h
  pays_less ends fewer goes (Some (turn.Next text)) new old le h = h

module _ {H : Type 0} where
  -- a value has no truth
  pub no_truth : (first second : Rest H) (k : Next H) (value error : Ended) (s : State H) (b : ℕ) (g : Given) → value.code ≡ 0 → None ≡ truth value.result → error ≡ error_of (no_boolean value.result) → give error k s b g ≡ on_ok (λ v. by_truth v first second k) k value.code value.result s b g
  no_truth first second k value error s b g z none is =
      ap (λ (v : Ended). give v k s b g) is
      ∙ ap (λ (o : Option Bool). decided o value.result first second k s b g) none
      ∙ good_code (λ v. by_truth v first second k) k value s b g z

-- behind a body no body stands
pub behind_free : (o : Option Turn) → IfSome o IsBehind → option_free o ≤ 1
behind_free None h = omega arith
behind_free (Some (turn.Ends value)) h = omega arith
behind_free (Some turn.Spent) h = omega arith
behind_free (Some turn.Whole) h = omega arith
behind_free (Some (turn.Body text)) h = absurd h
behind_free (Some (turn.Next text)) h = omega arith

module _ {H : Type 0} (ns : Names) (t : LeafTable H) where
  -- a loop stands on the stack whose turns come next
  pub turns_pushed : (fs fs1 : List Frame) (shared : _) (turning : Turning) (left levels : ℕ) (value : Ended) (s : State H) (b : ℕ) (g : Given) → fs1 ≡ fs ++ Branching (branch.Next shared left levels) ∷ [] → shared.value ≡ turning → value ≡ ended 0 [] → give value (stack_next ns t fs1) s b g ≡ turns (nested ns t levels) turning left (stack_next ns t fs) s b g
  turns_pushed fs fs1 shared turning left levels value s b g push same is =
      ap (λ (v : Ended). give v (stack_next ns t fs1) s b g) is
      ∙ ap (λ (x : Next H). x 0 [] s b g) (pushed ns t fs fs1 (Branching (branch.Next shared left levels)) push)
      ∙ ap (λ (v : Turning). turns (nested ns t levels) v left (stack_next ns t fs) s b g) same

  -- what is left of a turn stands on the stack
  pub ran_pushed : (fs fs1 : List Frame) (f : Frame) (ran : Ran) (s : State H) (b : ℕ) (g : Given) → fs1 ≡ fs ++ f ∷ [] → ran_next ns t ran (stack_next ns t fs1) s b g ≡ ran_next ns t ran (frame_next ns t f (stack_next ns t fs)) s b g
  ran_pushed fs fs1 f ran s b g push = ap (λ (x : Next H). ran_next ns t ran x s b g) (pushed ns t fs fs1 f push)

  -- the condition of a turn begins
  pub condition_pushed : (fs fs1 : List Frame) (shared : _) (turning : Turning) (left levels : ℕ) (s : State H) (b : ℕ) (g : Given) → fs1 ≡ fs ++ Branching (branch.Condition shared left levels) ∷ [] → shared.value ≡ turning → evaluate (nested ns t levels) turning.condition (stack_next ns t fs1) s b g ≡ test (nested ns t levels) turning.condition (turn_body (nested ns t levels) turning (turns (nested ns t levels) turning left (stack_next ns t fs)) (stack_next ns t fs)) (stack_next ns t fs 0 []) (stack_next ns t fs) s b g
  condition_pushed fs fs1 shared turning left levels s b g push same =
      let inner = nested ns t levels in
      let k = stack_next ns t fs in
      ap (λ (x : Next H). evaluate inner turning.condition x s b g) (pushed ns t fs fs1 (Branching (branch.Condition shared left levels)) push)
      ∙ ap (λ (v : Turning). evaluate inner turning.condition (on_ok (λ value. by_truth value (turn_body inner v (turns inner v left k) k) (k 0 []) k) k) s b g) same

  -- what asked nothing goes on so
  pub gone_same : (a : Acted) (opened : Option OpenQuestion) (k : Next H) (s : State H) (b : ℕ) (g : Given) → Enters a (Unit {0}) → gone_next ns t (gone_of a) k s b g ≡ acted_next ns t a opened k s b g
  gone_same (acted.Gives value) opened k s b g h = refl
  gone_same (acted.Asks question) opened k s b g h = absurd h
  gone_same acted.TooDeep opened k s b g h = refl
  gone_same acted.Spent opened k s b g h = refl

pub enters_any : (a : Acted) (fact : Type 0) → Enters a fact → Enters a (Unit {0})
enters_any (acted.Gives value) fact h = tt
enters_any (acted.Asks question) fact h = absurd h
enters_any acted.TooDeep fact h = tt
enters_any acted.Spent fact h = tt

module _ {H : Type 0} (ns : Names) (t : LeafTable H) where
  -- the same of what a command came to
  pub goes_on : (a : Acted) (what : Gone) (fact : Type 0) (k : Next H) (s : State H) (b : ℕ) (g : Given) (x : Out H) → what ≡ gone_of a → Enters a fact → acted_next ns t a None k s b g ≡ x → gone_next ns t what k s b g ≡ x
  goes_on a what fact k s b g x is h e =
      ap (λ (y : Gone). gone_next ns t y k s b g) is ∙ gone_same ns t a None k s b g (enters_any a fact h) ∙ e

module _ {H : Type 0} where
  pub gone_nears : (a : Acted) (engine : Engine H) (less most : ℕ) → less ≤ most → Enters a (credit engine < less) → Nears (gone_of a) engine most
  gone_nears (acted.Gives value) engine less most le h = omega (arith, le, h)
  gone_nears (acted.Asks question) engine less most le h = tt
  gone_nears acted.TooDeep engine less most le h = tt
  gone_nears acted.Spent engine less most le h = tt

  pub nears_more : (what : Gone) (engine : Engine H) (less most : ℕ) → less ≤ most → Nears what engine less → Nears what engine most
  nears_more (gone.Goes s) engine less most le h = omega (arith, le, h)
  nears_more gone.TooDeep engine less most le h = tt
  nears_more gone.Spent engine less most le h = tt

  pub opens_closed : (a : Acted) (new old : Engine H) → Enters a (Unit {0}) → Opens a new old → new.question ≡ old.question
  opens_closed (acted.Gives value) new old h o = o
  opens_closed (acted.Asks question) new old h o = absurd h
  opens_closed acted.TooDeep new old h o = o
  opens_closed acted.Spent new old h o = o

  -- what was paid for a turn makes room for what stands on the stack
  pub turn_room : (what : Turn) (new old : Engine H) → TurnPays 1 2 (Some what) new old → new.stack ≡ old.stack → credit new + turn_free what < credit old + 1
  turn_room (turn.Ends value) new old h same = omega (arith, h, ap (λ st. stack_free st.items) same)
  turn_room turn.Spent new old h same = omega (arith, h, ap (λ st. stack_free st.items) same)
  turn_room turn.Whole new old h same = omega (arith, h, ap (λ st. stack_free st.items) same)
  turn_room (turn.Body text) new old h same = omega (arith, h, ap (λ st. stack_free st.items) same)
  turn_room (turn.Next text) new old h same = omega (arith, h, ap (λ st. stack_free st.items) same)

  pub body_room : (what : Option Turn) (new old : Engine H) → TurnPays 1 1 what new old → new.stack ≡ old.stack → credit new + option_free what < credit old + 1
  body_room None new old h same = omega (arith, h, ap (λ st. stack_free st.items) same)
  body_room (Some (turn.Ends value)) new old h same = omega (arith, h, ap (λ st. stack_free st.items) same)
  body_room (Some turn.Spent) new old h same = omega (arith, h, ap (λ st. stack_free st.items) same)
  body_room (Some turn.Whole) new old h same = omega (arith, h, ap (λ st. stack_free st.items) same)
  body_room (Some (turn.Body text)) new old h same = omega (arith, h, ap (λ st. stack_free st.items) same)
  body_room (Some (turn.Next text)) new old h same = omega (arith, h, ap (λ st. stack_free st.items) same)

  pub each_room : (what : Each) (new old : Engine H) → EachPays new old what → new.stack ≡ old.stack → credit new + each_free what < credit old + 1
  each_room (each.Ends value) new old h same = omega (arith, h, ap (λ st. stack_free st.items) same)
  each_room each.Spent new old h same = omega (arith, h, ap (λ st. stack_free st.items) same)
  each_room (each.Body text) new old h same = omega (arith, h, ap (λ st. stack_free st.items) same)

  -- 1 was paid before
  pub each_paid : (what : Option Each) (new paid old : Engine H) → new.budget ≤ paid.budget → paid.budget + 1 ≤ old.budget → IfSome what (EachPays new old)
  each_paid None new paid old le less = tt
  each_paid (Some (each.Ends value)) new paid old le less = omega (arith, le, less)
  each_paid (Some each.Spent) new paid old le less = omega (arith, le, less)
  each_paid (Some (each.Body text)) new paid old le less = omega (arith, le, less)

module _ {H : Type 0} (ns : Names) (t : LeafTable H) where
  -- a loop over values stands on the stack whose turns come next
  pub walk_pushed : (fs fs1 : List Frame) (shared : _) (walk : Walk) (at left levels : ℕ) (value : Ended) (s : State H) (b : ℕ) (g : Given) → fs1 ≡ fs ++ Branching (branch.Each shared at left levels) ∷ [] → shared.value ≡ walk → value ≡ ended 0 [] → give value (stack_next ns t fs1) s b g ≡ walk_on (nested ns t levels) walk.names walk.body left (drop at walk.values) (stack_next ns t fs) s b g
  walk_pushed fs fs1 shared walk at left levels value s b g push same is =
      ap (λ (v : Ended). give v (stack_next ns t fs1) s b g) is
      ∙ ap (λ (x : Next H). x 0 [] s b g) (pushed ns t fs fs1 (Branching (branch.Each shared at left levels)) push)
      ∙ ap (λ (v : Walk). walk_on (nested ns t levels) v.names v.body left (drop at v.values) (stack_next ns t fs) s b g) same

  -- a turn over values is the next one
  pub walk_turn : (walk : Walk) (at next left less levels : ℕ) (k : Next H) (s : State H) (b : ℕ) (g : Given) → left ≡ suc less → drop next walk.values ≡ drop (length walk.names) (drop at walk.values) → pay 1 (write_all (assigned walk.names (drop at walk.values)) (run_script ns t levels (unread walk.body) (in_loop (walk_on (nested ns t levels) walk.names walk.body less (drop next walk.values) k) k)) k) s b g ≡ walk_on (nested ns t levels) walk.names walk.body left (drop at walk.values) k s b g
  walk_turn walk at next left less levels k s b g l behind =
      let inner = nested ns t levels in
      ap (λ (vs : List (List ℕ)). pay 1 (write_all (assigned walk.names (drop at walk.values)) (run_script ns t levels (unread walk.body) (in_loop (walk_on inner walk.names walk.body less vs k) k)) k) s b g) behind
      ∙ sym (ap (λ (n : ℕ). walk_on inner walk.names walk.body n (drop at walk.values) k s b g) l)

module _ {H : Type 0} (ns : Names) (t : LeafTable H) where
  -- a condition is paid for, whose truth is found
  pub test_holds : (levels : ℕ) (text : List ℕ) (x : Tree) (holds : Bool) (first second : Rest H) (k : Next H) (s : State H) (b : ℕ) (g : Given) → Reads text (expr_outcome.tree x) → HasTruth (at_once s.frames x) holds → pay 1 (cond holds first second) s b g ≡ test (nested ns t levels) text first second k s b g
  test_holds levels text x true first second k s b g reads has =
      sym (ap (λ (o : Option Bool). pay 1 (decided o has.0 first second k) s b g) has.2)
      ∙ test_gives ns t levels text x (ended 0 has.0) first second k s b g reads has.1
  test_holds levels text x false first second k s b g reads has =
      sym (ap (λ (o : Option Bool). pay 1 (decided o has.0 first second k) s b g) has.2)
      ∙ test_gives ns t levels text x (ended 0 has.0) first second k s b g reads has.1

module _ {H : Type 0} where
  -- a script of a loop came to a good end
  pub part_good : (value : Ended) (go : Rest H) (k : Next H) (s : State H) (b : ℕ) (g : Given) → value.code ≡ 0 → go s b g ≡ in_loop go k value.code value.result s b g
  part_good value go k s b g z = sym (ap (λ (n : ℕ). in_loop go k n value.result s b g) z)
