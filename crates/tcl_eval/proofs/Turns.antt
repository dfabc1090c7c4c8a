-- What loops come to.
use Rattle.std.proofs.Common.{◌≡◌, ◌≢◌, ℕ, suc, ◌+◌, ◌-◌, ◌≤◌, List, [], ◌∷◌, ◌++◌, drop, length, Bool, cond, Option, Some, None, min, refl, sym, ap, ◌∙◌, arith}
use Rattle.std.proofs.lemmas.List.{drop-drop}
use Rattle.std.specs.Int.{div_ceil}
use Rattle.std.proofs.lemmas.Bool.{le-ltb, eq-eqb}
use Rattle.txt_core.specs.Names.{Names}
use Rattle.txt_core.specs.Lists.{Listing, elements, bad_at}
use Rattle.txt_core.specs.Listing.{listing}
use Rattle.tcl_eval.specs.State.{State, LeafTable, Given, Out, Rest, Next, spent}
use Rattle.tcl_eval.specs.Eval.{Inner, unread, nested, on_ok, by_truth, give, wrong_words_end, arg, fails}
use Rattle.tcl_eval.specs.Expressions.{evaluate}
use Rattle.tcl_eval.specs.Messages.{no_list}
use Rattle.tcl_eval.specs.Loops.{flow_of, by_flow, in_loop, between, turns, turn_body, turn_on, do_while, do_for, walk_on, walk_all, over_values, over_names, do_foreach}
use Rattle.tcl_eval.specs.Stack.{stack_next}
use Rattle.tcl_eval.specs.Engine.{state_of}
use Rattle.tcl_eval.specs.declared.engine.Engine.{Engine}
use Rattle.tcl_eval.specs.declared.loops.Flow.{Flow}
use Rattle.tcl_eval.specs.declared.loops.Flow.TheVariants.{On}
use Rattle.tcl_eval.specs.declared.branch.Turning.{Turning}
use Rattle.tcl_eval.specs.declared.branch.Walk.{Walk}
use Rattle.tcl_eval.specs.declared.branch.Branch.TheVariants as branch
use Rattle.tcl_eval.specs.declared.stack.Frame.{Frame}
use Rattle.tcl_eval.specs.declared.stack.Frame.TheVariants.{Branch as Branching}
use Rattle.tcl_eval.proofs.Stacks.{pushed}
use Rattle.tcl_eval.proofs.Branches.{dropped}

module _ {H : Type 0} where
  -- a part of a loop ended, and the loop goes on
  pub loop_on : (code : ℕ) (result : List ℕ) (go : Rest H) (k : Next H) (s : State H) (b : ℕ) (g : Given) → On ≡ flow_of code result → go s b g ≡ in_loop go k code result s b g
  loop_on code result go k s b g e = ap (λ (f : Flow). by_flow f go k s b g) e

module _ {H : Type 0} (ns : Names) (t : LeafTable H) where
  -- a turn begins with the condition of its loop
  pub turn_step : (fs fs1 : List Frame) (shared : _) (turning : Turning) (left less levels : ℕ) (s : State H) (b : ℕ) (g : Given) → fs1 ≡ fs ++ Branching (branch.Condition shared less levels) ∷ [] → shared.value ≡ turning → left ≡ suc less → evaluate (nested ns t levels) turning.condition (stack_next ns t fs1) s b g ≡ turns (nested ns t levels) turning left (stack_next ns t fs) s b g
  turn_step fs fs1 shared turning left less levels s b g push same l =
      let inner = nested ns t levels in
      let k = stack_next ns t fs in
      ap (λ (x : Next H). evaluate inner turning.condition x s b g) (pushed ns t fs fs1 (Branching (branch.Condition shared less levels)) push)
      ∙ ap (λ (v : Turning). evaluate inner turning.condition (on_ok (λ value. by_truth value (turn_body inner v (turns inner v less k) k) (k 0 []) k) k) s b g) same
      ∙ sym (ap (λ (n : ℕ). turns inner turning n k s b g) l)

  -- a turn is paid for, and its body begins
  pub body_step : (old paid : Engine H) (fs1 : List Frame) (shared : _) (turning : Turning) (cost left levels : ℕ) (g : Given) (x : Out H) → cost ≡ 1 → cost ≤ old.budget → paid ≡ record old { budget = old.budget - cost } → fs1 ≡ paid.stack.items ++ Branching (branch.Body shared left levels) ∷ [] → shared.value ≡ turning → x ≡ (nested ns t levels).run (unread turning.body) (stack_next ns t fs1) (state_of paid) paid.budget g → x ≡ turn_body (nested ns t levels) turning (turns (nested ns t levels) turning left (stack_next ns t old.stack.items)) (stack_next ns t old.stack.items) (state_of old) old.budget g
  body_step old paid fs1 shared turning cost left levels g x one enough is push same e =
      let inner = nested ns t levels in
      let k = stack_next ns t old.stack.items in
      let less : 1 ≤ old.budget = omega (arith, one, enough) in
      let go : Next H → Rest H = λ (k : Next H). inner.run (unread turning.body) (in_loop (between inner turning.next (turns inner turning left k) k) k) in
      e
      ∙ ap (λ (y : Next H). inner.run (unread turning.body) y (state_of paid) paid.budget g) (pushed ns t paid.stack.items fs1 (Branching (branch.Body shared left levels)) push)
      ∙ ap (λ (v : Turning). inner.run (unread turning.body) (in_loop (between inner v.next (turns inner v left (stack_next ns t paid.stack.items)) (stack_next ns t paid.stack.items)) (stack_next ns t paid.stack.items)) (state_of paid) paid.budget g) same
      ∙ ap (λ (p : Engine H). go (stack_next ns t p.stack.items) (state_of p) p.budget g) is
      ∙ ap (λ (n : ℕ). go k (state_of old) (old.budget - n) g) one
      ∙ sym (ap (λ (c : Bool). cond c (spent (state_of old)) (go k (state_of old) (old.budget - 1) g)) (le-ltb old.budget 1 less))

  -- behind a body the script between two turns begins
  pub next_step : (fs fs1 : List Frame) (shared : _) (turning : Turning) (next : List ℕ) (code left levels : ℕ) (result : List ℕ) (s : State H) (b : ℕ) (g : Given) (x : Out H) → fs1 ≡ fs ++ Branching (branch.Next shared left levels) ∷ [] → shared.value ≡ turning → On ≡ flow_of code result → Some next ≡ turning.next → x ≡ (nested ns t levels).run (unread next) (stack_next ns t fs1) s b g → x ≡ in_loop (between (nested ns t levels) turning.next (turns (nested ns t levels) turning left (stack_next ns t fs)) (stack_next ns t fs)) (stack_next ns t fs) code result s b g
  next_step fs fs1 shared turning next code left levels result s b g x push same on there e =
      let inner = nested ns t levels in
      let k = stack_next ns t fs in
      let go = turns inner turning left k in
      e
      ∙ ap (λ (y : Next H). inner.run (unread next) y s b g) (pushed ns t fs fs1 (Branching (branch.Next shared left levels)) push)
      ∙ ap (λ (v : Turning). inner.run (unread next) (in_loop (turns inner v left k) k) s b g) same
      ∙ ap (λ (o : Option (List ℕ)). between inner o go k s b g) there
      ∙ loop_on code result (between inner turning.next go k) k s b g on

  -- a loop is read off its words
  pub while_step : (inner : Inner H) (words : List (List ℕ)) (condition body : List ℕ) (k : Next H) (s : State H) (b : ℕ) (g : Given) (x : Out H) → length words ≡ 3 → condition ≡ arg words 1 → body ≡ arg words 2 → x ≡ turn_on inner (record { condition = condition; next = None; body = body }) k s b g → x ≡ do_while inner words k s b g
  while_step inner words condition body k s b g x three first second e =
      let all : Turning = record { condition = arg words 1; next = None; body = arg words 2 } in
      e
      ∙ ap (λ (v : List ℕ). turn_on inner (record { condition = v; next = None; body = body }) k s b g) first
      ∙ ap (λ (v : List ℕ). turn_on inner (record { condition = arg words 1; next = None; body = v }) k s b g) second
      ∙ sym (ap (λ (c : Bool). (cond c (turn_on inner all k) (give (wrong_words_end words) k)) s b g) (eq-eqb (length words) 3 three))

  pub for_step : (fs fs1 : List Frame) (words : List (List ℕ)) (shared : _) (levels : ℕ) (start condition next body : List ℕ) (s : State H) (b : ℕ) (g : Given) (x : Out H) → fs1 ≡ fs ++ Branching (branch.Start shared levels) ∷ [] → length words ≡ 5 → shared.value ≡ record { condition = condition; next = Some next; body = body } → start ≡ arg words 1 → condition ≡ arg words 2 → next ≡ arg words 3 → body ≡ arg words 4 → x ≡ (nested ns t levels).run (unread start) (stack_next ns t fs1) s b g → x ≡ do_for (nested ns t levels) words (stack_next ns t fs) s b g
  for_step fs fs1 words shared levels start condition next body s b g x push five is first second third fourth e =
      let inner = nested ns t levels in
      let k = stack_next ns t fs in
      let all : Turning = record { condition = arg words 2; next = Some (arg words 3); body = arg words 4 } in
      let go : Turning → List ℕ → Out H = λ (v : Turning) (text : List ℕ). inner.run (unread text) (on_ok (λ _. turn_on inner v k) k) s b g in
      e
      ∙ ap (λ (y : Next H). inner.run (unread start) y s b g) (pushed ns t fs fs1 (Branching (branch.Start shared levels)) push)
      ∙ ap (λ (v : Turning). go v start) is
      ∙ ap (λ (v : List ℕ). go (record { condition = condition; next = Some next; body = body }) v) first
      ∙ ap (λ (v : List ℕ). go (record { condition = v; next = Some next; body = body }) (arg words 1)) second
      ∙ ap (λ (v : List ℕ). go (record { condition = arg words 2; next = Some v; body = body }) (arg words 1)) third
      ∙ ap (λ (v : List ℕ). go (record { condition = arg words 2; next = Some (arg words 3); body = v }) (arg words 1)) fourth
      ∙ sym (ap (λ (c : Bool). (cond c (inner.run (unread (arg words 1)) (on_ok (λ _. turn_on inner all k) k)) (give (wrong_words_end words) k)) s b g) (eq-eqb (length words) 5 five))

-- ---- walks

-- the values behind those of a turn
pub behind_turn : {A : Type 0} → (xs : List A) (at count next : ℕ) → next ≡ min (at + count) (length xs) → drop next xs ≡ drop count (drop at xs)
behind_turn xs at count next e = dropped xs at count next e ∙ sym (drop-drop count at xs)

module _ {H : Type 0} (ns : Names) (t : LeafTable H) where
  -- the turns over all values begin
  pub walk_step : (inner : Inner H) (walk shared : Walk) (count values names : ℕ) (k : Next H) (s : State H) (b : ℕ) (g : Given) (x : Out H) → shared ≡ walk → count ≡ div_ceil values names → values ≡ length walk.values → names ≡ length walk.names → x ≡ walk_on inner shared.names shared.body count (drop 0 shared.values) k s b g → x ≡ walk_all inner walk.names walk.values walk.body k s b g
  walk_step inner walk shared count values names k s b g x same counted all each e =
      e
      ∙ ap (λ (v : Walk). walk_on inner v.names v.body count (drop 0 v.values) k s b g) same
      ∙ ap (λ (n : ℕ). walk_on inner walk.names walk.body n walk.values k s b g) counted
      ∙ ap (λ (n : ℕ). walk_on inner walk.names walk.body (div_ceil n names) walk.values k s b g) all
      ∙ ap (λ (n : ℕ). walk_on inner walk.names walk.body (div_ceil (length walk.values) n) walk.values k s b g) each

  -- names, of which there is one at least
  over_some : (inner : Inner H) (words names values : List (List ℕ)) (body : List ℕ) (k : Next H) (s : State H) (b : ℕ) (g : Given) (x : Out H) → length names ≢ 0 → listing (arg words 2) ≡ elements values → body ≡ arg words 3 → x ≡ walk_all inner names values body k s b g → x ≡ over_names inner (elements names) words k s b g
  over_some inner words [] values body k s b g x some second third e = absurd (some refl)
  over_some inner words (name ∷ names) values body k s b g x some second third e =
      e
      ∙ ap (λ (v : List ℕ). walk_all inner (name ∷ names) values v k s b g) third
      ∙ sym (ap (λ (l : Listing). over_values inner (name ∷ names) l (arg words 3) k s b g) second)

  -- the words of a loop over values were read
  pub foreach_step : (inner : Inner H) (words names values : List (List ℕ)) (first second body : List ℕ) (k : Next H) (s : State H) (b : ℕ) (g : Given) (x : Out H) → length words ≡ 4 → first ≡ arg words 1 → listing first ≡ elements names → length names ≢ 0 → second ≡ arg words 2 → listing second ≡ elements values → body ≡ arg words 3 → x ≡ walk_all inner names values body k s b g → x ≡ do_foreach inner words k s b g
  foreach_step inner words names values first second body k s b g x four one named some two listed three e =
      let names_are : listing (arg words 1) ≡ elements names = sym (ap (λ (v : List ℕ). listing v) one) ∙ named in
      let values_are : listing (arg words 2) ≡ elements values = sym (ap (λ (v : List ℕ). listing v) two) ∙ listed in
      over_some inner words names values body k s b g x some values_are three e
      ∙ sym (ap (λ (l : Listing). over_names inner l words k s b g) names_are)
      ∙ sym (ap (λ (c : Bool). (cond c (over_names inner (listing (arg words 1)) words k) (give (wrong_words_end words) k)) s b g) (eq-eqb (length words) 4 four))

  -- names, of which there is one at least, and values that are no list
  over_bad : (inner : Inner H) (words names : List (List ℕ)) (place : ℕ) (k : Next H) (s : State H) (b : ℕ) (g : Given) (x : Out H) → length names ≢ 0 → listing (arg words 2) ≡ bad_at place → x ≡ fails (no_list place) k s b g → x ≡ over_names inner (elements names) words k s b g
  over_bad inner words [] place k s b g x some second e = absurd (some refl)
  over_bad inner words (name ∷ names) place k s b g x some second e =
      e ∙ sym (ap (λ (l : Listing). over_values inner (name ∷ names) l (arg words 3) k s b g) second)

  -- the words of a loop over values were read, but its values are no list
  pub foreach_bad_step : (inner : Inner H) (words names : List (List ℕ)) (first second : List ℕ) (place : ℕ) (k : Next H) (s : State H) (b : ℕ) (g : Given) (x : Out H) → length words ≡ 4 → first ≡ arg words 1 → listing first ≡ elements names → length names ≢ 0 → second ≡ arg words 2 → listing second ≡ bad_at place → x ≡ fails (no_list place) k s b g → x ≡ do_foreach inner words k s b g
  foreach_bad_step inner words names first second place k s b g x four one named some two bad e =
      let names_are : listing (arg words 1) ≡ elements names = sym (ap (λ (v : List ℕ). listing v) one) ∙ named in
      let values_are : listing (arg words 2) ≡ bad_at place = sym (ap (λ (v : List ℕ). listing v) two) ∙ bad in
      over_bad inner words names place k s b g x some values_are e
      ∙ sym (ap (λ (l : Listing). over_names inner l words k s b g) names_are)
      ∙ sym (ap (λ (c : Bool). (cond c (over_names inner (listing (arg words 1)) words k) (give (wrong_words_end words) k)) s b g) (eq-eqb (length words) 4 four))
