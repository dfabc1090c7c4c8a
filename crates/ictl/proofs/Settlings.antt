-- Scripts with their runs inside.
use Rattle.std.proofs.Common.{◌≡◌, ℕ, suc, ◌+◌, ◌-◌, ◌≤◌, List, [], ◌∷◌, refl, sym, ap, ◌∙◌, arith, Option, Some, None}
use Rattle.outside.specs.declared.question.Answer.{Answer}
use Rattle.outside.specs.declared.question.Question.{Question}
use Rattle.outside.specs.declared.question.Service.{Service}
use Rattle.outside.specs.declared.question.Service.TheVariants.{Page, Nsv, Schedule, Publish, Save, Inner}
use Rattle.cmd_table.specs.Commands.{Writes}
use Rattle.server_host.specs.declared.edition.Edition.{Edition}
use Rattle.server_host.specs.Hosts.{HostState}
use Rattle.tcl_eval.specs.State.{State, Given}
use Rattle.ictl.specs.Fresh.{build_steps}
use Rattle.ictl.specs.Settle.{Account, account_of, Settled, Defined, Handler, Onward, behind_inner, behind_other, by_service, settle}
use Rattle.ictl.specs.Defines.{inner_runs, inner_run}
use Rattle.ictl.specs.Standing.{state_of, comes_to, define_at, define_gives, onward, settling_at, settling_gives, written, inner_written}
use Rattle.ictl.specs.Steps.{step_gives}
use Rattle.ictl.specs.declared.running.Stop.{Stop}
use Rattle.ictl.specs.declared.running.Stop.TheVariants as stops
use Rattle.ictl.specs.declared.defining.DefineStop.{DefineStop}
use Rattle.ictl.specs.declared.defining.DefineStop.TheVariants as defines
use Rattle.ictl.specs.declared.inner.InnerRun.{InnerRun}
use Rattle.ictl.specs.declared.settling.Settling.{Settling}
use Rattle.ictl.specs.declared.settling.Step.{Step}
use Rattle.ictl.specs.declared.settling.Step.TheVariants as steps
use Rattle.ictl.proofs.Settles.{settle_same, done_settles, spent_settles, deep_settles, asks_settle}

-- ---- what calls took

-- a call in which nothing was written took nothing
pub none_taken : (inside wrote : ℕ) → inside + (wrote - wrote) ≡ inside
none_taken inside wrote = omega arith

-- what two calls took, one after the other
pub both_taken : (inside first middle last one two three : ℕ) → first + two ≤ middle + one → middle + three ≤ last + two
    → (inside + ((middle + one) - (first + two))) + ((last + two) - (middle + three)) ≡ inside + ((last + one) - (first + three))
both_taken inside first middle last one two three here there = omega (arith, here, there)

-- and that nothing was left out
pub both_counted : (first middle last one two three : ℕ) → first + two ≤ middle + one → middle + three ≤ last + two → first + three ≤ last + one
both_counted first middle last one two three here there = omega (arith, here, there)

-- a call before another that wrote in the table of the run alone
pub own_taken : (inside first middle last one two three : ℕ) → middle + one ≡ first + two → inside + ((last + two) - (middle + three)) ≡ inside + ((last + one) - (first + three))
own_taken inside first middle last one two three is = omega (arith, is)

-- the same of the table alone, beside a run inside
pub beside_inner : (middle first old between inner : ℕ) → middle + old ≡ first + between → middle + (old + inner) ≡ first + (between + inner)
beside_inner middle first old between inner is = omega (arith, is)

pub own_counted : (first middle last one two three : ℕ) → middle + one ≡ first + two → middle + three ≤ last + two → first + three ≤ last + one
own_counted first middle last one two three is there = omega (arith, is, there)

-- a call that made a run inside before another one
pub made_taken : (inside first middle last one made three : ℕ) → middle ≡ first + made → inside + ((last + (one + made)) - (middle + three)) ≡ inside + ((last + one) - (first + three))
made_taken inside first middle last one made three is = omega (arith, is)

pub made_counted : (first middle last one made three : ℕ) → middle ≡ first + made → middle + three ≤ last + (one + made) → first + three ≤ last + one
made_counted first middle last one made three is there = omega (arith, is, there)

-- a run inside that is under way is no more than what it wrote
kept_taken : (inside count own made : ℕ) → inside + ((count + ((own + 0) + made)) - (count + (own + made))) ≡ inside
kept_taken inside count own made = omega arith

ended_taken : (inside count own made : ℕ) → inside + ((count + ((own + 0) + made)) - (count + (own + 0))) ≡ inside + made
ended_taken inside count own made = omega arith

charged_taken : (inside last first old new made : ℕ) → last + old ≡ first + new → inside + ((last + ((old + 0) + made)) - (first + (new + 0))) ≡ inside + made
charged_taken inside last first old new made is = omega (arith, is)

module _ (names : List (List ℕ)) (blueprint : Edition) (moment : ℕ) where
  abbrev handler : Handler
  handler = inner_runs names blueprint moment

  -- what a script comes to that stopped so
  abbrev stopped : Stop → Settling → ℕ → List Answer → Settled
  stopped stop s inside further = settle handler s.questions inside (comes_to names stop s.run) further

  -- ---- where it stops

  pub done_step : (stop : Stop) (code : ℕ) (result : List ℕ) (s : Settling) (inside wrote : ℕ) (further : List Answer) → stop ≡ stops.Ended code result
      → settling_gives names blueprint moment (stops.Ended code result) s (inside + (wrote - wrote)) further ≡ stopped stop s inside further
  done_step stop code result s inside wrote further is =
      ap (λ (n : ℕ). settling_gives names blueprint moment (stops.Ended code result) s n further) (none_taken inside wrote)
      ∙ sym (ap (λ (t : Stop). stopped t s inside further) is
      ∙ done_settles handler s.questions inside (comes_to names (stops.Ended code result) s.run) further code result (state_of s.run) s.run.engine.budget [] refl)

  pub spent_step : (stop : Stop) (s : Settling) (inside wrote : ℕ) (further : List Answer) → stop ≡ stops.Spent
      → settling_gives names blueprint moment stops.Spent s (inside + (wrote - wrote)) further ≡ stopped stop s inside further
  spent_step stop s inside wrote further is =
      ap (λ (n : ℕ). settling_gives names blueprint moment stops.Spent s n further) (none_taken inside wrote)
      ∙ sym (ap (λ (t : Stop). stopped t s inside further) is
      ∙ spent_settles handler s.questions inside (comes_to names stops.Spent s.run) further (state_of s.run) refl)

  pub deep_step : (stop : Stop) (s : Settling) (inside wrote : ℕ) (further : List Answer) → stop ≡ stops.TooDeep
      → settling_gives names blueprint moment stops.TooDeep s (inside + (wrote - wrote)) further ≡ stopped stop s inside further
  deep_step stop s inside wrote further is =
      ap (λ (n : ℕ). settling_gives names blueprint moment stops.TooDeep s n further) (none_taken inside wrote)
      ∙ sym (ap (λ (t : Stop). stopped t s inside further) is
      ∙ deep_settles handler s.questions inside (comes_to names stops.TooDeep s.run) further (state_of s.run) refl)

  -- a script with so many questions left
  abbrev with_questions : Settling → ℕ → Settling
  with_questions s left = record s { questions = left }

  asked : (stop : Stop) (question : Question) (left : ℕ) (s : Settling) (inside : ℕ) (further : List Answer) → stop ≡ stops.Asks question → s.questions ≡ suc left
      → stopped stop s inside further
      ≡ by_service handler question question.service (state_of s.run) (account_of s.run.engine.budget left inside) further (onward names blueprint moment question (with_questions s left))
  asked stop question left s inside further is one =
      ap (λ (t : Stop). stopped t s inside further) is
      ∙ asks_settle handler s.questions left inside (comes_to names (stops.Asks question) s.run) further question (state_of s.run) s.run.engine.budget one refl

  other_service : (question : Question) (v : Service) (state : State HostState) (account : Account) (further : List Answer) (go : Onward) → (v ≡ Inner → ⊥)
      → by_service handler question v state account further go ≡ behind_other question state account.inside further go
  other_service question Inner state account further go other = absurd (other refl)
  other_service question Page state account further go other = refl
  other_service question Nsv state account further go other = refl
  other_service question Schedule state account further go other = refl
  other_service question Publish state account further go other = refl
  other_service question Save state account further go other = refl

  -- its own question goes out
  pub asks_step : (stop : Stop) (question : Question) (left : ℕ) (s : Settling) (inside wrote : ℕ) (further : List Answer) → stop ≡ stops.Asks question → s.questions ≡ suc left
      → (question.service ≡ Inner → ⊥) → s.inner ≡ None
      → settling_gives names blueprint moment (stops.Asks question) (with_questions s left) (inside + (wrote - wrote)) further ≡ stopped stop s inside further
  asks_step stop question left s inside wrote further is one other none =
      ap (λ (n : ℕ). settling_gives names blueprint moment (stops.Asks question) (with_questions s left) n further) (none_taken inside wrote)
      ∙ ap (λ (i : Option InnerRun). settling_at names blueprint moment question (with_questions s left) i inside further) none
      ∙ sym (asked stop question left s inside further is one
      ∙ other_service question question.service (state_of s.run) (account_of s.run.engine.budget left inside) further (onward names blueprint moment question (with_questions s left)) other)

  -- it asks for a run inside
  pub inner_step : (stop : Stop) (question : Question) (left : ℕ) (s : Settling) (inside : ℕ) (further : List Answer) → stop ≡ stops.Asks question → s.questions ≡ suc left
      → question.service ≡ Inner
      → behind_inner (build_steps names blueprint.defs) (inner_run names blueprint moment question.words s.run.engine.budget left further) (state_of s.run) (account_of s.run.engine.budget left inside)
      (onward names blueprint moment question (with_questions s left))
      ≡ stopped stop s inside further
  inner_step stop question left s inside further is one inner =
      sym (asked stop question left s inside further is one
      ∙ ap (λ (v : Service). by_service handler question v (state_of s.run) (account_of s.run.engine.budget left inside) further (onward names blueprint moment question (with_questions s left))) inner)

  -- ---- behind a run inside

  -- what comes of a script whose run inside came to this
  abbrev behind : Question → DefineStop → InnerRun → Settling → ℕ → List Answer → Settled
  behind question stop inner s inside further =
      behind_inner (build_steps names blueprint.defs) (define_gives names blueprint moment stop inner.run inner.defining further) (state_of s.run)
      (account_of s.run.engine.budget s.questions inside) (onward names blueprint moment question s)

  -- it stands at a question
  pub stands_behind : (question asked_now : Question) (stop : DefineStop) (inner : InnerRun) (s : Settling) (inside count : ℕ) (further : List Answer) → stop ≡ defines.Stands asked_now → s.inner ≡ None
      → settling_gives names blueprint moment (stops.Asks asked_now) (record s { inner = Some inner })
      (inside + ((count + (written names blueprint s + inner_written names blueprint (Some inner))) - (count + written names blueprint (record s { inner = Some inner })))) further
      ≡ behind question stop inner s inside further
  stands_behind question asked_now stop inner s inside count further is none =
      let own = Writes s.run.engine.made in let made = inner_written names blueprint (Some inner) in
      ap (λ (n : ℕ). settling_gives names blueprint moment (stops.Asks asked_now) (record s { inner = Some inner }) n further)
      (ap (λ (i : Option InnerRun). inside + ((count + ((own + inner_written names blueprint i) + made)) - (count + (own + made)))) none ∙ kept_taken inside count own made)
      ∙ sym (ap (λ (t : DefineStop). behind question t inner s inside further) is)

  -- it was spent, or too deep
  pub gone_behind : (question : Question) (stop : DefineStop) (inner : InnerRun) (s : Settling) (inside count : ℕ) (further : List Answer) → stop ≡ defines.Gone → s.inner ≡ None
      → settling_gives names blueprint moment stops.Spent s (inside + ((count + (written names blueprint s + inner_written names blueprint (Some inner))) - (count + written names blueprint s))) further
      ≡ behind question stop inner s inside further
  gone_behind question stop inner s inside count further is none =
      let own = Writes s.run.engine.made in let made = inner_written names blueprint (Some inner) in
      ap (λ (n : ℕ). settling_gives names blueprint moment stops.Spent s n further)
      (ap (λ (i : Option InnerRun). inside + ((count + ((own + inner_written names blueprint i) + made)) - (count + (own + inner_written names blueprint i)))) none ∙ ended_taken inside count own made)
      ∙ sym (ap (λ (t : DefineStop). behind question t inner s inside further) is)

  pub sunk_behind : (question : Question) (stop : DefineStop) (inner : InnerRun) (s : Settling) (inside count : ℕ) (further : List Answer) → stop ≡ defines.Sunk → s.inner ≡ None
      → settling_gives names blueprint moment stops.TooDeep s (inside + ((count + (written names blueprint s + inner_written names blueprint (Some inner))) - (count + written names blueprint s))) further
      ≡ behind question stop inner s inside further
  sunk_behind question stop inner s inside count further is none =
      let own = Writes s.run.engine.made in let made = inner_written names blueprint (Some inner) in
      ap (λ (n : ℕ). settling_gives names blueprint moment stops.TooDeep s n further)
      (ap (λ (i : Option InnerRun). inside + ((count + ((own + inner_written names blueprint i) + made)) - (count + (own + inner_written names blueprint i)))) none ∙ ended_taken inside count own made)
      ∙ sym (ap (λ (t : DefineStop). behind question t inner s inside further) is)

  -- it answered, and the script went on
  pub said_behind : (question : Question) (answer : Answer) (used : ℕ) (came : Stop) (stop : DefineStop) (inner : InnerRun) (new s : Settling) (inside first last : ℕ) (further : List Answer)
      → stop ≡ defines.Said answer → s.inner ≡ None → new.inner ≡ None → new.questions ≡ s.questions
      → used ≡ s.run.engine.budget - inner.run.engine.budget
      → last + Writes s.run.engine.made ≡ first + Writes new.run.engine.made
      → ((q : Question) (given : Given) → comes_to names came new.run given ≡ comes_to names (stops.Asks q) s.run ((answer, used) ∷ given))
      → step_gives names blueprint moment (steps.Goes came) new
      (inside + ((last + (written names blueprint s + inner_written names blueprint (Some inner))) - (first + written names blueprint new))) further
      ≡ behind question stop inner s inside further
  said_behind question answer used came stop inner new s inside first last further is none new_none same used_is counted goes =
      let old = Writes s.run.engine.made in let now = Writes new.run.engine.made in let made = inner_written names blueprint (Some inner) in
      let count : inside + ((last + ((old + inner_written names blueprint s.inner) + made)) - (first + (now + inner_written names blueprint new.inner))) ≡ inside + made =
      ap (λ (i : Option InnerRun). inside + ((last + ((old + inner_written names blueprint i) + made)) - (first + (now + inner_written names blueprint new.inner)))) none
      ∙ ap (λ (i : Option InnerRun). inside + ((last + ((old + 0) + made)) - (first + (now + inner_written names blueprint i)))) new_none
      ∙ charged_taken inside last first old now made counted in
      ap (λ (n : ℕ). settle handler new.questions n (comes_to names came new.run) further) count
      ∙ ap (λ (n : ℕ). settle handler n (inside + made) (comes_to names came new.run) further) same
      ∙ settle_same handler s.questions (inside + made) (comes_to names came new.run) (λ given. comes_to names (stops.Asks question) s.run ((answer, used) ∷ given)) (λ given. goes question given) further
      ∙ ap (λ (u : ℕ). settle handler s.questions (inside + made) (λ given. comes_to names (stops.Asks question) s.run ((answer, u) ∷ given)) further) used_is
      ∙ sym (ap (λ (t : DefineStop). behind question t inner s inside further) is)

  -- ---- behind an answer

  -- what comes of two calls, one after the other
  pub then_on : (next stop : Stop) (old between new : Settling) (inside first middle last : ℕ) (further : List Answer) (reached : Settled)
      → first + written names blueprint between ≤ middle + written names blueprint old
      → middle + written names blueprint new ≤ last + written names blueprint between
      → stopped next between (inside + ((middle + written names blueprint old) - (first + written names blueprint between))) further ≡ reached
      → ((n : ℕ) → settling_gives names blueprint moment stop new (n + ((last + written names blueprint between) - (middle + written names blueprint new))) further ≡ stopped next between n further)
      → settling_gives names blueprint moment stop new (inside + ((last + written names blueprint old) - (first + written names blueprint new))) further ≡ reached
  then_on next stop old between new inside first middle last further reached here there one two =
      sym (ap (λ (n : ℕ). settling_gives names blueprint moment stop new n further)
      (both_taken inside first middle last (written names blueprint old) (written names blueprint between) (written names blueprint new) here there))
      ∙ two (inside + ((middle + written names blueprint old) - (first + written names blueprint between)))
      ∙ one

  -- what a loop has come to, and one turn more
  pub goes_twice : (before now next : Stop) (old between new : Settling) (inside first middle last : ℕ) (further : List Answer)
      → first + written names blueprint between ≤ middle + written names blueprint old
      → middle + written names blueprint new ≤ last + written names blueprint between
      → stopped now between (inside + ((middle + written names blueprint old) - (first + written names blueprint between))) further ≡ stopped before old inside further
      → ((n : ℕ) → stopped next new (n + ((last + written names blueprint between) - (middle + written names blueprint new))) further ≡ stopped now between n further)
      → stopped next new (inside + ((last + written names blueprint old) - (first + written names blueprint new))) further ≡ stopped before old inside further
  goes_twice before now next old between new inside first middle last further here there one two =
      sym (ap (λ (n : ℕ). stopped next new n further)
      (both_taken inside first middle last (written names blueprint old) (written names blueprint between) (written names blueprint new) here there))
      ∙ two (inside + ((middle + written names blueprint old) - (first + written names blueprint between)))
      ∙ one

  pub goes_none : (stop : Stop) (s : Settling) (inside wrote : ℕ) (further : List Answer) → stopped stop s (inside + (wrote - wrote)) further ≡ stopped stop s inside further
  goes_none stop s inside wrote further = ap (λ (n : ℕ). stopped stop s n further) (none_taken inside wrote)

  -- the answer is for the script itself
  pub answered_none : (question : Question) (answer : Answer) (came stop : Stop) (old between new : Settling) (inside first middle last : ℕ) (further : List Answer)
      → old.inner ≡ None → between.inner ≡ None → between.questions ≡ old.questions
      → middle + Writes old.run.engine.made ≡ first + Writes between.run.engine.made
      → ((q : Question) (given : Given) → comes_to names came between.run given ≡ comes_to names (stops.Asks q) old.run ((answer, 0) ∷ given))
      → settling_gives names blueprint moment stop new (inside + ((last + written names blueprint between) - (middle + written names blueprint new))) further ≡ stopped came between inside further
      → settling_gives names blueprint moment stop new (inside + ((last + written names blueprint old) - (first + written names blueprint new))) further
      ≡ settling_at names blueprint moment question old old.inner inside (answer ∷ further)
  answered_none question answer came stop old between new inside first middle last further none still same counted goes gives =
      let was : inner_written names blueprint old.inner ≡ 0 = ap (λ (i : Option InnerRun). inner_written names blueprint i) none in
      let now : inner_written names blueprint between.inner ≡ 0 = ap (λ (i : Option InnerRun). inner_written names blueprint i) still in
      let is : middle + (Writes old.run.engine.made + inner_written names blueprint old.inner) ≡ first + (Writes between.run.engine.made + inner_written names blueprint between.inner) = omega (arith, was, now, counted) in
      sym (ap (λ (n : ℕ). settling_gives names blueprint moment stop new n further)
      (own_taken inside first middle last (written names blueprint old) (written names blueprint between) (written names blueprint new) is))
      ∙ gives
      ∙ ap (λ (n : ℕ). settle handler n inside (comes_to names came between.run) further) same
      ∙ settle_same handler old.questions inside (comes_to names came between.run) (λ given. comes_to names (stops.Asks question) old.run ((answer, 0) ∷ given)) (λ given. goes question given) further
      ∙ sym (ap (λ (i : Option InnerRun). settling_at names blueprint moment question old i inside (answer ∷ further)) none)

  pub answered_none_counts : (old between new : Settling) (first middle last : ℕ) → old.inner ≡ None → between.inner ≡ None
      → middle + Writes old.run.engine.made ≡ first + Writes between.run.engine.made
      → middle + written names blueprint new ≤ last + written names blueprint between → first + written names blueprint new ≤ last + written names blueprint old
  answered_none_counts old between new first middle last none still counted there =
      let was : inner_written names blueprint old.inner ≡ 0 = ap (λ (i : Option InnerRun). inner_written names blueprint i) none in
      let now : inner_written names blueprint between.inner ≡ 0 = ap (λ (i : Option InnerRun). inner_written names blueprint i) still in
      let is : middle + (Writes old.run.engine.made + inner_written names blueprint old.inner) ≡ first + (Writes between.run.engine.made + inner_written names blueprint between.inner) = omega (arith, was, now, counted) in
      own_counted first middle last (written names blueprint old) (written names blueprint between) (written names blueprint new) is there

  inner_taken : (inside first middle last own build old now three : ℕ) → middle + old ≡ first + now
      → inside + ((last + ((own + 0) + (build + now))) - (middle + three)) ≡ inside + ((last + (own + (build + old))) - (first + three))
  inner_taken inside first middle last own build old now three is = omega (arith, is)

  -- the answer is for the run inside
  pub answered_some : (question : Question) (answer : Answer) (came : DefineStop) (step : Step) (inner now : InnerRun) (rest : Option InnerRun) (old new : Settling) (inside first middle last : ℕ) (further : List Answer)
      → old.inner ≡ Some inner → rest ≡ None
      → middle + Writes inner.run.engine.made ≡ first + Writes now.run.engine.made
      → define_gives names blueprint moment came now.run now.defining further ≡ define_at names blueprint moment question inner.run inner.defining inner.defining.value (answer ∷ further)
      → step_gives names blueprint moment step new
      (inside + ((last + (written names blueprint (record old { inner = rest }) + inner_written names blueprint (Some now))) - (middle + written names blueprint new))) further
      ≡ behind question came now (record old { inner = rest }) inside further
      → step_gives names blueprint moment step new (inside + ((last + written names blueprint old) - (first + written names blueprint new))) further
      ≡ settling_at names blueprint moment question old old.inner inside (answer ∷ further)
  answered_some question answer came step inner now rest old new inside first middle last further some none counted defined gives =
      sym (ap (λ (n : ℕ). step_gives names blueprint moment step new n further)
      (ap (λ (i : Option InnerRun). inside + ((last + ((Writes old.run.engine.made + inner_written names blueprint i) + inner_written names blueprint (Some now))) - (middle + written names blueprint new))) none
      ∙ inner_taken inside first middle last (Writes old.run.engine.made) (build_steps names blueprint.defs) (Writes inner.run.engine.made) (Writes now.run.engine.made) (written names blueprint new) counted
      ∙ ap (λ (i : Option InnerRun). inside + ((last + (Writes old.run.engine.made + inner_written names blueprint i)) - (first + written names blueprint new))) (sym some)))
      ∙ gives
      ∙ ap (λ (x : Defined). behind_inner (build_steps names blueprint.defs) x (state_of old.run) (account_of old.run.engine.budget old.questions inside) (onward names blueprint moment question old)) defined
      ∙ sym (ap (λ (i : Option InnerRun). settling_at names blueprint moment question old i inside (answer ∷ further)) some)

  pub answered_some_counts : (inner now : InnerRun) (rest : Option InnerRun) (old new : Settling) (first middle last : ℕ) → old.inner ≡ Some inner → rest ≡ None
      → middle + Writes inner.run.engine.made ≡ first + Writes now.run.engine.made
      → middle + written names blueprint new ≤ last + (written names blueprint (record old { inner = rest }) + inner_written names blueprint (Some now))
      → first + written names blueprint new ≤ last + written names blueprint old
  answered_some_counts inner now rest old new first middle last some none counted there =
      let was : inner_written names blueprint old.inner ≡ build_steps names blueprint.defs + Writes inner.run.engine.made = ap (λ (i : Option InnerRun). inner_written names blueprint i) some in
      let gone : inner_written names blueprint rest ≡ 0 = ap (λ (i : Option InnerRun). inner_written names blueprint i) none in
      omega (arith, was, gone, counted, there)
