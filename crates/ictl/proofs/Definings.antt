-- Definition runs.
use Rattle.std.proofs.Common.{◌≡◌, ℕ, suc, List, [], ◌∷◌, refl, sym, subst, ap, ◌∙◌, Option, None}
use Rattle.outside.specs.declared.question.Answer.{Answer}
use Rattle.outside.specs.declared.question.Question.{Question}
use Rattle.outside.specs.declared.question.Service.{Service}
use Rattle.outside.specs.declared.question.Service.TheVariants.{Page, Nsv, Schedule, Publish, Save, Inner}
use Rattle.server_host.specs.declared.edition.Edition.{Edition}
use Rattle.tcl_eval.specs.Eval.{returned}
use Rattle.ictl.specs.Settle.{Account, account_of, Defined, gone, sunk, Onward, behind_other, by_service, settle}
use Rattle.ictl.specs.Defines.{script_end, define_end, no_inner}
use Rattle.ictl.specs.Standing.{state_of, comes_to, define_at}
use Rattle.ictl.specs.Falls.{DefineAsks, RunAsks}
use Rattle.ictl.specs.declared.running.Running.{Running}
use Rattle.ictl.specs.declared.running.Stop.{Stop}
use Rattle.ictl.specs.declared.running.Stop.TheVariants as stops
use Rattle.ictl.specs.declared.defining.DefineRun.{DefineRun}
use Rattle.ictl.proofs.Settles.{done_settles, spent_settles, deep_settles, asks_settle}

-- ---- where it stops

module _ (names : List (List ℕ)) (blueprint : Edition) (moment : ℕ) (run : Running) (questions : ℕ) where
  -- what a definition run comes to whose script stopped so
  abbrev stopped : Stop → List Answer → Defined
  stopped stop further = define_end (settle (no_inner names blueprint moment) questions 0 (comes_to names stop run) further)

  pub spent_stops : (stop : Stop) (further : List Answer) → stop ≡ stops.Spent → gone (state_of run) further ≡ stopped stop further
  spent_stops stop further is =
      sym (ap (λ (s : Stop). stopped s further) is ∙ ap define_end (spent_settles (no_inner names blueprint moment) questions 0 (comes_to names stops.Spent run) further (state_of run) refl))

  pub ended_stops : (stop : Stop) (code : ℕ) (result : List ℕ) (further : List Answer) (reached : Defined) → stop ≡ stops.Ended code result
      → reached ≡ script_end (returned code result) run.engine.budget (state_of run) further → reached ≡ stopped stop further
  ended_stops stop code result further reached is h =
      h ∙ sym (ap (λ (s : Stop). stopped s further) is ∙ ap define_end (done_settles (no_inner names blueprint moment) questions 0 (comes_to names (stops.Ended code result) run) further code result (state_of run) run.engine.budget [] refl))

  -- how it goes on behind a question
  abbrev behind : Question → ℕ → Onward
  behind question left answer inside further = settle (no_inner names blueprint moment) left inside (λ given. comes_to names (stops.Asks question) run (answer ∷ given)) further

  asked_stops : (stop : Stop) (question : Question) (left : ℕ) (further : List Answer) → stop ≡ stops.Asks question → questions ≡ suc left
      → stopped stop further ≡ define_end (by_service (no_inner names blueprint moment) question question.service (state_of run) (account_of run.engine.budget left 0) further (behind question left))
  asked_stops stop question left further is one =
      ap (λ (s : Stop). stopped s further) is
      ∙ ap define_end (asks_settle (no_inner names blueprint moment) questions left 0 (comes_to names (stops.Asks question) run) further question (state_of run) run.engine.budget one refl)

  pub inner_stops : (stop : Stop) (question : Question) (left : ℕ) (further : List Answer) → stop ≡ stops.Asks question → questions ≡ suc left → question.service ≡ Inner
      → gone (state_of run) further ≡ stopped stop further
  inner_stops stop question left further is one inner =
      sym (asked_stops stop question left further is one
      ∙ ap (λ (v : Service). define_end (by_service (no_inner names blueprint moment) question v (state_of run) (account_of run.engine.budget left 0) further (behind question left))) inner)

  other_service : (question : Question) (v : Service) (account : Account) (further : List Answer) (go : Onward) → (v ≡ Inner → ⊥)
      → by_service (no_inner names blueprint moment) question v (state_of run) account further go ≡ behind_other question (state_of run) account.inside further go
  other_service question Inner account further go other = absurd (other refl)
  other_service question Page account further go other = refl
  other_service question Nsv account further go other = refl
  other_service question Schedule account further go other = refl
  other_service question Publish account further go other = refl
  other_service question Save account further go other = refl

  pub asks_stops : (stop : Stop) (question : Question) (left : ℕ) (defining : DefineRun) (further : List Answer) → stop ≡ stops.Asks question → questions ≡ suc left → (question.service ≡ Inner → ⊥)
      → defining.questions ≡ left → defining.value ≡ None
      → define_at names blueprint moment question run defining defining.value further ≡ stopped stop further
  asks_stops stop question left defining further is one other left_is none =
      ap (λ (v : Option (List ℕ)). define_at names blueprint moment question run defining v further) none
      ∙ ap (λ (n : ℕ). define_end (behind_other question (state_of run) 0 further (behind question n))) left_is
      ∙ sym (asked_stops stop question left further is one ∙ ap define_end (other_service question question.service (account_of run.engine.budget left 0) further (behind question left) other))

  pub deep_stops : (stop : Stop) (further : List Answer) → stop ≡ stops.TooDeep → sunk (state_of run) further ≡ stopped stop further
  deep_stops stop further is =
      sym (ap (λ (s : Stop). stopped s further) is ∙ ap define_end (deep_settles (no_inner names blueprint moment) questions 0 (comes_to names stops.TooDeep run) further (state_of run) refl))

-- ---- what is asked

pub asks_none : (run : Running) (questions : ℕ) (value : Option (List ℕ)) → value ≡ None → DefineAsks run questions value → RunAsks run questions
asks_none run questions value none asks = subst (λ (v : Option (List ℕ)). DefineAsks run questions v) none asks
