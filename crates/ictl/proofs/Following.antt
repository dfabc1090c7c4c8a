-- The runs go in the order of the stages.
use Rattle.std.proofs.Common.{◌≡◌, ℕ, suc, ◌+◌, ◌≤◌, List, [], ◌∷◌, drop, length, refl, sym, ap, ◌∙◌, arith, Bool, true, false, Option, Some, None}
use Rattle.std.specs.Prelude.{nat_lt, if◌then◌else◌}
use Rattle.std.specs.Option.{is_some}
use Rattle.std.proofs.lemmas.Bool.{ltb-false}
use Rattle.std.proofs.lemmas.List.{drop_all}
use Rattle.cmd_table.specs.declared.definition.When.TheVariants as when
use Rattle.outside.specs.declared.question.Answer.{Answer}
use Rattle.http_req.specs.declared.request.Request.{Request}
use Rattle.server_host.specs.declared.edition.Edition.{Edition}
use Rattle.server_host.specs.Hosts.{HostState}
use Rattle.tcl_eval.specs.State.{State}
use Rattle.stages.specs.declared.event.Counts.{Counts}
use Rattle.stages.specs.declared.event.Do.{Do}
use Rattle.stages.specs.declared.event.Do.TheVariants as stage
use Rattle.stages.specs.Order as order
use Rattle.ictl.specs.Visits.{visit_of, cleanups_of}
use Rattle.ictl.specs.Main.{Stretch, full, serve, filters_from, authorise, authorised, unauthorised, traces_from, cleanups_from}
use Rattle.ictl.specs.Laws.{counts_of, from_here, FollowsTheStages, FollowsTheResponse, RunsFollowTheStages}
use Rattle.ictl.specs.declared.visit.Visit.{Visit}
use Rattle.ictl.specs.declared.ending.Ending.{Ending}

module _ (names : List (List ℕ)) (blueprint : Edition) (moment : ℕ) (visit : Visit) (cleanups : List (List ℕ)) (ending : Ending) (write : Stretch) where
  abbrev here : Do → Stretch
  here what = from_here names blueprint moment visit cleanups ending what write

  abbrev counts : Counts
  counts = counts_of visit cleanups

  -- nothing is left behind the last place
  none_left : {A : Type 0} (place : ℕ) (list : List A) → nat_lt place (length list) ≡ false → drop place list ≡ []
  none_left place list past = drop_all place list (ltb-false place (length list) past)

  cleanup_by : (t : Bool) (place : ℕ) → nat_lt place (length cleanups) ≡ t
      → cleanups_from names blueprint moment (drop place cleanups) ending ≡ here (if t then stage.Cleanup place else stage.End)
  cleanup_by true place is = refl
  cleanup_by false place is = ap (λ (l : List (List ℕ)). cleanups_from names blueprint moment l ending) (none_left place cleanups is)

  cleanup_here : (place : ℕ) → cleanups_from names blueprint moment (drop place cleanups) ending ≡ here (order.cleanup_from counts place)
  cleanup_here place = cleanup_by (nat_lt place (length cleanups)) place refl

  trace_by : (t : Bool) (place : ℕ) → nat_lt place (length visit.trace) ≡ t
      → traces_from names blueprint moment (drop place visit.trace) cleanups ending ≡ here (if t then stage.Filter when.Trace place else order.cleanup_from counts 0)
  trace_by true place is = refl
  trace_by false place is = ap (λ (l : List (List (List ℕ))). traces_from names blueprint moment l cleanups ending) (none_left place visit.trace is) ∙ cleanup_here 0

  trace_here : (place : ℕ) → traces_from names blueprint moment (drop place visit.trace) cleanups ending ≡ here (order.trace_from counts place)
  trace_here place = trace_by (nat_lt place (length visit.trace)) place refl

  postauth_by : (t : Bool) (place : ℕ) → nat_lt place (length visit.postauth) ≡ t
      → filters_from names blueprint moment (drop place visit.postauth) (serve names blueprint moment visit.serving) ≡ here (if t then stage.Filter when.Postauth place else stage.Serve)
  postauth_by true place is = refl
  postauth_by false place is = ap (λ (l : List (List (List ℕ))). filters_from names blueprint moment l (serve names blueprint moment visit.serving)) (none_left place visit.postauth is)

  postauth_here : (place : ℕ) → filters_from names blueprint moment (drop place visit.postauth) (serve names blueprint moment visit.serving) ≡ here (order.postauth_from counts place)
  postauth_here place = postauth_by (nat_lt place (length visit.postauth)) place refl

  authorise_by : (call : Option (List (List ℕ))) → visit.authorisation ≡ call
      → unauthorised names blueprint moment visit ≡ here (if is_some call then stage.Authorise else order.postauth_from counts 0)
  authorise_by (Some call) is = refl
  authorise_by None is = ap (λ (o : Option (List (List ℕ))). authorise names blueprint moment o (authorised names blueprint moment visit)) is ∙ postauth_here 0

  authorise_here : unauthorised names blueprint moment visit ≡ here (order.authorisation counts)
  authorise_here = authorise_by visit.authorisation refl

  preauth_by : (t : Bool) (place : ℕ) → nat_lt place (length visit.preauth) ≡ t
      → filters_from names blueprint moment (drop place visit.preauth) (unauthorised names blueprint moment visit) ≡ here (if t then stage.Filter when.Preauth place else order.authorisation counts)
  preauth_by true place is = refl
  preauth_by false place is = ap (λ (l : List (List (List ℕ))). filters_from names blueprint moment l (unauthorised names blueprint moment visit)) (none_left place visit.preauth is) ∙ authorise_here

  preauth_here : (place : ℕ) → filters_from names blueprint moment (drop place visit.preauth) (unauthorised names blueprint moment visit) ≡ here (order.preauth_from counts place)
  preauth_here place = preauth_by (nat_lt place (length visit.preauth)) place refl

  next_place : (place : ℕ) → suc place ≡ place + 1
  next_place place = omega arith

  next_trace : (place : ℕ) → traces_from names blueprint moment (drop (suc place) visit.trace) cleanups ending ≡ here (order.trace_from counts (place + 1))
  next_trace place = ap (λ (n : ℕ). traces_from names blueprint moment (drop n visit.trace) cleanups ending) (next_place place) ∙ trace_here (place + 1)

  pub follows : FollowsTheStages names blueprint moment visit cleanups ending write
  follows = record {
    begins = preauth_here 0;
    preauth_ok = λ place. ap (λ (n : ℕ). filters_from names blueprint moment (drop n visit.preauth) (unauthorised names blueprint moment visit)) (next_place place) ∙ preauth_here (place + 1);
    preauth_break = λ place. authorise_here;
    preauth_return = λ place state. refl;
    preauth_failed = λ place state. refl;
    allowed = postauth_here 0;
    unknown = refl;
    forbidden = refl;
    access_failed = refl;
    postauth_ok = λ place. ap (λ (n : ℕ). filters_from names blueprint moment (drop n visit.postauth) (serve names blueprint moment visit.serving)) (next_place place) ∙ postauth_here (place + 1);
    postauth_break = λ place. refl;
    postauth_return = λ place state. refl;
    postauth_failed = λ place state. refl;
    served = λ code result state. refl;
    page_served = λ code result state. refl;
    page_refused = λ answer leaf state account left. refl;
    not_found = λ state account left. refl;
    traced = trace_here 0;
    trace_ok = next_trace;
    trace_break = λ place. cleanup_here 0;
    trace_return = next_trace;
    trace_failed = next_trace;
    cleaned = λ place. ap (λ (n : ℕ). cleanups_from names blueprint moment (drop n cleanups) ending) (next_place place) ∙ cleanup_here (place + 1);
  }

-- the same behind a response
pub responded : (names : List (List ℕ)) (blueprint : Edition) (moment : ℕ) (request : Request) (ending : Ending) (write : Stretch) (state : State HostState) (inside : ℕ) (answers : List Answer)
    → FollowsTheResponse names blueprint moment request ending write state inside answers
responded names blueprint moment request ending write state inside answers = record {
  whole = ap (λ (f : Stretch). f state (full inside) answers) (trace_here names blueprint moment (visit_of names blueprint request) (cleanups_of blueprint.defs) ending write 0);
  short = refl;
}

pub in_order : RunsFollowTheStages
in_order = record { stages = follows; response = responded }
