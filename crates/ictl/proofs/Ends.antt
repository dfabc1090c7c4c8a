-- How runs end.
use Rattle.std.proofs.Common.{◌≡◌, ℕ, List, [], ◌∷◌, Bool, true, false, Option, Some, None}
use Rattle.outside.specs.declared.question.Answer.{Answer}
use Rattle.outside.specs.declared.question.Answer.TheVariants as kinds
use Rattle.outside.specs.declared.question.Question.{Question}
use Rattle.http_req.specs.declared.request.Request.{Request}
use Rattle.tcl_host.specs.Leaf.{Onward, goes, enters}
use Rattle.server_host.specs.declared.edition.Edition.{Edition}
use Rattle.server_host.specs.Hosts.{HostState}
use Rattle.tcl_eval.specs.State.{State}
use Rattle.tcl_eval.specs.declared.outcome.Outcome.{Outcome}
use Rattle.ictl.specs.Settle.{Account, Settled, ended, asking, exhausted, nested, Defined, said, stands, gone, sunk}
use Rattle.tcl_eval.specs.Eval.{with_host}
use Rattle.tcl_eval.specs.Engine.{at_global}
use Rattle.tcl_eval.specs.declared.outcome.Work.TheVariants as works
use Rattle.ictl.specs.Replies.{verdict, access}
use Rattle.ictl.specs.Main.{Progress, Script, Define, Stretch, Then, runs, calls, scripts, page_end, procedure_end, both, answered, main_on, after_on, filter_end, access_end, trace_end, script_end, defined_end, outcome_of, page_entered, page_asked, serve, filters_from, authorise, traces_from, cleanups_from, behind}
use Rattle.ictl.specs.Visits.{visit_of, cleanups_of}
use Rattle.ictl.specs.Falls.{IsEnd}
use Rattle.ictl.specs.Laws.{EndsWell, EndsAreEnds}
use Rattle.ictl.specs.declared.visit.Serving.{Serving}
use Rattle.ictl.specs.declared.visit.Serving.TheVariants.{Procedure, Page, Nothing}
use Rattle.ictl.specs.declared.ending.Ending.{Ending}
use Rattle.ictl.specs.declared.ending.Ending.TheVariants.{Answered, Spent, TooDeep}
use Rattle.ictl.specs.declared.ending.Verdict.{Verdict}
use Rattle.ictl.specs.declared.ending.Verdict.TheVariants.{Goes, Breaks, Returns, Fails}
use Rattle.ictl.specs.declared.ending.Access.{Access}
use Rattle.ictl.specs.declared.ending.Access.TheVariants.{Allowed, Unauthorized, Forbidden, Failed}

-- a stretch of a run whose ends are ends
abbrev Well : Stretch → Type 0
Well stretch = (state : State HostState) (account : Account) (left : List Answer) → EndsWell (stretch state account left)

abbrev WellThen : Then → Type 0
WellThen go = (code : ℕ) (result : List ℕ) → Well (go code result)

both_end : (ending : Ending) (outcome : Outcome) → IsEnd outcome → IsEnd (both ending outcome)
both_end Answered outcome end = end
both_end Spent outcome end = tt
both_end TooDeep outcome end = tt

main_well : (x : Settled) (go : Then) → WellThen go → EndsWell (main_on x go)
main_well (ended code result state account left) go well = well code result state account left
main_well (asking question state inside) go well = tt
main_well (exhausted state inside left) go well = tt
main_well (nested state inside left) go well = tt

after_well : (ending : Ending) (x : Settled) (go : Then) → WellThen go → EndsWell (after_on ending x go)
after_well ending (ended code result state account left) go well = well code result state account left
after_well ending (asking question state inside) go well = tt
after_well ending (exhausted state inside left) go well = both_end ending _ tt
after_well ending (nested state inside left) go well = both_end ending _ tt

filter_well : (next rest : Stretch) (verdict : Verdict) → Well next → Well rest → Well (filter_end next rest verdict)
filter_well next rest Goes on breaks = on
filter_well next rest Breaks on breaks = breaks
filter_well next rest Returns on breaks = λ state account left. tt
filter_well next rest Fails on breaks = λ state account left. tt

access_well : (next : Stretch) (access : Access) → Well next → Well (access_end next access)
access_well next Allowed on = on
access_well next Unauthorized on = λ state account left. tt
access_well next Forbidden on = λ state account left. tt
access_well next Failed on = λ state account left. tt

trace_well : (next rest : Stretch) (verdict : Verdict) → Well next → Well rest → Well (trace_end next rest verdict)
trace_well next rest Goes on breaks = on
trace_well next rest Breaks on breaks = breaks
trace_well next rest Returns on breaks = on
trace_well next rest Fails on breaks = on

script_well : (x : Settled) → EndsWell (script_end x)
script_well (ended code result state account left) = tt
script_well (asking question state inside) = tt
script_well (exhausted state inside left) = tt
script_well (nested state inside left) = tt

pub outcome_end : (answer : Answer) → IsEnd (outcome_of answer)
outcome_end (kinds.Said text) = tt
outcome_end (kinds.Failed why) = tt
outcome_end (kinds.Page page) = tt
outcome_end kinds.NoPage = tt
outcome_end kinds.PageFault = tt

defined_well : (inside : ℕ) (x : Defined) → EndsWell (defined_end inside x)
defined_well inside (said answer budget state left) = outcome_end answer
defined_well inside (stands question state) = tt
defined_well inside (gone state left) = tt
defined_well inside (sunk state left) = tt

module _ (names : List (List ℕ)) (blueprint : Edition) (moment : ℕ) where
  entered_well : (answer : Answer) (onward : Onward HostState) → Well (page_entered names blueprint moment answer onward)
  entered_well answer (goes leaf) = λ state account left. tt
  entered_well answer (enters pieces host) = λ state account left.
      main_well (runs names blueprint moment (works.Page pieces) (at_global (with_host state host)) account left) page_end (λ code result then_state then_account then_left. tt {0})

  asked_well : (question : Question) (path : List ℕ) → Well (page_asked names blueprint moment question path)
  asked_well question path = λ state account left. by_answers state account left
    where
      by_answers : (state : State HostState) (account : Account) (left : List Answer) → EndsWell (page_asked names blueprint moment question path state account left)
      by_answers state account [] = tt
      by_answers state account (answer ∷ left) = entered_well answer _ state account left

  serve_well : (serving : Serving) → Well (serve names blueprint moment serving)
  serve_well (Procedure words) = λ state account left. main_well (calls names blueprint moment words state account left) procedure_end (λ code result then_state then_account then_left. tt {0})
  serve_well (Page path) = λ state account left. asked_well _ path _ account left
  serve_well Nothing = λ state account left. tt

  filters_well : (calls : List (List (List ℕ))) (rest : Stretch) → Well rest → Well (filters_from names blueprint moment calls rest)
  filters_well [] rest well = well
  filters_well (call ∷ more) rest well = λ state account left.
      main_well (calls names blueprint moment call state account left) (λ code result. filter_end (filters_from names blueprint moment more rest) rest (verdict code result))
      (λ code result. filter_well (filters_from names blueprint moment more rest) rest (verdict code result) (filters_well more rest well) well)

  authorise_well : (call : Option (List (List ℕ))) (rest : Stretch) → Well rest → Well (authorise names blueprint moment call rest)
  authorise_well None rest well = well
  authorise_well (Some call) rest well = λ state account left.
      main_well (calls names blueprint moment call state account left) (λ code result. access_end rest (access code result)) (λ code result. access_well rest (access code result) well)

  cleanups_well : (scripts : List (List ℕ)) (ending : Ending) → Well (cleanups_from names blueprint moment scripts ending)
  cleanups_well [] ending = λ state account left. both_end ending answered tt
  cleanups_well (script ∷ more) ending = λ state account left. after_well ending (scripts names blueprint moment script state account left) (λ code result. cleanups_from names blueprint moment more ending) (λ code result. cleanups_well more ending)

  traces_well : (calls : List (List (List ℕ))) (cleanups : List (List ℕ)) (ending : Ending) → Well (traces_from names blueprint moment calls cleanups ending)
  traces_well [] cleanups ending = cleanups_well cleanups ending
  traces_well (call ∷ more) cleanups ending = λ state account left.
      after_well ending (calls names blueprint moment call state account left) (λ code result. trace_end (traces_from names blueprint moment more cleanups ending) (cleanups_from names blueprint moment cleanups ending) (verdict code result))
      (λ code result. trace_well (traces_from names blueprint moment more cleanups ending) (cleanups_from names blueprint moment cleanups ending) (verdict code result) (traces_well more cleanups ending) (cleanups_well cleanups ending))

pub ends_are_ends : EndsAreEnds
unfolding Script Define
ends_are_ends = record {
  main = λ names blueprint request moment answers.
      let v = visit_of names blueprint request in
      filters_well names blueprint moment v.preauth _
      (authorise_well names blueprint moment v.authorisation _ (filters_well names blueprint moment v.postauth _ (serve_well names blueprint moment v.serving))) _ _ answers;
  after = λ names blueprint moment whole request ending state inside answers. by_whole names blueprint moment whole request ending state inside answers;
  script = λ names blueprint script moment answers. script_well _;
  define = λ names blueprint script moment answers. defined_well 0 _;
}
  where
    by_whole : (names : List (List ℕ)) (blueprint : Edition) (moment : ℕ) (whole : Bool) (request : Request) (ending : Ending) (state : State HostState) (inside : ℕ) (answers : List Answer)
        → EndsWell (behind names blueprint moment whole request ending state inside answers)
    by_whole names blueprint moment true request ending state inside answers =
        traces_well names blueprint moment (visit_of names blueprint request).trace (cleanups_of blueprint.defs) ending state _ answers
    by_whole names blueprint moment false request ending state inside answers = both_end ending answered tt
