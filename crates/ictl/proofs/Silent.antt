-- Where no response is written.
use Rattle.std.proofs.Common.{ℕ, List, [], ◌∷◌, Bool, true, false}
use Rattle.outside.specs.declared.question.Answer.{Answer}
use Rattle.http_req.specs.declared.request.Request.{Request}
use Rattle.server_host.specs.declared.edition.Edition.{Edition}
use Rattle.server_host.specs.Hosts.{HostState}
use Rattle.tcl_eval.specs.State.{State}
use Rattle.ictl.specs.Settle.{Account, Settled, ended, asking, exhausted, nested, Defined, said, stands, gone, sunk}
use Rattle.ictl.specs.Replies.{verdict}
use Rattle.ictl.specs.Visits.{visit_of, cleanups_of}
use Rattle.ictl.specs.Main.{Stretch, Then, Script, Define, calls, scripts, after_on, trace_end, script_end, defined_end, traces_from, cleanups_from, behind}
use Rattle.ictl.specs.Laws.{IsSilent, OneResponse}
use Rattle.ictl.specs.declared.ending.Ending.{Ending}
use Rattle.ictl.specs.declared.ending.Verdict.{Verdict}
use Rattle.ictl.specs.declared.ending.Verdict.TheVariants.{Goes, Breaks, Returns, Fails}

-- ---- no second response

-- a stretch of a run in which no response is written
abbrev Silent : Stretch → Type 0
Silent stretch = (state : State HostState) (account : Account) (left : List Answer) → IsSilent (stretch state account left)

abbrev SilentThen : Then → Type 0
SilentThen go = (code : ℕ) (result : List ℕ) → Silent (go code result)

after_silent : (ending : Ending) (x : Settled) (go : Then) → SilentThen go → IsSilent (after_on ending x go)
after_silent ending (ended code result state account left) go silent = silent code result state account left
after_silent ending (asking question state inside) go silent = tt
after_silent ending (exhausted state inside left) go silent = tt
after_silent ending (nested state inside left) go silent = tt

trace_silent : (next rest : Stretch) (verdict : Verdict) → Silent next → Silent rest → Silent (trace_end next rest verdict)
trace_silent next rest Goes on breaks = on
trace_silent next rest Breaks on breaks = breaks
trace_silent next rest Returns on breaks = on
trace_silent next rest Fails on breaks = on

script_silent : (x : Settled) → IsSilent (script_end x)
script_silent (ended code result state account left) = tt
script_silent (asking question state inside) = tt
script_silent (exhausted state inside left) = tt
script_silent (nested state inside left) = tt

defined_silent : (inside : ℕ) (x : Defined) → IsSilent (defined_end inside x)
defined_silent inside (said answer budget state left) = tt
defined_silent inside (stands question state) = tt
defined_silent inside (gone state left) = tt
defined_silent inside (sunk state left) = tt

module _ (names : List (List ℕ)) (blueprint : Edition) (moment : ℕ) where
  cleanups_silent : (texts : List (List ℕ)) (ending : Ending) → Silent (cleanups_from names blueprint moment texts ending)
  cleanups_silent [] ending = λ state account left. tt
  cleanups_silent (script ∷ more) ending = λ state account left.
      after_silent ending (scripts names blueprint moment script state account left) (λ code result. cleanups_from names blueprint moment more ending) (λ code result. cleanups_silent more ending)

  traces_silent : (filters : List (List (List ℕ))) (texts : List (List ℕ)) (ending : Ending) → Silent (traces_from names blueprint moment filters texts ending)
  traces_silent [] texts ending = cleanups_silent texts ending
  traces_silent (call ∷ more) texts ending = λ state account left.
      after_silent ending (calls names blueprint moment call state account left) (λ code result. trace_end (traces_from names blueprint moment more texts ending) (cleanups_from names blueprint moment texts ending) (verdict code result))
      (λ code result. trace_silent (traces_from names blueprint moment more texts ending) (cleanups_from names blueprint moment texts ending) (verdict code result) (traces_silent more texts ending) (cleanups_silent texts ending))

  behind_silent : (whole : Bool) (request : Request) (ending : Ending) (state : State HostState) (inside : ℕ) (answers : List Answer) → IsSilent (behind names blueprint moment whole request ending state inside answers)
  behind_silent true request ending state inside answers = traces_silent (visit_of names blueprint request).trace (cleanups_of blueprint.defs) ending state _ answers
  behind_silent false request ending state inside answers = tt

pub one_response : OneResponse
unfolding Script Define
one_response = record {
  after = λ names blueprint moment whole request ending state inside answers. behind_silent names blueprint moment whole request ending state inside answers;
  script = λ names blueprint script moment answers. script_silent _;
  define = λ names blueprint script moment answers. defined_silent 0 _;
}
