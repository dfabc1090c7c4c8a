-- What runs have written grows.
use Rattle.std.proofs.Common.{◌≡◌, ℕ, zero, suc, ◌+◌, ◌-◌, ◌≤◌, List, [], ◌∷◌, ◌++◌, drop, refl, sym, ap, ◌∙◌, arith, Option, Some, None}
use Rattle.std.proofs.lemmas.List.Sums.{sum_by-append}
use Rattle.outside.specs.declared.question.Answer.{Answer}
use Rattle.outside.specs.declared.question.Answer.TheVariants as kinds
use Rattle.outside.specs.declared.question.Question.{Question}
use Rattle.outside.specs.declared.question.Service.{Service}
use Rattle.outside.specs.declared.question.Service.TheVariants as service
use Rattle.cmd_table.specs.Commands.{writes, Writes}
use Rattle.cmd_table.specs.declared.definition.Def.{Def}
use Rattle.tcl_host.specs.Leaf.{Onward as HostOnward, goes, enters}
use Rattle.server_host.specs.declared.edition.Edition.{Edition}
use Rattle.server_host.specs.Hosts.{HostState}
use Rattle.server_host.specs.Leaf.{host_table}
use Rattle.tcl_eval.specs.State.{State, Given, Out, done, asks as out_asks, spent, too_deep}
use Rattle.tcl_eval.specs.Eval.{with_host}
use Rattle.tcl_eval.specs.Engine.{at_global}
use Rattle.tcl_eval.specs.Laws.{IsFront, MadeGrows, state_in}
use Rattle.tcl_eval.specs.declared.outcome.Work.{Work}
use Rattle.tcl_eval.specs.declared.outcome.Work.TheVariants as works
use Rattle.ictl.specs.Fresh.{outset}
use Rattle.ictl.specs.Settle.{Run, Account, account_of, Settled, ended, asking, exhausted, nested, Defined, said, stands, gone, sunk, Handler, Onward, with_inside, behind_inner, behind_other, by_service, come_to, cut, settle}
use Rattle.ictl.specs.Defines.{no_inner, inner_runs, good_end, publishing, by_code, define_end}
use Rattle.ictl.specs.Replies.{verdict, access}
use Rattle.ictl.specs.Main.{Progress, Stretch, Then, full, runs, calls, scripts, page_end, procedure_end, responds, main_on, after_on, filter_end, access_end, trace_end, script_end, page_entered, page_asked, serve, filters_from, authorise, unauthorised, traces_from, cleanups_from}
use Rattle.ictl.specs.Interps.{own_written, all_written, task_end}
use Rattle.ictl.specs.Within.{settled_own, settled_all, defined_own, RunWrites, SettledWrites, HasWritten}
use Rattle.ictl.specs.declared.visit.Serving.{Serving}
use Rattle.ictl.specs.declared.visit.Serving.TheVariants.{Procedure, Page, Nothing}
use Rattle.ictl.specs.declared.ending.Ending.{Ending}
use Rattle.ictl.specs.declared.ending.Verdict.{Verdict}
use Rattle.ictl.specs.declared.ending.Verdict.TheVariants.{Goes, Breaks, Returns, Fails}
use Rattle.ictl.specs.declared.ending.Access.{Access}
use Rattle.ictl.specs.declared.ending.Access.TheVariants.{Allowed, Unauthorized, Forbidden, Failed}
use Rattle.ictl.specs.declared.task.Task.{Task}
use Rattle.ictl.specs.declared.task.Task.TheVariants as tasks
use Rattle.ictl.specs.declared.interp.Interp.{Interp}

-- definitions that begin with others write as much at least
pub front_writes : (old new : List Def) → IsFront old new → Writes old ≤ Writes new
front_writes old new front =
    let is : Writes new ≡ Writes (old ++ front.0) = ap (λ (l : List Def). Writes l) front.1 in
    let sum : Writes (old ++ front.0) ≡ Writes old + Writes front.0 = sum_by-append writes old front.0 in
    omega (arith, is, sum)

-- ---- a script

abbrev OnwardWrites : ℕ → Onward → Type 0
OnwardWrites made go = (answer : Answer × ℕ) (inside : ℕ) (left : List Answer) → SettledWrites made inside (go answer inside left)

-- what has written more has written this
fewer_settled : (made less more : ℕ) (x : Settled) → less ≤ more → SettledWrites made more x → SettledWrites made less x
fewer_settled made less more x le h = record { own = h.own; all = let a = h.all in omega (arith, le, a) }

-- where a run inside came to this, it counts with what was written to make it
pub inner_writes : (made build : ℕ) (x : Defined) (state : State HostState) (account : Account) (go : Onward) → made ≤ Writes state.made → OnwardWrites made go
    → SettledWrites made (account.inside + (build + defined_own x)) (behind_inner build x state account go)
inner_writes made build (said answer budget inner left) state account go le on = on _ _ left
inner_writes made build (stands question inner) state account go le on = record { own = le; all = omega (arith, le) }
inner_writes made build (gone inner left) state account go le on = record { own = le; all = omega (arith, le) }
inner_writes made build (sunk inner left) state account go le on = record { own = le; all = omega (arith, le) }

other_writes : (made : ℕ) (question : Question) (state : State HostState) (inside : ℕ) (answers : List Answer) (go : Onward) → made ≤ Writes state.made → OnwardWrites made go
    → SettledWrites made inside (behind_other question state inside answers go)
other_writes made question state inside [] go le on = record { own = le; all = omega (arith, le) }
other_writes made question state inside (answer ∷ left) go le on = on _ _ left

service_writes : (inner : Handler) (made : ℕ) (question : Question) (v : Service) (state : State HostState) (account : Account) (answers : List Answer) (go : Onward) → made ≤ Writes state.made → OnwardWrites made go
    → SettledWrites made account.inside (by_service inner question v state account answers go)
service_writes inner made question service.Inner state account answers go le on =
    let x = inner.runs question.words account.budget account.questions answers in
    fewer_settled made account.inside (account.inside + (inner.build + defined_own x)) _ (omega arith) (inner_writes made inner.build x state account go le on)
service_writes inner made question service.Page state account answers go le on = other_writes made question state account.inside answers go le on
service_writes inner made question service.Nsv state account answers go le on = other_writes made question state account.inside answers go le on
service_writes inner made question service.Schedule state account answers go le on = other_writes made question state account.inside answers go le on
service_writes inner made question service.Publish state account answers go le on = other_writes made question state account.inside answers go le on
service_writes inner made question service.Save state account answers go le on = other_writes made question state account.inside answers go le on

come_writes : (inner : Handler) (made : ℕ) (o : Out HostState) (questions inside : ℕ) (answers : List Answer) (go : Onward) → made ≤ Writes (state_in o).made → OnwardWrites made go
    → SettledWrites made inside (come_to inner o questions inside answers go)
come_writes inner made (done code result state budget given) questions inside answers go le on = record { own = le; all = omega (arith, le) }
come_writes inner made (out_asks question state budget) questions inside answers go le on = service_writes inner made question question.service state (account_of budget questions inside) answers go le on
come_writes inner made (spent state) questions inside answers go le on = record { own = le; all = omega (arith, le) }
come_writes inner made (too_deep state) questions inside answers go le on = record { own = le; all = omega (arith, le) }

cut_writes : (made : ℕ) (o : Out HostState) (inside : ℕ) (answers : List Answer) → made ≤ Writes (state_in o).made → SettledWrites made inside (cut o inside answers)
cut_writes made (done code result state budget given) inside answers le = record { own = le; all = omega (arith, le) }
cut_writes made (out_asks question state budget) inside answers le = record { own = le; all = omega (arith, le) }
cut_writes made (spent state) inside answers le = record { own = le; all = omega (arith, le) }
cut_writes made (too_deep state) inside answers le = record { own = le; all = omega (arith, le) }

-- what a run writes, whatever is given to it, is written with the answers of a list
pub settle_writes : (inner : Handler) (made n inside : ℕ) (run : Run) (answers : List Answer) → RunWrites made run → SettledWrites made inside (settle inner n inside run answers)
settle_writes inner made zero inside run answers h = cut_writes made (run []) inside answers (h [])
settle_writes inner made (suc n) inside run answers h =
    come_writes inner made (run []) n inside answers (λ answer t left. settle inner n t (λ given. run (answer ∷ given)) left) (h [])
    (λ answer t left. settle_writes inner made n t (λ given. run (answer ∷ given)) left (λ given. h (answer ∷ given)))

-- ---- a definition run

good_own : (made : List Def) (result : List ℕ) (budget : ℕ) (state : State HostState) (left : List Answer) → defined_own (good_end made result budget state left) ≡ Writes state.made
good_own [] result budget state left = refl
good_own (def ∷ defs) result budget state [] = refl
good_own (def ∷ defs) result budget state (answer ∷ left) = refl

code_own : (code : ℕ) (result : List ℕ) (budget : ℕ) (state : State HostState) (left : List Answer) → defined_own (by_code code result budget state left) ≡ Writes state.made
code_own zero result budget state left = good_own state.made result budget state left
code_own (suc code) result budget state left = refl

pub define_own : (x : Settled) → defined_own (define_end x) ≡ settled_own x
define_own (ended code result state account left) = code_own _ _ account.budget state left
define_own (asking question state inside) = refl
define_own (exhausted state inside left) = refl
define_own (nested state inside left) = refl

pub define_writes : (inner : Handler) (made n inside : ℕ) (run : Run) (answers : List Answer) → RunWrites made run → made ≤ defined_own (define_end (settle inner n inside run answers))
define_writes inner made n inside run answers h =
    let own : made ≤ settled_own (settle inner n inside run answers) = (settle_writes inner made n inside run answers h).own in
    let same = define_own (settle inner n inside run answers) in
    omega (arith, own, same)

-- ---- a run

-- a stretch of a run goes on behind what was written
abbrev pub Grows : Stretch → Type 0
Grows stretch = (state : State HostState) (account : Account) (left : List Answer) → HasWritten (Writes state.made) account.inside (stretch state account left)

abbrev GrowsThen : Then → Type 0
GrowsThen go = (code : ℕ) (result : List ℕ) → Grows (go code result)

-- what was written behind this is at least as much
further : (made inside : ℕ) (state : State HostState) (account : Account) (run : Progress) → made ≤ Writes state.made → made + inside ≤ Writes state.made + account.inside
    → HasWritten (Writes state.made) account.inside run → HasWritten made inside run
further made inside state account run own all h = record {
  own = let a = h.own in omega (arith, own, a);
  all = let a = h.all in omega (arith, all, a);
}

-- a response, or an end, leaves what was written
here : (state : State HostState) (inside : ℕ) (run : Progress) → own_written run ≡ Writes state.made → all_written run ≡ Writes state.made + inside → HasWritten (Writes state.made) inside run
here state inside run own all = record { own = omega (arith, own); all = omega (arith, all) }

pub main_writes : (x : Settled) (go : Then) (made inside : ℕ) → GrowsThen go → SettledWrites made inside x → HasWritten made inside (main_on x go)
main_writes (ended code result state account left) go made inside on h = further made inside state account (go code result state account left) h.own h.all (on code result state account left)
main_writes (asking question state within) go made inside on h = record { own = h.own; all = h.all }
main_writes (exhausted state within left) go made inside on h = record { own = h.own; all = h.all }
main_writes (nested state within left) go made inside on h = record { own = h.own; all = h.all }

after_writes : (ending : Ending) (x : Settled) (go : Then) (made inside : ℕ) → GrowsThen go → SettledWrites made inside x → HasWritten made inside (after_on ending x go)
after_writes ending (ended code result state account left) go made inside on h = further made inside state account (go code result state account left) h.own h.all (on code result state account left)
after_writes ending (asking question state within) go made inside on h = record { own = h.own; all = h.all }
after_writes ending (exhausted state within left) go made inside on h = record { own = h.own; all = h.all }
after_writes ending (nested state within left) go made inside on h = record { own = h.own; all = h.all }

script_writes : (x : Settled) (made inside : ℕ) → SettledWrites made inside x → HasWritten made inside (script_end x)
script_writes (ended code result state account left) made inside h = record { own = h.own; all = h.all }
script_writes (asking question state within) made inside h = record { own = h.own; all = h.all }
script_writes (exhausted state within left) made inside h = record { own = h.own; all = h.all }
script_writes (nested state within left) made inside h = record { own = h.own; all = h.all }

pub filter_grows : (next rest : Stretch) (verdict : Verdict) → Grows next → Grows rest → Grows (filter_end next rest verdict)
filter_grows next rest Goes on breaks = on
filter_grows next rest Breaks on breaks = breaks
filter_grows next rest Returns on breaks = λ state account left. here state account.inside _ refl refl
filter_grows next rest Fails on breaks = λ state account left. here state account.inside _ refl refl

access_grows : (next : Stretch) (access : Access) → Grows next → Grows (access_end next access)
access_grows next Allowed on = on
access_grows next Unauthorized on = λ state account left. here state account.inside _ refl refl
access_grows next Forbidden on = λ state account left. here state account.inside _ refl refl
access_grows next Failed on = λ state account left. here state account.inside _ refl refl

trace_grows : (next rest : Stretch) (verdict : Verdict) → Grows next → Grows rest → Grows (trace_end next rest verdict)
trace_grows next rest Goes on breaks = on
trace_grows next rest Breaks on breaks = breaks
trace_grows next rest Returns on breaks = on
trace_grows next rest Fails on breaks = on

procedure_grows : GrowsThen procedure_end
procedure_grows = λ code result state account left. here state account.inside _ refl refl

page_grows : GrowsThen page_end
page_grows = λ code result state account left. here state account.inside _ refl refl

module _ (grows : MadeGrows host_table) (names : List (List ℕ)) (blueprint : Edition) (moment : ℕ) where
  -- a script, a call or a page writes behind what was written
  runs_write : (work : Work) (state : State HostState) (account : Account) (left : List Answer) → SettledWrites (Writes state.made) account.inside (runs names blueprint moment work state account left)
  runs_write work state account left =
      settle_writes (inner_runs names blueprint moment) (Writes state.made) account.questions account.inside _ left
      (λ given. let more = grows names 1 work state account.budget given in front_writes state.made _ (more.0, more.1))

  calls_write : (words : List (List ℕ)) (state : State HostState) (account : Account) (left : List Answer) → SettledWrites (Writes state.made) account.inside (calls names blueprint moment words state account left)
  calls_write words state account left = runs_write (works.Call words) (outset state) account left

  scripts_write : (script : List ℕ) (state : State HostState) (account : Account) (left : List Answer) → SettledWrites (Writes state.made) account.inside (scripts names blueprint moment script state account left)
  scripts_write script state account left = runs_write (works.Script script) (outset state) account left

  entered_grows : (answer : Answer) (onward : HostOnward HostState) → Grows (page_entered names blueprint moment answer onward)
  entered_grows answer (goes leaf) = λ state account left. here state account.inside _ refl refl
  entered_grows answer (enters pieces host) = λ state account left.
      main_writes (runs names blueprint moment (works.Page pieces) (at_global (with_host state host)) account left) page_end (Writes state.made) account.inside page_grows
      (runs_write (works.Page pieces) (at_global (with_host state host)) account left)

  pub asked_grows : (question : Question) (path : List ℕ) → Grows (page_asked names blueprint moment question path)
  asked_grows question path = λ state account left. by_answers state account left
    where
      by_answers : (state : State HostState) (account : Account) (left : List Answer) → HasWritten (Writes state.made) account.inside (page_asked names blueprint moment question path state account left)
      by_answers state account [] = here state account.inside _ refl refl
      by_answers state account (answer ∷ left) = entered_grows answer _ state account left

  pub serve_grows : (serving : Serving) → Grows (serve names blueprint moment serving)
  serve_grows (Procedure words) = λ state account left.
      main_writes (calls names blueprint moment words state account left) procedure_end (Writes state.made) account.inside procedure_grows (calls_write words state account left)
  serve_grows (Page path) = λ state account left. asked_grows _ path (outset state) account left
  serve_grows Nothing = λ state account left. here state account.inside _ refl refl

  pub filters_grow : (list : List (List (List ℕ))) (rest : Stretch) → Grows rest → Grows (filters_from names blueprint moment list rest)
  filters_grow [] rest on = on
  filters_grow (call ∷ more) rest on = λ state account left.
      main_writes (calls names blueprint moment call state account left) (λ code result. filter_end (filters_from names blueprint moment more rest) rest (verdict code result)) (Writes state.made) account.inside
      (λ code result. filter_grows (filters_from names blueprint moment more rest) rest (verdict code result) (filters_grow more rest on) on) (calls_write call state account left)

  pub authorise_grows : (call : Option (List (List ℕ))) (rest : Stretch) → Grows rest → Grows (authorise names blueprint moment call rest)
  authorise_grows None rest on = on
  authorise_grows (Some call) rest on = λ state account left.
      main_writes (calls names blueprint moment call state account left) (λ code result. access_end rest (access code result)) (Writes state.made) account.inside
      (λ code result. access_grows rest (access code result) on) (calls_write call state account left)

  pub cleanups_grow : (list : List (List ℕ)) (ending : Ending) → Grows (cleanups_from names blueprint moment list ending)
  cleanups_grow [] ending = λ state account left. here state account.inside _ refl refl
  cleanups_grow (script ∷ more) ending = λ state account left.
      after_writes ending (scripts names blueprint moment script state account left) (λ code result. cleanups_from names blueprint moment more ending) (Writes state.made) account.inside
      (λ code result. cleanups_grow more ending) (scripts_write script state account left)

  pub traces_grow : (list : List (List (List ℕ))) (cleanups : List (List ℕ)) (ending : Ending) → Grows (traces_from names blueprint moment list cleanups ending)
  traces_grow [] cleanups ending = cleanups_grow cleanups ending
  traces_grow (call ∷ more) cleanups ending = λ state account left.
      after_writes ending (calls names blueprint moment call state account left) (λ code result. trace_end (traces_from names blueprint moment more cleanups ending) (cleanups_from names blueprint moment cleanups ending) (verdict code result))
      (Writes state.made) account.inside
      (λ code result. trace_grows (traces_from names blueprint moment more cleanups ending) (cleanups_from names blueprint moment cleanups ending) (verdict code result) (traces_grow more cleanups ending) (cleanups_grow cleanups ending))
      (calls_write call state account left)

-- ---- the task under way

module _ (grows : MadeGrows host_table) (names : List (List ℕ)) (i : Interp) where
  pub served_grows : Grows (serve names i.blueprint.value i.moment i.visit.serving)
  served_grows = serve_grows grows names i.blueprint.value i.moment i.visit.serving

  pub authorised_grows : (next : ℕ) → Grows (filters_from names i.blueprint.value i.moment (drop next i.visit.postauth) (serve names i.blueprint.value i.moment i.visit.serving))
  authorised_grows next = filters_grow grows names i.blueprint.value i.moment (drop next i.visit.postauth) _ served_grows

  pub unauthorised_grows : Grows (unauthorised names i.blueprint.value i.moment i.visit)
  unauthorised_grows = authorise_grows grows names i.blueprint.value i.moment i.visit.authorisation _ (filters_grow grows names i.blueprint.value i.moment i.visit.postauth _ served_grows)

  pub visited_grows : (next : ℕ) → Grows (filters_from names i.blueprint.value i.moment (drop next i.visit.preauth) (unauthorised names i.blueprint.value i.moment i.visit))
  visited_grows next = filters_grow grows names i.blueprint.value i.moment (drop next i.visit.preauth) _ unauthorised_grows

  pub task_writes : (task : Task) (x : Settled) (made inside : ℕ) → SettledWrites made inside x → HasWritten made inside (task_end names i task x)
  task_writes tasks.New x made inside h = main_writes x procedure_end made inside procedure_grows h
  task_writes (tasks.Preauth next) x made inside h =
      main_writes x _ made inside (λ code result. filter_grows _ _ (verdict code result) (visited_grows next) unauthorised_grows) h
  task_writes tasks.Authorise x made inside h =
      main_writes x _ made inside (λ code result. access_grows _ (access code result) (filters_grow grows names i.blueprint.value i.moment i.visit.postauth _ served_grows)) h
  task_writes (tasks.Postauth next) x made inside h =
      main_writes x _ made inside (λ code result. filter_grows _ _ (verdict code result) (authorised_grows next) served_grows) h
  task_writes (tasks.PageAsked path budget) x made inside h = main_writes x procedure_end made inside procedure_grows h
  task_writes tasks.Procedure x made inside h = main_writes x procedure_end made inside procedure_grows h
  task_writes tasks.Page x made inside h = main_writes x page_end made inside page_grows h
  task_writes (tasks.Writing ending) x made inside h = main_writes x procedure_end made inside procedure_grows h
  task_writes (tasks.Trace next ending) x made inside h =
      after_writes ending x _ made inside
      (λ code result. trace_grows _ _ (verdict code result) (traces_grow grows names i.blueprint.value i.moment (drop next i.visit.trace) i.cleanups ending) (cleanups_grow grows names i.blueprint.value i.moment i.cleanups ending)) h
  task_writes (tasks.Cleanup next ending) x made inside h = after_writes ending x _ made inside (λ code result. cleanups_grow grows names i.blueprint.value i.moment (drop next i.cleanups) ending) h
  task_writes tasks.Script x made inside h = script_writes x made inside h
  task_writes (tasks.Define defining) x made inside h = main_writes x procedure_end made inside procedure_grows h
  task_writes tasks.Over x made inside h = main_writes x procedure_end made inside procedure_grows h
