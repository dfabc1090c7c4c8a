-- Interpreters.
use Rattle.std.proofs.Common.{◌≡◌, ℕ, ◌+◌, ◌-◌, ◌*◌, ◌<◌, ◌≤◌, List, [], ◌∷◌, ◌++◌, append_assoc, refl, sym, subst, ap, ◌∙◌, arith, false, Option, Some, None, Result, Ok, Err}
use Rattle.std.specs.Prelude.{IfOk, MatchResult}
use Rattle.outside.specs.declared.question.Answer.{Answer}
use Rattle.outside.specs.declared.question.Question.{Question}
use Rattle.cmd_table.specs.Commands.{Writes}
use Rattle.server_host.specs.Hosts.{HostState}
use Rattle.tcl_eval.specs.State.{State}
use Rattle.tcl_eval.specs.Engine.{Lasts, at_global}
use Rattle.tcl_eval.specs.declared.outcome.Work.{Work}
use Rattle.ictl.specs.Fresh.{outset}
use Rattle.ictl.specs.Settle.{Account, Settled, exhausted, nested, account_of}
use Rattle.http_resp.specs.declared.response.Response.{Response}
use Rattle.server_host.specs.declared.edition.Edition.{Edition}
use Rattle.tcl_eval.specs.declared.outcome.Outcome.{Outcome}
use Rattle.tcl_eval.specs.declared.outcome.Outcome.TheVariants as outcomes
use Rattle.http_req.specs.declared.request.Request.{Request}
use Rattle.ictl.specs.Main.{Progress, Stretch, filter_end, writes, ends, both, answered, behind, page_question, page_asked, runs}
use Rattle.ictl.specs.Replies.{budget_reply, nesting_reply, procedure_reply}
use Rattle.ictl.specs.declared.ending.After.{After}
use Rattle.ictl.specs.declared.ending.Verdict.{Verdict}
use Rattle.ictl.specs.declared.ending.Ending.{Ending}
use Rattle.ictl.specs.declared.ending.Ending.TheVariants.{Answered, Spent, TooDeep}
use Rattle.ictl.specs.Standing.{settling_gives, settling_at, inner_written}
use Rattle.ictl.specs.declared.defining.DefineRun.{DefineRun}
use Rattle.ictl.specs.declared.inner.InnerRun.{InnerRun}
use Rattle.ictl.specs.Interps.{interp_state, ending_of, interp_written, Holds, IsSameRun, task_end, goes_to, asking_gives, gives, move_gives, UnlessNoMemory, Stands, GoesOn, StandsOn}
use Rattle.ictl.specs.Falls.{IsEnd, StandsAt, GoesOut, IsWriting, MoveStandsAt, MoveFalls, SettlingAsks, TaskAsks, IsScriptTask, per_question, define_number, inner_number, settling_number, task_number, SettlingFalls, EndFalls, StopFalls}
use Rattle.ictl.specs.declared.running.Stop.{Stop}
use Rattle.ictl.specs.declared.running.Stop.TheVariants as stops
use Rattle.ictl.specs.declared.settling.Settling.{Settling}
use Rattle.ictl.specs.declared.task.Task.{Task}
use Rattle.ictl.specs.declared.task.Task.TheVariants.{New, Preauth, Authorise, Postauth, PageAsked, Procedure, Page, Writing, Trace, Cleanup, Script, Define, Over}
use Rattle.ictl.specs.Steps.{Lowers, followed, Follows, cut_stop, cut_reply}
use Rattle.ictl.specs.declared.task.Move.{Move}
use Rattle.ictl.specs.declared.task.Move.TheVariants as moves
use Rattle.ictl.specs.declared.next.Next.{Next}
use Rattle.ictl.specs.declared.next.Next.TheVariants.{Asks, Write, Ended, NoMemory}
use Rattle.ictl.specs.declared.interp.Interp.{Interp}
use Rattle.ictl.proofs.Lasting.{lasts_on}
use Rattle.ictl.proofs.Settlings.{none_taken, both_taken}

-- what stays in each of two calls stays in both
pub holds_on : (new between old : Interp) → Holds new between → Holds between old → Holds new old
holds_on new between old later earlier = record {
  engine = lasts_on new.settling.run.engine between.settling.run.engine old.settling.run.engine later.engine earlier.engine;
  blueprint = later.blueprint ∙ earlier.blueprint;
  mark = later.mark ∙ earlier.mark;
  routes = later.routes ∙ earlier.routes;
  cleanups = later.cleanups ∙ earlier.cleanups;
  authorises = later.authorises ∙ earlier.authorises;
}

-- what follows from what a call says of its good answer
pub ok_same : {A E : Type 0} (r : Result A E) (P Q : A → Type 0) → ((a : A) → P a → Q a) → IfOk r P → IfOk r Q
ok_same (Ok a) P Q goes h = goes a h
ok_same (Err e) P Q goes h = tt

pub ok_both : {A E : Type 0} (r : Result A E) (P Q R : A → Type 0) → ((a : A) → P a → Q a → R a) → IfOk r P → IfOk r Q → IfOk r R
ok_both (Ok a) P Q R goes p q = goes a p q
ok_both (Err e) P Q R goes p q = tt

-- what is answered where memory wants is no good answer
pub unless : (next : Next) (fact : Type 0) → fact → UnlessNoMemory next fact
unless (Asks question) fact h = h
unless (Write response) fact h = h
unless (Ended outcome) fact h = h
unless NoMemory fact h = tt

-- what goes out is no want of memory
pub stands_out : (names : List (List ℕ)) (next : Next) (run : List Answer → Progress) (inside : ℕ) (i : Interp) → GoesOut next i → Stands names run next inside i [] → (further : List Answer) → run further ≡ gives names next inside i further
stands_out names (Asks question) run inside i out stands = stands
stands_out names (Write response) run inside i out stands = stands
stands_out names (Ended outcome) run inside i out stands = stands
stands_out names NoMemory run inside i out stands = absurd out

pub answered_so : {E : Type 0} (came : Result Next E) (next : Next) (fact : Next → Type 0) → MatchResult came (λ n. next ≡ n) (λ e. next ≡ NoMemory) → IfOk came fact
    → UnlessNoMemory next (fact next)
answered_so (Ok n) next fact is h = subst (λ (m : Next). UnlessNoMemory m (fact m)) (sym is) (unless n (fact n) h)
answered_so (Err e) next fact is h = subst (λ (m : Next). UnlessNoMemory m (fact m)) (sym is) tt

pub answered_or : {E : Type 0} (came : Result Next E) (next : Next) (fact : Next → Type 0) → fact NoMemory → MatchResult came (λ n. next ≡ n) (λ e. next ≡ NoMemory) → IfOk came fact → fact next
answered_or (Ok n) next fact wants is h = subst fact (sym is) h
answered_or (Err e) next fact wants is h = subst fact (sym is) wants

-- what follows a filter that is known
pub follows_so : (known was : After) (said : Verdict) (next behind : Stretch) (state : State HostState) (account : Account) (further : List Answer) → was ≡ known → Follows was said state
    → followed next behind known state account further ≡ filter_end next behind said state account further
follows_so known was said next behind state account further is follows =
    ap (λ (a : After). followed next behind a state account further) (sym is) ∙ ap (λ (run : Account → List Answer → Progress). run account further) (follows next behind)

-- ---- questions fall

end_falls : (task : Task) (new old : Settling) (before : ℕ) → new.questions ≤ old.questions → EndFalls task old before → EndFalls task new before
end_falls New new old before fewer fell = omega (arith, fewer, fell)
end_falls (Preauth next) new old before fewer fell = omega (arith, fewer, fell)
end_falls Authorise new old before fewer fell = omega (arith, fewer, fell)
end_falls (Postauth next) new old before fewer fell = omega (arith, fewer, fell)
end_falls (PageAsked path budget) new old before fewer fell = omega (arith, fewer, fell)
end_falls Procedure new old before fewer fell = tt
end_falls Page new old before fewer fell = tt
end_falls (Writing ending) new old before fewer fell = omega (arith, fewer, fell)
end_falls (Trace next ending) new old before fewer fell = omega (arith, fewer, fell)
end_falls (Cleanup next ending) new old before fewer fell = omega (arith, fewer, fell)
end_falls Script new old before fewer fell = tt
end_falls (Define defining) new old before fewer fell = omega (arith, fewer, fell)
end_falls Over new old before fewer fell = omega (arith, fewer, fell)

-- a script that stopped leaves less to be asked
pub stop_falls : (stop : Stop) (task : Task) (new old : Settling) (before : ℕ) → new.questions ≤ old.questions → EndFalls task old before → SettlingFalls stop new before → StopFalls stop task new before
stop_falls (stops.Ended code result) task new old before fewer over fell = end_falls task new old before fewer over
stop_falls (stops.Asks question) task new old before fewer over fell = fell
stop_falls stops.Spent task new old before fewer over fell = tt
stop_falls stops.TooDeep task new old before fewer over fell = tt

-- where each script's end leaves less
pub ends_less : (task : Task) (s : Settling) (before : ℕ) → per_question * s.questions + 2 < before → EndFalls task s before
ends_less New s before less = less
ends_less (Preauth next) s before less = less
ends_less Authorise s before less = less
ends_less (Postauth next) s before less = less
ends_less (PageAsked path budget) s before less = less
ends_less Procedure s before less = tt
ends_less Page s before less = tt
ends_less (Writing ending) s before less = less
ends_less (Trace next ending) s before less = less
ends_less (Cleanup next ending) s before less = less
ends_less Script s before less = tt
ends_less (Define defining) s before less = less
ends_less Over s before less = less

-- fewer scripts may be begun
pub lowers_more : (step : Move) (i : Interp) (less more : ℕ) → less ≤ more → Lowers step i less → Lowers step i more
lowers_more (moves.Goes stop) i less more le h = omega (arith, le, h)
lowers_more (moves.Stops next) i less more le h = tt

-- where a run stops, no script is begun, and at a response nothing is asked
pub stops_lower : (step : Move) (next : Next) (i : Interp) (before : ℕ) → step ≡ moves.Stops next → Lowers step i before
stops_lower step next i before is = subst (λ (m : Move). Lowers m i before) (sym is) tt

pub write_falls : (step : Move) (response : Response) (i : Interp) (before : ℕ) → step ≡ moves.Stops (Write response) → MoveFalls step i before
write_falls step response i before is = subst (λ (m : Move). MoveFalls m i before) (sym is) tt

pub write_stands : (step : Move) (response : Response) (ending : Ending) (old new : Interp) → step ≡ moves.Stops (Write response) → new ≡ record old { task = Writing ending } → old.settling.inner ≡ None → MoveStandsAt step new
write_stands step response ending old new is now none =
    subst (λ (m : Move). MoveStandsAt m new) (sym is) (subst IsWriting (sym now) (none, (ending, refl)))

-- ---- where it stands

-- a script at a question
pub script_stands : (task : Task) (s : Settling) → IsScriptTask task → SettlingAsks s → TaskAsks task s
script_stands New s script asks = absurd script
script_stands (Preauth next) s script asks = asks
script_stands Authorise s script asks = asks
script_stands (Postauth next) s script asks = asks
script_stands (PageAsked path budget) s script asks = absurd script
script_stands Procedure s script asks = asks
script_stands Page s script asks = asks
script_stands (Writing ending) s script asks = asks
script_stands (Trace next ending) s script asks = asks
script_stands (Cleanup next ending) s script asks = asks
script_stands Script s script asks = asks
script_stands (Define defining) s script asks = absurd script
script_stands Over s script asks = asks

pub script_falls : (task : Task) (s : Settling) (before : ℕ) → IsScriptTask task → settling_number s < before → task_number task s < before
script_falls New s before script fell = absurd script
script_falls (Preauth next) s before script fell = fell
script_falls Authorise s before script fell = fell
script_falls (Postauth next) s before script fell = fell
script_falls (PageAsked path budget) s before script fell = absurd script
script_falls Procedure s before script fell = fell
script_falls Page s before script fell = fell
script_falls (Writing ending) s before script fell = fell
script_falls (Trace next ending) s before script fell = fell
script_falls (Cleanup next ending) s before script fell = fell
script_falls Script s before script fell = fell
script_falls (Define defining) s before script fell = absurd script
script_falls Over s before script fell = fell

-- a question that is neither for a first page nor in a definition run is one of a script
pub other_asks : (task : Task) (s : Settling) → ((p : List ℕ) (b : ℕ) → task ≡ PageAsked p b → ⊥) → ((d : DefineRun) → task ≡ Define d → ⊥) → TaskAsks task s → SettlingAsks s
other_asks New s page define asks = absurd asks
other_asks (Preauth next) s page define asks = asks
other_asks Authorise s page define asks = asks
other_asks (Postauth next) s page define asks = asks
other_asks (PageAsked path budget) s page define asks = absurd (page path budget refl)
other_asks Procedure s page define asks = asks
other_asks Page s page define asks = asks
other_asks (Writing ending) s page define asks = asks
other_asks (Trace next ending) s page define asks = asks
other_asks (Cleanup next ending) s page define asks = asks
other_asks Script s page define asks = asks
other_asks (Define defining) s page define asks = absurd (define defining refl)
other_asks Over s page define asks = asks

pub other_script : (task : Task) (s : Settling) → ((p : List ℕ) (b : ℕ) → task ≡ PageAsked p b → ⊥) → ((d : DefineRun) → task ≡ Define d → ⊥) → TaskAsks task s → IsScriptTask task
other_script New s page define asks = absurd asks
other_script (Preauth next) s page define asks = tt
other_script Authorise s page define asks = tt
other_script (Postauth next) s page define asks = tt
other_script (PageAsked path budget) s page define asks = absurd (page path budget refl)
other_script Procedure s page define asks = tt
other_script Page s page define asks = tt
other_script (Writing ending) s page define asks = tt
other_script (Trace next ending) s page define asks = tt
other_script (Cleanup next ending) s page define asks = tt
other_script Script s page define asks = tt
other_script (Define defining) s page define asks = absurd (define defining refl)
other_script Over s page define asks = tt

number_over : (new : ℕ) (old : Settling) (i : Option InnerRun) → old.inner ≡ i → new ≤ old.questions → per_question * new + 2 < settling_number old
number_over new old None is fewer = let n : inner_number old.inner ≡ 3 = ap inner_number is in omega (arith, fewer, n)
number_over new old (Some inner) is fewer = let n : inner_number old.inner ≡ define_number inner.defining.questions inner.defining.value + 4 = ap inner_number is in omega (arith, fewer, n)

-- what follows the answer to a script's question has a smaller number
pub asked_falls : (task : Task) (s : Settling) (new : Settling) (stop : Stop) → IsScriptTask task → new.questions ≤ s.questions → SettlingFalls stop new (settling_number s) → StopFalls stop task new (task_number task s)
asked_falls New s new stop script fewer fell = absurd script
asked_falls (Preauth next) s new stop script fewer fell = stop_falls stop (Preauth next) new new _ (omega arith) (number_over new.questions s s.inner refl fewer) fell
asked_falls Authorise s new stop script fewer fell = stop_falls stop Authorise new new _ (omega arith) (number_over new.questions s s.inner refl fewer) fell
asked_falls (Postauth next) s new stop script fewer fell = stop_falls stop (Postauth next) new new _ (omega arith) (number_over new.questions s s.inner refl fewer) fell
asked_falls (PageAsked path budget) s new stop script fewer fell = absurd script
asked_falls Procedure s new stop script fewer fell = stop_falls stop Procedure new new _ (omega arith) tt fell
asked_falls Page s new stop script fewer fell = stop_falls stop Page new new _ (omega arith) tt fell
asked_falls (Writing ending) s new stop script fewer fell = stop_falls stop (Writing ending) new new _ (omega arith) (number_over new.questions s s.inner refl fewer) fell
asked_falls (Trace next ending) s new stop script fewer fell = stop_falls stop (Trace next ending) new new _ (omega arith) (number_over new.questions s s.inner refl fewer) fell
asked_falls (Cleanup next ending) s new stop script fewer fell = stop_falls stop (Cleanup next ending) new new _ (omega arith) (number_over new.questions s s.inner refl fewer) fell
asked_falls Script s new stop script fewer fell = stop_falls stop Script new new _ (omega arith) tt fell
asked_falls (Define defining) s new stop script fewer fell = absurd script
asked_falls Over s new stop script fewer fell = stop_falls stop Over new new _ (omega arith) (number_over new.questions s s.inner refl fewer) fell

pub both_end : (ending : Ending) → IsEnd (both ending answered)
both_end Answered = tt
both_end Spent = tt
both_end TooDeep = tt

-- a run whose response wasn't written whole has ended
pub unwritten_over : (next : Next) (old new : Interp) → next ≡ Ended (both (ending_of old.task) answered) → new ≡ record old { task = Over } → old.settling.inner ≡ None → StandsAt next new
unwritten_over next old new is now none =
    subst (λ (n : Next). StandsAt n new) (sym is) (both_end (ending_of old.task), ap (λ (i : Interp). i.task) now, ap (λ (i : Interp). i.settling.inner) now ∙ none)

pub over_same : (new old : Interp) → new ≡ record old { task = Over } → IsSameRun new old
over_same new old now = subst (λ (i : Interp). IsSameRun i old) (sym now) (record { visit = refl; moment = refl; spare = refl })

pub over_holds : (new old : Interp) → new ≡ record old { task = Over } → Holds new old
over_holds new old now = subst (λ (i : Interp). Holds i old) (sym now) (record { engine = (λ mark le. (le, refl), refl, refl); blueprint = refl; mark = refl; routes = refl; cleanups = refl; authorises = refl })

-- ---- what it stands for

module _ (names : List (List ℕ)) where
  -- at its outset a script has written as much as before
  pub outset_written : (old : Interp) (between : Settling) → interp_state (record old { settling = between }) ≡ outset (interp_state old) → between.inner ≡ old.settling.inner
      → interp_written names (record old { settling = between }) ≡ interp_written names old
  outset_written old between state inner =
      ap (λ (s : State HostState). Writes s.made + inner_written names old.blueprint.value between.inner) state
      ∙ ap (λ (i : Option InnerRun). Writes old.settling.run.engine.made + inner_written names old.blueprint.value i) inner

  pub outset_counts : (old new : Interp) (between : Settling) (after before : ℕ) → interp_state (record old { settling = between }) ≡ outset (interp_state old) → between.inner ≡ old.settling.inner
      → before + interp_written names new ≤ after + interp_written names (record old { settling = between }) → before + interp_written names new ≤ after + interp_written names old
  outset_counts old new between after before state inner counts =
      subst (λ (n : ℕ). before + interp_written names new ≤ after + n) (outset_written old between state inner) counts

  -- what comes of a script's end doesn't go by the script's own state
  end_same : (task : Task) (old : Interp) (between : Settling) (x : Settled) → task_end names (record old { settling = between }) task x ≡ task_end names old task x
  end_same New old between x = refl
  end_same (Preauth next) old between x = refl
  end_same Authorise old between x = refl
  end_same (Postauth next) old between x = refl
  end_same (PageAsked path budget) old between x = refl
  end_same Procedure old between x = refl
  end_same Page old between x = refl
  end_same (Writing ending) old between x = refl
  end_same (Trace next ending) old between x = refl
  end_same (Cleanup next ending) old between x = refl
  end_same Script old between x = refl
  end_same (Define defining) old between x = refl
  end_same Over old between x = refl

  -- a script that begins at its outset comes to the same from the state before
  pub from_outset : (work : Work) (task : Task) (old new : Interp) (between : Settling) (step : Move) (budget inside after before : ℕ) (further : List Answer)
      → interp_state (record old { settling = between }) ≡ outset (interp_state old)
      → between.inner ≡ old.settling.inner → between.questions ≡ old.settling.questions
      → move_gives names step (inside + ((after + interp_written names (record old { settling = between })) - (before + interp_written names new))) new further
      ≡ task_end names (record old { settling = between }) task (runs names old.blueprint.value old.moment work (at_global (interp_state (record old { settling = between }))) (account_of budget between.questions inside) further)
      → move_gives names step (inside + ((after + interp_written names old) - (before + interp_written names new))) new further
      ≡ task_end names old task (runs names old.blueprint.value old.moment work (outset (interp_state old)) (account_of budget old.settling.questions inside) further)
  from_outset work task old new between step budget inside after before further state inner questions same =
      sym (ap (λ (n : ℕ). move_gives names step (inside + ((after + n) - (before + interp_written names new))) new further) (outset_written old between state inner))
      ∙ same
      ∙ end_same task old between (runs names old.blueprint.value old.moment work (at_global (interp_state (record old { settling = between }))) (account_of budget between.questions inside) further)
      ∙ ap (λ (s : State HostState). task_end names old task (runs names old.blueprint.value old.moment work (at_global s) (account_of budget between.questions inside) further)) state
      ∙ ap (λ (n : ℕ). task_end names old task (runs names old.blueprint.value old.moment work (outset (interp_state old)) (account_of budget n inside) further)) questions

  -- what comes of a script that stopped is what comes of the move
  pub goes_moved : (step : Move) (stop : Stop) (inside : ℕ) (i : Interp) (further : List Answer) (came : Progress) → step ≡ moves.Goes stop
      → came ≡ goes_to names stop inside i further → came ≡ move_gives names step inside i further
  goes_moved step stop inside i further came is goes = goes ∙ ap (λ (m : Move). move_gives names m inside i further) (sym is)

  -- where the task alone is another, nothing was written
  pub rest_counts : (old new : Interp) (steps : ℕ) → ((task : Task) × (new ≡ record old { task = task })) → steps + interp_written names new ≤ steps + interp_written names old
  rest_counts old new steps rest = let same : interp_written names new ≡ interp_written names old = ap (λ (i : Interp). interp_written names i) rest.1 in omega (arith, same)

  -- ---- two calls, one after the other

  -- a step, and then on until something goes out
  pub moved_on : (step : Move) (next : Next) (old between new : Interp) (inside first middle last : ℕ) (further : List Answer) (reached : Progress)
      → first + interp_written names between ≤ middle + interp_written names old
      → middle + interp_written names new ≤ last + interp_written names between
      → move_gives names step (inside + ((middle + interp_written names old) - (first + interp_written names between))) between further ≡ reached
      → ((n : ℕ) → gives names next (n + ((last + interp_written names between) - (middle + interp_written names new))) new further ≡ move_gives names step n between further)
      → gives names next (inside + ((last + interp_written names old) - (first + interp_written names new))) new further ≡ reached
  moved_on step next old between new inside first middle last further reached here there one two =
      sym (ap (λ (n : ℕ). gives names next n new further)
      (both_taken inside first middle last (interp_written names old) (interp_written names between) (interp_written names new) here there))
      ∙ two (inside + ((middle + interp_written names old) - (first + interp_written names between)))
      ∙ one

  -- the same of a script that goes on with an answer
  pub answered_on : (stop : Stop) (next : Next) (old between new : Interp) (inside first middle last : ℕ) (further : List Answer) (reached : Progress)
      → first + interp_written names between ≤ middle + interp_written names old
      → middle + interp_written names new ≤ last + interp_written names between
      → goes_to names stop (inside + ((middle + interp_written names old) - (first + interp_written names between))) between further ≡ reached
      → ((n : ℕ) → gives names next (n + ((last + interp_written names between) - (middle + interp_written names new))) new further ≡ goes_to names stop n between further)
      → gives names next (inside + ((last + interp_written names old) - (first + interp_written names new))) new further ≡ reached
  answered_on stop next old between new inside first middle last further reached here there one two =
      moved_on (moves.Goes stop) next old between new inside first middle last further reached here there one two

  -- a run that begins, from a state with which nothing was written yet
  pub from_start : (next : Next) (old between new : Interp) (inside first last : ℕ) (further : List Answer) (reached : Progress)
      → interp_written names between ≡ interp_written names old
      → gives names next (inside + ((last + interp_written names between) - (first + interp_written names new))) new further ≡ reached
      → gives names next (inside + ((last + interp_written names old) - (first + interp_written names new))) new further ≡ reached
  from_start next old between new inside first last further reached same gives_so =
      sym (ap (λ (n : ℕ). gives names next (inside + ((last + n) - (first + interp_written names new))) new further) same) ∙ gives_so

  -- nothing ran before
  pub from_none : (next : Next) (new : Interp) (took : ℕ) (further : List Answer) (reached : Progress) → gives names next (0 + took) new further ≡ reached → gives names next took new further ≡ reached
  from_none next new took further reached h = ap (λ (n : ℕ). gives names next n new further) (none_before took) ∙ h
    where
      none_before : (n : ℕ) → n ≡ 0 + n
      none_before n = omega arith

  -- a response that is to be written
  pub responded : (step : Move) (response : Response) (old new : Interp) (inside steps : ℕ) (further : List Answer) → step ≡ moves.Stops (Write response) → new ≡ record old { task = Writing Answered }
      → move_gives names step (inside + ((steps + interp_written names old) - (steps + interp_written names new))) new further ≡ writes response Answered (interp_state old) inside further
  responded step response old new inside steps further is now =
      ap (λ (m : Move). move_gives names m (inside + ((steps + interp_written names old) - (steps + interp_written names new))) new further) is
      ∙ ap (λ (i : Interp). writes response (ending_of i.task) (interp_state i) (inside + ((steps + interp_written names old) - (steps + interp_written names i))) further) now
      ∙ ap (λ (n : ℕ). writes response Answered (interp_state old) n further) (none_taken inside (steps + interp_written names old))

  -- a run that has ended
  pub ended_over : (step : Move) (outcome : Outcome) (old new : Interp) (inside steps : ℕ) (further : List Answer) → step ≡ moves.Stops (Ended outcome) → new ≡ record old { task = Over }
      → move_gives names step (inside + ((steps + interp_written names old) - (steps + interp_written names new))) new further ≡ ends outcome (interp_state old) inside further
  ended_over step outcome old new inside steps further is now =
      ap (λ (m : Move). move_gives names m (inside + ((steps + interp_written names old) - (steps + interp_written names new))) new further) is
      ∙ ap (λ (i : Interp). ends outcome (interp_state i) (inside + ((steps + interp_written names old) - (steps + interp_written names i))) further) now
      ∙ ap (λ (n : ℕ). ends outcome (interp_state old) n further) (none_taken inside (steps + interp_written names old))

  -- a run whose response wasn't written whole
  pub unwritten_stands : (next : Next) (old new : Interp) (request : Request) (inside steps : ℕ) → next ≡ Ended (both (ending_of old.task) answered) → new ≡ record old { task = Over }
      → UnlessNoMemory next ((further : List Answer) → behind names old.blueprint.value old.moment false request (ending_of old.task) (interp_state old) inside further
      ≡ gives names next (inside + ((steps + interp_written names old) - (steps + interp_written names new))) new further)
  unwritten_stands next old new request inside steps is now =
      subst (λ (n : Next). UnlessNoMemory n ((further : List Answer) → behind names old.blueprint.value old.moment false request (ending_of old.task) (interp_state old) inside further
      ≡ gives names n (inside + ((steps + interp_written names old) - (steps + interp_written names new))) new further)) (sym is)
      (λ further. sym (ap (λ (i : Interp). ends (both (ending_of old.task) answered) (interp_state i) (inside + ((steps + interp_written names old) - (steps + interp_written names i))) further) now
      ∙ ap (λ (n : ℕ). ends (both (ending_of old.task) answered) (interp_state old) n further) (none_taken inside (steps + interp_written names old))))

  -- a script that stands at a question
  pub script_asking : (question : Question) (task : Task) (i : Interp) (inside : ℕ) (further : List Answer) → IsScriptTask task → asking_gives names question task inside i further ≡ goes_to names (stops.Asks question) inside i further
  script_asking question New i inside further script = absurd script
  script_asking question (Preauth next) i inside further script = refl
  script_asking question Authorise i inside further script = refl
  script_asking question (Postauth next) i inside further script = refl
  script_asking question (PageAsked path budget) i inside further script = absurd script
  script_asking question Procedure i inside further script = refl
  script_asking question Page i inside further script = refl
  script_asking question (Writing ending) i inside further script = refl
  script_asking question (Trace next ending) i inside further script = refl
  script_asking question (Cleanup next ending) i inside further script = refl
  script_asking question Script i inside further script = refl
  script_asking question (Define defining) i inside further script = absurd script
  script_asking question Over i inside further script = refl

  pub script_asks : (stop : Stop) (question : Question) (i : Interp) (inside steps : ℕ) (further : List Answer) → IsScriptTask i.task → stop ≡ stops.Asks question
      → gives names (Asks question) (inside + ((steps + interp_written names i) - (steps + interp_written names i))) i further ≡ goes_to names stop inside i further
  script_asks stop question i inside steps further script is =
      ap (λ (n : ℕ). gives names (Asks question) n i further) (none_taken inside (steps + interp_written names i))
      ∙ script_asking question i.task i inside further script
      ∙ sym (ap (λ (t : Stop). goes_to names t inside i further) is)

  -- a first page's question doesn't say what comes of its answer
  pub page_asking : (question other : Question) (path : List ℕ) (budget : ℕ) (i : Interp) (inside : ℕ) (answer : Answer) (further : List Answer) → i.task ≡ PageAsked path budget
      → asking_gives names question i.task inside i (answer ∷ further) ≡ asking_gives names other i.task inside i (answer ∷ further)
  page_asking question other path budget i inside answer further is =
      subst (λ (t : Task). asking_gives names question t inside i (answer ∷ further) ≡ asking_gives names other t inside i (answer ∷ further)) (sym is) refl

  -- what comes of an answer to a question of a script
  pub script_answered : (question : Question) (stop : Stop) (old : Interp) (new : Settling) (inside first last : ℕ) (answer : Answer) (further : List Answer) → IsScriptTask old.task
      → settling_gives names old.blueprint.value old.moment stop new (inside + ((last + interp_written names old) - (first + interp_written names (record old { settling = new })))) further
      ≡ settling_at names old.blueprint.value old.moment question old.settling old.settling.inner inside (answer ∷ further)
      → goes_to names stop (inside + ((last + interp_written names old) - (first + interp_written names (record old { settling = new })))) (record old { settling = new }) further
      ≡ gives names (Asks question) inside old (answer ∷ further)
  script_answered question stop old new inside first last answer further script same =
      ap (λ (x : Settled). task_end names old old.task x) same ∙ sym (script_asking question old.task old inside (answer ∷ further) script)

  -- where the first page is asked for
  pub asked_page : (step : Move) (path : List ℕ) (old new : Interp) (budget inside steps : ℕ) (further : List Answer) → step ≡ moves.Stops (Asks (page_question path))
      → interp_state new ≡ outset (interp_state old) → new.task ≡ PageAsked path budget → new.settling.questions ≡ old.settling.questions → new.settling.inner ≡ old.settling.inner
      → new.blueprint.value ≡ old.blueprint.value → new.moment ≡ old.moment
      → move_gives names step (inside + ((steps + interp_written names old) - (steps + interp_written names new))) new further
      ≡ page_asked names old.blueprint.value old.moment (page_question path) path (outset (interp_state old)) (account_of budget old.settling.questions inside) further
  asked_page step path old new budget inside steps further is state task questions inner own moment =
      let wrote : interp_written names new ≡ interp_written names old =
      ap (λ (s : State HostState). Writes s.made + inner_written names new.blueprint.value new.settling.inner) state
      ∙ ap (λ (b : Edition). Writes old.settling.run.engine.made + inner_written names b new.settling.inner) own
      ∙ ap (λ (i : Option InnerRun). Writes old.settling.run.engine.made + inner_written names old.blueprint.value i) inner in
      let n = inside + ((steps + interp_written names old) - (steps + interp_written names new)) in
      let took : inside + ((steps + interp_written names old) - (steps + interp_written names new)) ≡ inside = omega (arith, wrote) in
      ap (λ (m : Move). move_gives names m n new further) is
      ∙ ap (λ (t : Task). asking_gives names (page_question path) t n new further) task
      ∙ ap (λ (b : Edition). page_asked names b new.moment (page_question path) path (interp_state new) (account_of budget new.settling.questions n) further) own
      ∙ ap (λ (m : ℕ). page_asked names old.blueprint.value m (page_question path) path (interp_state new) (account_of budget new.settling.questions n) further) moment
      ∙ ap (λ (s : State HostState). page_asked names old.blueprint.value old.moment (page_question path) path s (account_of budget new.settling.questions n) further) state
      ∙ ap (λ (q : ℕ). page_asked names old.blueprint.value old.moment (page_question path) path (outset (interp_state old)) (account_of budget q n) further) questions
      ∙ ap (λ (k : ℕ). page_asked names old.blueprint.value old.moment (page_question path) path (outset (interp_state old)) (account_of budget old.settling.questions k) further) took

  -- a script of another task than these came to its end, as the procedure does
  pub rest_ends : (code : ℕ) (value : List ℕ) (task : Task) (i : Interp) (inside : ℕ) (further : List Answer)
      → ((n : ℕ) → task ≡ Preauth n → ⊥) → (task ≡ Authorise → ⊥) → ((n : ℕ) → task ≡ Postauth n → ⊥) → (task ≡ Page → ⊥)
      → ((n : ℕ) (e : Ending) → task ≡ Trace n e → ⊥) → ((n : ℕ) (e : Ending) → task ≡ Cleanup n e → ⊥) → (task ≡ Script → ⊥)
      → task_end names i task (settling_gives names i.blueprint.value i.moment (stops.Ended code value) i.settling inside further)
      ≡ writes (procedure_reply code (interp_state i).host.conn.response) Answered (interp_state i) inside further
  rest_ends code value New i inside further p a o g t u s = refl
  rest_ends code value (Preauth next) i inside further p a o g t u s = absurd (p next refl)
  rest_ends code value Authorise i inside further p a o g t u s = absurd (a refl)
  rest_ends code value (Postauth next) i inside further p a o g t u s = absurd (o next refl)
  rest_ends code value (PageAsked path budget) i inside further p a o g t u s = refl
  rest_ends code value Procedure i inside further p a o g t u s = refl
  rest_ends code value Page i inside further p a o g t u s = absurd (g refl)
  rest_ends code value (Writing ending) i inside further p a o g t u s = refl
  rest_ends code value (Trace next ending) i inside further p a o g t u s = absurd (t next ending refl)
  rest_ends code value (Cleanup next ending) i inside further p a o g t u s = absurd (u next ending refl)
  rest_ends code value Script i inside further p a o g t u s = absurd (s refl)
  rest_ends code value (Define defining) i inside further p a o g t u s = refl
  rest_ends code value Over i inside further p a o g t u s = refl

  -- up to the response a script that was cut off gives the reply that says so
  spent_writes : (task : Task) (i : Interp) (state : State HostState) (inside : ℕ) (left : List Answer) → ((n : ℕ) (e : Ending) → task ≡ Trace n e → ⊥) → ((n : ℕ) (e : Ending) → task ≡ Cleanup n e → ⊥) → (task ≡ Script → ⊥)
      → task_end names i task (exhausted state inside left) ≡ writes budget_reply Spent state inside left
  spent_writes New i state inside left t u s = refl
  spent_writes (Preauth next) i state inside left t u s = refl
  spent_writes Authorise i state inside left t u s = refl
  spent_writes (Postauth next) i state inside left t u s = refl
  spent_writes (PageAsked path budget) i state inside left t u s = refl
  spent_writes Procedure i state inside left t u s = refl
  spent_writes Page i state inside left t u s = refl
  spent_writes (Writing ending) i state inside left t u s = refl
  spent_writes (Trace next ending) i state inside left t u s = absurd (t next ending refl)
  spent_writes (Cleanup next ending) i state inside left t u s = absurd (u next ending refl)
  spent_writes Script i state inside left t u s = absurd (s refl)
  spent_writes (Define defining) i state inside left t u s = refl
  spent_writes Over i state inside left t u s = refl

  nested_writes : (task : Task) (i : Interp) (state : State HostState) (inside : ℕ) (left : List Answer) → ((n : ℕ) (e : Ending) → task ≡ Trace n e → ⊥) → ((n : ℕ) (e : Ending) → task ≡ Cleanup n e → ⊥) → (task ≡ Script → ⊥)
      → task_end names i task (nested state inside left) ≡ writes nesting_reply TooDeep state inside left
  nested_writes New i state inside left t u s = refl
  nested_writes (Preauth next) i state inside left t u s = refl
  nested_writes Authorise i state inside left t u s = refl
  nested_writes (Postauth next) i state inside left t u s = refl
  nested_writes (PageAsked path budget) i state inside left t u s = refl
  nested_writes Procedure i state inside left t u s = refl
  nested_writes Page i state inside left t u s = refl
  nested_writes (Writing ending) i state inside left t u s = refl
  nested_writes (Trace next ending) i state inside left t u s = absurd (t next ending refl)
  nested_writes (Cleanup next ending) i state inside left t u s = absurd (u next ending refl)
  nested_writes Script i state inside left t u s = absurd (s refl)
  nested_writes (Define defining) i state inside left t u s = refl
  nested_writes Over i state inside left t u s = refl

  pub cut_writes : (ending : Ending) (task : Task) (i : Interp) (inside : ℕ) (further : List Answer) → (ending ≡ Answered → ⊥) → ((n : ℕ) (e : Ending) → task ≡ Trace n e → ⊥) → ((n : ℕ) (e : Ending) → task ≡ Cleanup n e → ⊥) → (task ≡ Script → ⊥)
      → task_end names i task (settling_gives names i.blueprint.value i.moment (cut_stop ending) i.settling inside further) ≡ writes (cut_reply ending) ending (interp_state i) inside further
  cut_writes Answered task i inside further cut t u s = absurd (cut refl)
  cut_writes Spent task i inside further cut t u s = spent_writes task i (interp_state i) inside further t u s
  cut_writes TooDeep task i inside further cut t u s = nested_writes task i (interp_state i) inside further t u s

  -- and behind it, or in a scheduled script, the run ends
  pub cut_ends : (ending first : Ending) (step : Move) (old new : Interp) (task : Task) (inside : ℕ) (further : List Answer) → (ending ≡ Answered → ⊥)
      → step ≡ moves.Stops (Ended (both first (both ending outcomes.Spent))) → new ≡ record old { task = Over } → old.task ≡ task
      → ((x : State HostState) → (task_end names old task (exhausted x inside further) ≡ ends (both first outcomes.Spent) x inside further) × (task_end names old task (nested x inside further) ≡ ends (both first outcomes.TooDeep) x inside further))
      → move_gives names step inside new further ≡ goes_to names (cut_stop ending) inside old further
  cut_ends ending first step old new task inside further cut is now at ended =
      ap (λ (m : Move). move_gives names m inside new further) is
      ∙ ap (λ (i : Interp). ends (both first (both ending outcomes.Spent)) (interp_state i) inside further) now
      ∙ by_ending ending cut
      ∙ sym (ap (λ (t : Task). task_end names old t (settling_gives names old.blueprint.value old.moment (cut_stop ending) old.settling inside further)) at)
    where
      by_ending : (e : Ending) → (e ≡ Answered → ⊥)
          → ends (both first (both e outcomes.Spent)) (interp_state old) inside further ≡ task_end names old task (settling_gives names old.blueprint.value old.moment (cut_stop e) old.settling inside further)
      by_ending Answered never = absurd (never refl)
      by_ending Spent never = sym (ended (interp_state old)).0
      by_ending TooDeep never = sym (ended (interp_state old)).1

  -- a script of this task came to an end
  pub in_task : (stop : Stop) (task : Task) (i : Interp) (inside : ℕ) (further : List Answer) → i.task ≡ task
      → task_end names i task (settling_gives names i.blueprint.value i.moment stop i.settling inside further) ≡ goes_to names stop inside i further
  in_task stop task i inside further is = sym (ap (λ (t : Task). task_end names i t (settling_gives names i.blueprint.value i.moment stop i.settling inside further)) is)

  -- an interpreter that goes on from a question stands for the same run with one answer more
  pub stands_on : (next : Next) (took : ℕ) (new old : Interp) (answer : Answer) → GoesOn names next took new old answer → StandsOn names next took new old answer
  stands_on (Asks asked) took new old answer step = λ question inside run given stands further.
      ap run (append_assoc given (answer ∷ []) further) ∙ stands (answer ∷ further) ∙ sym (step question inside further)
  stands_on (Write response) took new old answer step = λ question inside run given stands further.
      ap run (append_assoc given (answer ∷ []) further) ∙ stands (answer ∷ further) ∙ sym (step question inside further)
  stands_on (Ended outcome) took new old answer step = λ question inside run given stands further.
      ap run (append_assoc given (answer ∷ []) further) ∙ stands (answer ∷ further) ∙ sym (step question inside further)
  stands_on NoMemory took new old answer step = λ question inside run given stands. tt
