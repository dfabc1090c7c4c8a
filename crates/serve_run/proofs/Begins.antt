-- How a run ends, from its parts.
use Rattle.std.proofs.Common.{◌≡◌, ◌≢◌, ◌<◌, ◌≤◌, ◌⊎◌, inl, inr, ⊎_elim, ℕ, List, Option, Some, Result, Ok, Err, true, length, refl, sym, ap, ◌∙◌, subst, arith}
use Rattle.std.specs.Prelude.{MatchResult, IfOk, IfErr, OnOk, OnErr}
use Rattle.txt_core.specs.Limits.{most_bytes, moment_of, last_moment}
use Rattle.outside.specs.Clocks.{Dial, Shows}
use Rattle.outside.specs.Faults.{Rose}
use Rattle.outside.specs.Guests.{NetState}
use Rattle.outside.specs.Nets.{IsNew, Keeps, Listens}
use Rattle.outside.specs.Paging.{PageMap}
use Rattle.serve_options.specs.Reading.{AreTaken, connections_of}
use Rattle.server_threads.specs.Stops.{Stops}
use Rattle.server_threads.specs.declared.accepting.Stop.{Stop}
use Rattle.server_threads.specs.declared.accepting.Stop.TheVariants as stop
use Rattle.tcl_eval.specs.declared.outcome.Outcome.{Outcome}
use Rattle.tcl_eval.specs.declared.outcome.Outcome.TheVariants as outcomes
use Rattle.worker.specs.declared.scripts.EvalEnd.{EvalEnd}
use Rattle.worker.specs.declared.scripts.EvalEnd.TheVariants as evals
use Rattle.serve_run.specs.Starting.{IsPage, IsReading, DefinesAlone, Starts, StartsWell, StartsBadly}
use Rattle.serve_run.specs.Serving.{Around, IsStart, Says, Ends}
use Rattle.serve_run.specs.Statuses.{IsTold}
use Rattle.serve_run.specs.Stages.{Misses, EndsRun, IsEarlier, EndsUnstarted, ended_by, started}
use Rattle.serve_run.specs.declared.ended.StartFault.{StartFault}
use Rattle.serve_run.specs.declared.ended.Ended.{Ended}
use Rattle.serve_run.specs.declared.ended.Ended.TheVariants as ways
use Rattle.serve_run.specs.declared.start.NotStarted.{NotStarted}
use Rattle.serve_run.specs.declared.start.NotStarted.TheVariants.{Fault, NoMemory}
use Rattle.serve_run.proofs.Earlier.{rose_earlier, defines_earlier, well_earlier, badly_earlier}

-- ---- the start script

-- a reading of a clock that is told is no later than the last moment
pub reading_is : (clock next : Option Dial) (moment : ℕ) → Shows clock moment next → IsReading clock (moment_of moment)
reading_is clock next moment shows = λ dial is. let s = shows dial is in omega (arith, s.0, s.1)

module _ (names : List (List ℕ)) (path : List ℕ) (held : Option PageMap) (clock : Option Dial) (a b c : ℕ) (page : List ℕ) (moment : ℕ)
    (is_page : IsPage held path (Some page) × (length page ≤ most_bytes)) (is_reading : IsReading clock moment) (first : a ≤ b) where
  starts : (outcome : Outcome) → DefinesAlone names held page moment b c outcome → Starts names path held a clock c outcome
  starts outcome d = record {
    page = page;
    is_page = is_page.0;
    fits = is_page.1;
    moment = moment;
    is_reading = is_reading;
    defines = defines_earlier names held page moment a b c outcome first d;
  }

  by_end : (e : EvalEnd) → EndsRun names held page moment b c e
      → OnOk (started e) (StartsWell names path held a clock c) × IfErr (started e) (Misses names path held a clock c)
  by_end (evals.Done epoch) r = ((r.0, starts r.0 r.1, r.2), tt)
  by_end (evals.Error text) r = (tt, (r.0, starts r.0 r.1, r.2))
  by_end evals.Spent r = (tt, starts outcomes.Spent r)
  by_end evals.TooDeep r = (tt, starts outcomes.TooDeep r)
  by_end evals.NoMemory r = (tt, tt)

  -- what the start script came to, by how its definition run ended
  pub start_is : (now : Option PageMap) (e : EvalEnd) (r : Result (Unit {0}) NotStarted) → now ≡ held → EndsRun names now page moment b c e → r ≡ started e
      → OnOk r (StartsWell names path held a clock c) × IfErr r (Misses names path held a clock c)
  start_is now e r same ran is =
      subst (λ (z : Result (Unit {0}) NotStarted). OnOk z (StartsWell names path held a clock c) × IfErr z (Misses names path held a clock c)) (sym is)
      (by_end e (subst (λ (h : Option PageMap). EndsRun names h page moment b c e) same ran))

-- ---- ends

none_given : (net : NetState) (n : ℕ) → IsNew net → n ≢ 0 → net.given ≤ n
none_given net n new = λ some. let z = new.0 in omega (arith, z)

module _ (names words : List (List ℕ)) (before now : Around) (earlier : IsEarlier before now) (new : IsNew now.net) where
  -- no connection was given
  pub unserved : (ended : Ended) (after : Around) → after.net ≡ now.net → after.pages ≡ now.pages → Says names words before ended after
      → Ends names words before ended after
  unserved ended after net pages says = record {
    says = says;
    started = λ some. absurd (some (ap (λ (z : NetState). z.given) net ∙ new.0));
    most = subst (λ (z : NetState). connections_of words ≢ 0 → z.given ≤ connections_of words) (sym net) (none_given now.net (connections_of words) new);
    faults = subst (λ (z : NetState). before.net.faults ≤ z.faults) (sym net) earlier.net;
    pages = pages ∙ earlier.pages;
  }

  -- the start script had no good end
  pub unstarted : (path : List ℕ) (why : NotStarted) (ended : Ended) (after : Around) → AreTaken words → IsStart words path → EndsUnstarted path why ended
      → Misses names path now.pages now.page_faults now.clock after.page_faults why → after.net ≡ now.net → after.pages ≡ now.pages
      → Ends names words before ended after
  unstarted path (Fault fault) ended after taken is_start (inl is) misses net pages =
      subst (λ (z : Ended). Ends names words before z after) (sym is)
      (unserved (ways.BadStart path fault) after net pages (
        taken,
        is_start,
        badly_earlier names before.pages path before.clock before.page_faults now.page_faults after.page_faults fault earlier.page_faults
            (subst (λ (y : Option PageMap × Option Dial). StartsBadly names path y.0 now.page_faults y.1 after.page_faults fault)
            (λ i. (earlier.pages i, earlier.clock i)) misses),
      ))
  unstarted path (Fault fault) ended after taken is_start (inr is) misses net pages =
      subst (λ (z : Ended). Ends names words before z after) (sym is) (unserved ways.NoMemory after net pages tt)
  unstarted path NoMemory ended after taken is_start is misses net pages =
      subst (λ (z : Ended). Ends names words before z after) (sym is) (unserved ways.NoMemory after net pages tt)

  module _ (path : List ℕ) (after : Around) (taken : AreTaken words) (is_start : IsStart words path)
      (well : StartsWell names path now.pages now.page_faults now.clock after.page_faults) (pages : after.pages ≡ now.pages) where
    started_well : StartsWell names path before.pages before.page_faults before.clock after.page_faults
    started_well = well_earlier names before.pages path before.clock before.page_faults now.page_faults after.page_faults earlier.page_faults
        (subst (λ (y : Option PageMap × Option Dial). StartsWell names path y.0 now.page_faults y.1 after.page_faults) (λ i. (earlier.pages i, earlier.clock i)) well)

    by_stop : (why : Stop) → Stops (connections_of words) now.net why after.net → Says names words before (ended_by why) after
    by_stop stop.Closed s = (inl s.cause, (taken, (path, is_start, started_well)))
    by_stop stop.Reached s = (inr s.cause, (taken, (path, is_start, started_well)))
    by_stop stop.Fault s = (taken, rose_earlier before.net.faults now.net.faults after.net.faults earlier.net s.cause)
    by_stop stop.NoMemory s = tt

    stopped : (why : Stop) → Stops (connections_of words) now.net why after.net → Ends names words before (ended_by why) after
    stopped why s = record {
      says = by_stop why s;
      started = λ some. (taken, (path, is_start, started_well));
      most = s.most;
      faults = let e = earlier.net in let f = s.faults in omega (arith, e, f);
      pages = pages ∙ earlier.pages;
    }

    -- the acceptor stopped, or memory wanted before
    pub served : {E : Type 0} (r : Result Stop E) (ended : Ended) → MatchResult r (λ why. ended ≡ ended_by why) (λ error. ended ≡ ways.NoMemory)
        → IfOk r (λ why. Stops (connections_of words) now.net why after.net) → OnErr r (after.net ≡ now.net)
        → Ends names words before ended after
    served (Ok why) ended is stops none = subst (λ (z : Ended). Ends names words before z after) (sym is) (stopped why stops)
    served (Err error) ended is stops none = subst (λ (z : Ended). Ends names words before z after) (sym is) (unserved ways.NoMemory after none pages tt)

-- ---- before the start

-- it is as early as itself
pub at_once : (around : Around) → IsEarlier around around
at_once around = record { net = omega arith; pages = refl; page_faults = omega arith; clock = refl }

-- nothing was done
pub undone : (names words : List (List ℕ)) (around : Around) (ended : Ended) → IsNew around.net → Says names words around ended around
    → Ends names words around ended around
undone names words around ended new says = unserved names words around around (at_once around) new ended around refl refl says

-- the pages have their root, and the net listens
pub later : (net net_after : NetState) (pages pages_after : Option PageMap) (faults faults_after : ℕ) (clock : Option Dial)
    → Keeps net net_after → pages_after ≡ pages → faults ≤ faults_after
    → IsEarlier (record { net = net; pages = pages; page_faults = faults; clock = clock }) (record { net = net_after; pages = pages_after; page_faults = faults_after; clock = clock })
later net net_after pages pages_after faults faults_after clock keeps same more =
    record { net = keeps.faults; pages = same; page_faults = more; clock = refl }

pub still_new : (net after : NetState) → IsNew net → Keeps net after → IsNew after
still_new net after new keeps = (keeps.given ∙ new.0, keeps.ended ∙ new.1)

-- the net didn't listen
pub unheard : (names words : List (List ℕ)) (before after : Around) → AreTaken words → IsNew before.net → Keeps before.net after.net → Rose before.net.faults after.net.faults → after.pages ≡ before.pages
    → Ends names words before ways.NetFault after
unheard names words before after taken new keeps rose pages = record {
  says = (taken, rose);
  started = λ some. absurd (some (still_new before.net after.net new keeps).0);
  most = none_given after.net (connections_of words) (still_new before.net after.net new keeps);
  faults = keeps.faults;
  pages = pages;
}

-- ---- what is told

-- where there is no memory for the line of an end, want of memory is told, of which nothing is said
pub ends_told : (names words : List (List ℕ)) (before after : Around) (ended told : Ended) → IsTold ended told → Ends names words before ended after
    → Ends names words before told after
ends_told names words before after ended told (inl is) e = subst (λ (z : Ended). Ends names words before z after) (sym is) e
ends_told names words before after ended told (inr is) e =
    subst (λ (z : Ended). Ends names words before z after) (sym is) (record { says = tt; started = e.started; most = e.most; faults = e.faults; pages = e.pages })
