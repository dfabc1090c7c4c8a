-- What the scheduler of the program does.
use Rattle.std.proofs.Common.{◌≡◌, ℕ, zero, suc, ◌+◌, ◌-◌, ◌*◌, ◌<◌, ◌≤◌, ◌⊎◌, inl, inr, List, [], ◌∷◌, ◌++◌, append_assoc, length, drop, slice_get, Option, Some, None, refl, sym, subst, ap, ◌∙◌, arith}
use Rattle.std.specs.Prelude.{◌≢◌, MatchOption}
use Rattle.outside.specs.declared.question.Answer.{Answer}
use Rattle.outside.specs.declared.question.Question.{Question}
use Rattle.http_resp.specs.declared.response.Response.{Response}
use Rattle.sched_core.specs.Allowed.{Allowed as AllowedSchedule}
use Rattle.sched_core.specs.Entries.{State as ScheduleState}
use Rattle.sched_core.specs.Steps.{ScheduleSteps}
use Rattle.sched_core.specs.declared.call.DueScript.{DueScript}
use Rattle.sched_core.specs.declared.call.SchedCall.TheVariants as calls
use Rattle.sched_core.specs.declared.call.SchedReply.{SchedReply}
use Rattle.sched_core.specs.declared.call.SchedReply.TheVariants as replies
use Rattle.blueprint.specs.Objects.{Reaches}
use Rattle.blueprint.specs.Order.{reaches_self, reaches_later}
use Rattle.blueprint.specs.States.{State, Allowed}
use Rattle.server_host.specs.declared.edition.Edition.{Edition}
use Rattle.tcl_eval.specs.declared.outcome.Outcome.{Outcome}
use Rattle.ictl.specs.Falls.{IsEnd, Falls, number_of, first_number}
use Rattle.ictl.specs.Interps.{Stands}
use Rattle.ictl.specs.Laws.{OneResponse, IsSilent}
use Rattle.ictl.specs.Main.{Progress}
use Rattle.ictl.specs.Main as runs
use Rattle.ictl.specs.declared.interp.Interp.{Interp}
use Rattle.ictl.specs.declared.next.Next.{Next}
use Rattle.ictl.specs.declared.next.Next.TheVariants.{Asks, Write, Ended, NoMemory}
use Rattle.rehearse.specs.declared.listing.Listing.{Listing}
use Rattle.rehearse.specs.declared.objects.Objects.{Objects}
use Rattle.rehearse.specs.declared.scheduler.Running.{Running}
use Rattle.rehearse.specs.declared.scheduler.Scheduler as code_scheduler
use Rattle.rehearse.specs.Lines.{Line}
use Rattle.rehearse.specs.Objects.{Setting, Answers, published_now}
use Rattle.rehearse.specs.Runs.{script_progress}
use Rattle.rehearse.specs.Schedules.{Agenda, due_scripts, script_line, ScheduleStep, takes, begins, answers, ends, ScheduleRuns, last, more}
use Rattle.rehearse.specs.World.{OpenScript, Scheduler, resting, begun_script, with_script_answer}
use Rattle.rehearse.specs.Playing.{Tells, ScriptBegan, Resumed, KeepsOn, IsUnderWay, IsResting, ShowsScript, ShowsRunning, ShowsScheduler, IsScriptReady, IsSchedulerReady, with_running, running_steps, last_steps, most_steps, Turned, ScheduleStepped}
use Rattle.rehearse.proofs.Standing.{stands_asking, stands_over, runs_on, on_later, on_same, keeps_later, answers_reach}
use Rattle.rehearse.proofs.Telling.{tells_none, tells_more}

-- ---- what a run came to

-- the same, where its run came to this
abbrev pub at_next : Running → Next → Running
at_next running next = record running { run = record { next = next; interp = running.run.interp } }

-- the same, where its run went on to this
abbrev pub gone_on : Running → Next → Interp → Running
gone_on running next made = record running { run = record { next = next; interp = made } }

next_is : (running : Running) (next : Next) → running.run.next ≡ next → running ≡ at_next running next
next_is running next is = ap (at_next running) is

-- ---- what the scheduler shows

none_shown : (natives : List (List ℕ)) (code : Option Running) (seen : Option OpenScript) → code ≡ None → ShowsRunning natives code seen → seen ≡ None
none_shown natives None None is h = refl
none_shown natives None (Some script) is h = absurd h
none_shown natives (Some running) seen is h = absurd (cc)

shows_none : (natives : List (List ℕ)) (code : Option Running) → code ≡ None → ShowsRunning natives code None
shows_none natives None is = tt
shows_none natives (Some running) is = absurd (cc)

ready_none : (natives : List (List ℕ)) (now : State) (code : Option Running) → code ≡ None → MatchOption code (Unit {0}) (IsScriptReady natives now)
ready_none natives now None is = tt
ready_none natives now (Some running) is = absurd (cc)

-- a script under way is one of the world
some_shown : (natives : List (List ℕ)) (running : Running) (seen : Option OpenScript) → ShowsRunning natives (Some running) seen
    → (script : OpenScript) × (seen ≡ Some script) × ShowsScript natives running script
some_shown natives running None h = absurd h
some_shown natives running (Some script) h = (script, refl, h)

drop_all : {A : Type 0} (n : ℕ) (xs : List A) → length xs ≤ n → drop n xs ≡ []
drop_all zero [] le = refl
drop_all zero (x ∷ xs) le = absurd (omega (arith, le))
drop_all (suc n) [] le = refl
drop_all (suc n) (x ∷ xs) le = drop_all n xs (omega (arith, le))

pub drop_one : {A : Type 0} (n : ℕ) (xs : List A) (x : A) → slice_get xs n ≡ Some x → drop n xs ≡ x ∷ drop (suc n) xs
drop_one zero [] x e = absurd (cc)
drop_one zero (y ∷ xs) x e = let same : y ≡ x = cc in ap (λ (z : _). z ∷ xs) same
drop_one (suc n) [] x e = absurd (cc)
drop_one (suc n) (y ∷ xs) x e = drop_one n xs x e

pub within_get : {A : Type 0} (n : ℕ) (xs : List A) (x : A) → slice_get xs n ≡ Some x → n < length xs
within_get zero [] x e = absurd (cc)
within_get zero (y ∷ xs) x e = omega arith
within_get (suc n) [] x e = absurd (cc)
within_get (suc n) (y ∷ xs) x e = omega (arith, within_get n xs x e)

pub past_get : {A : Type 0} (n : ℕ) (xs : List A) → slice_get xs n ≡ None → length xs ≤ n
past_get zero [] e = omega arith
past_get zero (y ∷ xs) e = absurd (cc)
past_get (suc n) [] e = omega arith
past_get (suc n) (y ∷ xs) e = omega (arith, past_get n xs e)

-- a scheduler, by its parts
scheduler_is : (seen : Scheduler) (waiting : List DueScript) (running : Option OpenScript) → seen.waiting ≡ waiting → seen.running ≡ running → seen ≡ record { waiting = waiting; running = running }
scheduler_is seen waiting running e f =
    ap (λ (w : List DueScript). let s : Scheduler = record { waiting = w; running = seen.running } in s) e
    ∙ ap (λ (r : Option OpenScript). let s : Scheduler = record { waiting = waiting; running = r } in s) f

pub rests_shown : (natives : List (List ℕ)) (code : code_scheduler.Scheduler) (seen : Scheduler) → IsResting code → ShowsScheduler natives code seen → seen ≡ resting
rests_shown natives code seen rest shows =
    scheduler_is seen [] None (shows.waiting ∙ drop_all code.begun code.due rest.1) (none_shown natives code.running seen.running rest.0 shows.running)

-- what rests in the world rests in the program
no_script : (natives : List (List ℕ)) (code : Option Running) (seen : Option OpenScript) → seen ≡ None → ShowsRunning natives code seen → code ≡ None
no_script natives None seen is h = refl
no_script natives (Some running) None is h = absurd h
no_script natives (Some running) (Some script) is h = absurd (cc)

none_left : {A : Type 0} (n : ℕ) (xs : List A) → drop n xs ≡ [] → length xs ≤ n
none_left zero [] e = omega arith
none_left zero (x ∷ xs) e = absurd (cc)
none_left (suc n) [] e = omega arith
none_left (suc n) (x ∷ xs) e = omega (arith, none_left n xs e)

pub busy_shown : (natives : List (List ℕ)) (code : code_scheduler.Scheduler) (seen : Scheduler) → ¬ (IsResting code) → ShowsScheduler natives code seen → ¬ (seen ≡ resting)
busy_shown natives code seen busy shows e =
    busy (
      no_script natives code.running seen.running (ap (λ (s : Scheduler). s.running) e) shows.running,
      none_left code.begun code.due (sym shows.waiting ∙ ap (λ (s : Scheduler). s.waiting) e),
    )

-- ---- due scripts are taken

pub takes_stepped : (setting : Setting) (code after : code_scheduler.Scheduler) (objects objects_after : Objects) (listing : Listing) (reply : SchedReply) (schedule : ScheduleState)
    → IsResting code → IsSchedulerReady setting.natives objects.blueprint code
    → ScheduleSteps objects.schedule (calls.Due setting.moment) reply schedule → AllowedSchedule schedule → reply ≢ replies.NoMemory
    → objects_after ≡ record objects { schedule = schedule }
    → after.due ≡ due_scripts reply → after.begun ≡ 0 → after.running ≡ None → after.keeper ≡ code.keeper
    → ScheduleStepped setting code objects listing after objects_after listing
takes_stepped setting code after objects objects_after listing reply schedule rest ready steps allowed memory objects_are due begun running keeper =
    let same : objects_after.blueprint ≡ objects.blueprint = ap (λ (o : Objects). o.blueprint) objects_are in (
      record {
        went = λ before shows. (
          [],
          record { waiting = due_scripts reply; running = None },
          takes (rests_shown setting.natives code before rest shows)
              (record {
                reply = reply;
                schedule = schedule;
                steps = steps;
                allowed = allowed;
                memory = memory;
                after_is = ap (λ (o : Objects). let a : Agenda = record { scheduler = record { waiting = due_scripts reply; running = None }; objects = o } in a) objects_are;
              })
              refl,
          record {
            waiting = sym due ∙ ap (λ (n : ℕ). drop n after.due) (sym begun);
            running = shows_none setting.natives after.running running;
          },
          tells_none listing,
        );
        ready = (
          subst (λ (k : _). KeepsOn setting.natives objects_after.blueprint k) (sym keeper)
              (subst (λ (s : State). KeepsOn setting.natives s code.keeper) (sym same) ready.0),
          ready_none setting.natives objects_after.blueprint after.running running,
        );
        reaches = subst (λ (s : State). Reaches objects.blueprint s) (sym same) (reaches_self objects.blueprint);
      },
      λ busy. absurd (busy rest),
    )

-- ---- a script begins

pub begun_shows : (names : List (List ℕ)) (setting : Setting) (objects : Objects) (due : DueScript) (running : Running) (made : Interp)
    → made.blueprint.value ≡ published_now objects → ScriptBegan names due.script setting.moment running.run.next running.run.interp made
    → running.moment ≡ setting.moment → running.id ≡ due.id
    → ShowsScript names running (begun_script setting objects due)
begun_shows names setting objects due running made is begun moment id = record {
  id = sym id;
  blueprint = sym (begun.blueprint ∙ is);
  moment = sym moment;
  runs = (begun.runs.0, subst (λ (b : Edition). Stands names (runs.Script names b due.script setting.moment) running.run.next begun.runs.0 running.run.interp []) is begun.runs.1);
}

pub begins_stepped : (setting : Setting) (code after : code_scheduler.Scheduler) (objects : Objects) (listing : Listing) (due : DueScript) (running : Running)
    → code.running ≡ None → slice_get code.due code.begun ≡ Some due
    → ShowsScript setting.natives running (begun_script setting objects due)
    → IsUnderWay setting.natives objects.blueprint running.run.interp → Falls running.run.next running.run.interp first_number
    → KeepsOn setting.natives objects.blueprint after.keeper
    → after.due ≡ code.due → after.begun ≡ code.begun + 1 → after.running ≡ Some running
    → ScheduleStepped setting code objects listing after objects listing
begins_stepped setting code after objects listing due running none found shows_it way falls keeps same begun under =
    let rest : code.due ≡ code.due = refl in
    let front : drop code.begun code.due ≡ due ∷ drop (suc code.begun) code.due = drop_one code.begun code.due due found in
    let within : code.begun < length code.due = within_get code.begun code.due due found in
    let left : drop after.begun after.due ≡ drop (suc code.begun) code.due =
    ap (λ (n : ℕ). drop n after.due) (begun ∙ (let e : code.begun + 1 ≡ suc code.begun = omega arith in e)) ∙ ap (λ (l : List DueScript). drop (suc code.begun) l) same in
    let len : length after.due ≡ length code.due = ap length same in (
      record {
        went = λ before shows. (
          [],
          record { waiting = drop (suc code.begun) code.due; running = Some (begun_script setting objects due) },
          begins due (drop (suc code.begun) code.due)
              (scheduler_is before (due ∷ drop (suc code.begun) code.due) None (shows.waiting ∙ front) (none_shown setting.natives code.running before.running none shows.running))
              refl refl,
          record {
            waiting = sym left;
            running = subst (λ (r : Option Running). ShowsRunning setting.natives r (Some (begun_script setting objects due))) (sym under) shows_it;
          },
          tells_none listing,
        );
        ready = (
          keeps,
          subst (λ (r : Option Running). MatchOption r (Unit {0}) (IsScriptReady setting.natives objects.blueprint)) (sym under)
              (way, (begun_script setting objects due, shows_it), few_steps running.run.next running.run.interp falls),
        );
        reaches = reaches_self objects.blueprint;
      },
      λ busy. inl (omega (arith, begun, within, len)),
    )
  where
    few_steps : (next : Next) (interp : Interp) → Falls next interp first_number → last_steps next interp ≤ most_steps
    few_steps (Asks question) interp falls = omega (arith, falls)
    few_steps (Write reply) interp falls = omega arith
    few_steps (Ended outcome) interp falls = omega arith
    few_steps NoMemory interp falls = omega arith

-- ---- a question is answered

fewer_last : (before after : Interp) (next : Next) → Falls next after (number_of before) → last_steps next after < number_of before + 2
fewer_last before after (Asks question) falls = omega (arith, falls)
fewer_last before after (Write reply) falls = omega arith
fewer_last before after (Ended outcome) falls = omega arith
fewer_last before after NoMemory falls = omega arith

shows_on : (natives : List (List ℕ)) (running : Running) (question : Question) (answer : Answer) (next : Next) (made : Interp) (script : OpenScript)
    → Resumed natives answer next made running.run.interp
    → ShowsScript natives (at_next running (Asks question)) script → ShowsScript natives (gone_on running next made) (with_script_answer script answer)
shows_on natives running question answer next made script on s = record {
  id = s.id;
  blueprint = s.blueprint ∙ sym on.blueprint;
  moment = s.moment;
  runs = runs_on natives (script_progress natives script) question answer next on.runs.0 made running.run.interp script.answers on.runs.1 s.runs;
}

pub answers_stepped : (setting : Setting) (code : code_scheduler.Scheduler) (objects objects_after : Objects) (listing : Listing)
    (running : Running) (question : Question) (answer : Answer) (next : Next) (made : Interp)
    → Allowed objects.blueprint
    → IsSchedulerReady setting.natives objects.blueprint (with_running code (Some (at_next running (Asks question))))
    → Answers setting running.moment question objects answer objects_after
    → Resumed setting.natives answer next made running.run.interp
    → ScheduleStepped setting (with_running code (Some (at_next running (Asks question)))) objects listing
    (with_running code (Some (gone_on running next made))) objects_after listing
answers_stepped setting code objects objects_after listing running question answer next made ok ready given on =
    let reaches : Reaches objects.blueprint objects_after.blueprint = answers_reach setting running.moment question objects objects_after answer ok given in
    let way : IsUnderWay setting.natives objects.blueprint running.run.interp = ready.1.0 in
    let fewer : last_steps next made < number_of running.run.interp + 2 = fewer_last running.run.interp made next on.falls in
    let few : last_steps (Asks question) running.run.interp ≤ most_steps = ready.1.2 in (
      record {
        went = λ before shows.
            let x : (script : OpenScript) × (before.running ≡ Some script) × ShowsScript setting.natives (at_next running (Asks question)) script =
            some_shown setting.natives (at_next running (Asks question)) before.running shows.running in
            let script : OpenScript = x.0 in
            let s : ShowsScript setting.natives (at_next running (Asks question)) script = x.2 in (
              [],
              record { waiting = before.waiting; running = Some (with_script_answer script answer) },
              answers script question answer objects_after x.1
                  (stands_asking setting.natives (script_progress setting.natives script) question running.run.interp script.answers s.runs)
                  (subst (λ (m : ℕ). Answers setting m question objects answer objects_after) (sym s.moment) given)
                  refl refl,
              record { waiting = shows.waiting; running = shows_on setting.natives running question answer next made script on s },
              tells_none listing,
            );
        ready = (
          keeps_later setting.natives objects.blueprint objects_after.blueprint code.keeper reaches ready.0,
          (
            record {
              sound = on.sound way.sound;
              on =
                  on_same setting.natives objects_after.blueprint made running.run.interp on.blueprint
                  (on_later setting.natives objects.blueprint objects_after.blueprint running.run.interp reaches way.on);
            },
            (with_script_answer ready.1.1.0 answer, shows_on setting.natives running question answer next made ready.1.1.0 on ready.1.1.1),
            omega (arith, fewer, few),
          ),
        );
        reaches = reaches;
      },
      λ busy. inr (refl, fewer),
    )

-- the same of a script whose run stands at this question
pub answers_from : (setting : Setting) (code : code_scheduler.Scheduler) (objects objects_after : Objects) (listing : Listing)
    (running : Running) (question : Question) (answer : Answer) (next : Next) (made : Interp)
    → running.run.next ≡ Asks question → Allowed objects.blueprint
    → IsSchedulerReady setting.natives objects.blueprint (with_running code (Some running))
    → Answers setting running.moment question objects answer objects_after
    → Resumed setting.natives answer next made running.run.interp
    → ScheduleStepped setting (with_running code (Some running)) objects listing
    (with_running code (Some (gone_on running next made))) objects_after listing
answers_from setting code objects objects_after listing running question answer next made at ok ready given on =
    let same = next_is running (Asks question) at in
    subst
    (λ (r : Running). ScheduleStepped setting (with_running code (Some r)) objects listing (with_running code (Some (gone_on running next made))) objects_after listing)
    (sym same)
    (answers_stepped setting code objects objects_after listing running question answer next made ok
    (subst (λ (r : Running). IsSchedulerReady setting.natives objects.blueprint (with_running code (Some r))) same ready) given on)

-- ---- a script ends

pub ends_stepped : (setting : Setting) (code after : code_scheduler.Scheduler) (objects : Objects) (listing listed : Listing) (running : Running) (outcome : Outcome) (epoch : ℕ)
    → IsSchedulerReady setting.natives objects.blueprint (with_running code (Some (at_next running (Ended outcome))))
    → IsEnd outcome → epoch ≡ running.run.interp.blueprint.value.epoch
    → Tells listing (script_line running.id epoch outcome ∷ []) listed
    → KeepsOn setting.natives objects.blueprint after.keeper
    → after.due ≡ code.due → after.begun ≡ code.begun → after.running ≡ None
    → ScheduleStepped setting (with_running code (Some (at_next running (Ended outcome)))) objects listing after objects listed
ends_stepped setting code after objects listing listed running outcome epoch ready is_end epoch_is tells keeps due begun none =
    let left : drop after.begun after.due ≡ drop code.begun code.due =
    ap (λ (n : ℕ). drop n after.due) begun ∙ ap (λ (l : List DueScript). drop code.begun l) due in
    let len : length after.due ≡ length code.due = ap length due in
    let rest : running_steps after.running ≡ 0 = ap running_steps none in (
      record {
        went = λ before shows.
            let x : (script : OpenScript) × (before.running ≡ Some script) × ShowsScript setting.natives (at_next running (Ended outcome)) script =
            some_shown setting.natives (at_next running (Ended outcome)) before.running shows.running in
            let script : OpenScript = x.0 in
            let s : ShowsScript setting.natives (at_next running (Ended outcome)) script = x.2 in
            let epoch_same : epoch ≡ script.blueprint.epoch = epoch_is ∙ ap (λ (b : Edition). b.epoch) (sym s.blueprint) in
            let line : script_line running.id epoch outcome ≡ script_line script.id script.blueprint.epoch outcome =
            ap (λ (i : ℕ). script_line i epoch outcome) (sym s.id) ∙ ap (λ (e : ℕ). script_line script.id e outcome) epoch_same in (
              script_line running.id epoch outcome ∷ [],
              record { waiting = before.waiting; running = None },
              ends script outcome x.1
                  (stands_over setting.natives (script_progress setting.natives script) outcome running.run.interp script.answers s.runs)
                  is_end
                  (ap (λ (l : Line). l ∷ []) line)
                  refl,
              record { waiting = shows.waiting ∙ sym left; running = shows_none setting.natives after.running none },
              tells,
            );
        ready = (keeps, ready_none setting.natives objects.blueprint after.running none);
        reaches = reaches_self objects.blueprint;
      },
      λ busy. inr (omega (arith, begun, len), omega (arith, rest)),
    )

-- the same of a script whose run has ended so
pub ends_from : (setting : Setting) (code after : code_scheduler.Scheduler) (objects : Objects) (listing listed : Listing) (running : Running) (outcome : Outcome) (epoch : ℕ)
    → running.run.next ≡ Ended outcome
    → IsSchedulerReady setting.natives objects.blueprint (with_running code (Some running))
    → IsEnd outcome → epoch ≡ running.run.interp.blueprint.value.epoch
    → Tells listing (script_line running.id epoch outcome ∷ []) listed
    → KeepsOn setting.natives objects.blueprint after.keeper
    → after.due ≡ code.due → after.begun ≡ code.begun → after.running ≡ None
    → ScheduleStepped setting (with_running code (Some running)) objects listing after objects listed
ends_from setting code after objects listing listed running outcome epoch at ready is_end epoch_is tells keeps due begun none =
    let same = next_is running (Ended outcome) at in
    subst (λ (r : Running). ScheduleStepped setting (with_running code (Some r)) objects listing after objects listed) (sym same)
    (ends_stepped setting code after objects listing listed running outcome epoch
    (subst (λ (r : Running). IsSchedulerReady setting.natives objects.blueprint (with_running code (Some r))) same ready) is_end epoch_is tells keeps due begun none)

-- a script comes to no response
pub writes_nothing : OneResponse → (natives : List (List ℕ)) (now : State) (running : Running) (reply : Response) → running.run.next ≡ Write reply → IsScriptReady natives now running → ⊥
writes_nothing one natives now running reply at ready =
    let script : OpenScript = ready.1.0 in
    let s : ShowsScript natives (at_next running (Write reply)) script = subst (λ (r : Running). ShowsScript natives r script) (next_is running (Write reply) at) ready.1.1 in
    subst IsSilent (s.runs.1 []) (one.script natives script.blueprint script.script script.moment (script.answers ++ []))

-- ---- step after step

-- Steps, at least one, of which none was taken by a scheduler that rested by an earlier one.
pub data Chain (setting : Setting) (start : Agenda) : List Line → Agenda → Type 0 where
  single : {lines : List Line} {after : Agenda} → ScheduleStep setting start lines after → Chain setting start lines after
  further : {lines others : List Line} {between after : Agenda} → Chain setting start lines between → ¬ (between.scheduler ≡ resting)
      → ScheduleStep setting between others after → Chain setting start (lines ++ others) after

chain_runs : {setting : Setting} {start between after : Agenda} {lines : List Line} (others : List Line) → Chain setting start lines between → ¬ (between.scheduler ≡ resting)
    → ScheduleRuns setting between others after → ScheduleRuns setting start (lines ++ others) after
chain_runs {lines = lines} others (single step) busy rest = more lines others step busy rest
chain_runs {setting = setting} {start = start} {after = after} others (further {lines = first} {others = second} chain busy step) still rest =
    subst (λ (l : List Line). ScheduleRuns setting start l after) (sym (append_assoc first second others))
    (chain_runs (second ++ others) chain busy (more second others step still rest))

chain_ends : {setting : Setting} {start after : Agenda} {lines : List Line} → Chain setting start lines after → after.scheduler ≡ resting → ScheduleRuns setting start lines after
chain_ends (single step) is = last step is
chain_ends (further {others = second} chain busy step) is = chain_runs second chain busy (last step is)

-- steps so far
abbrev pub Chained : Setting → code_scheduler.Scheduler → Objects → Listing → code_scheduler.Scheduler → Objects → Listing → Type 0
Chained setting code objects listing code_after objects_after listed = Turned Chain setting code objects listing code_after objects_after listed

pub chain_begins : (setting : Setting) (start code : code_scheduler.Scheduler) (objects objects_after : Objects) (listing listed : Listing)
    → ScheduleStepped setting start objects listing code objects_after listed → Chained setting start objects listing code objects_after listed
chain_begins setting start code objects objects_after listing listed h = record {
  went = λ before shows.
      let w = h.0.went before shows in
      (w.0, w.1, single w.2, w.3, w.4);
  ready = h.0.ready;
  reaches = h.0.reaches;
}

pub chain_more : (setting : Setting) (start code after : code_scheduler.Scheduler) (objects between objects_after : Objects) (listing so_far listed : Listing)
    → ¬ (IsResting code)
    → Chained setting start objects listing code between so_far → ScheduleStepped setting code between so_far after objects_after listed
    → Chained setting start objects listing after objects_after listed
chain_more setting start code after objects between objects_after listing so_far listed busy chain step = record {
  went = λ before shows.
      let c = chain.went before shows in
      let s = step.0.went c.1 c.3 in (
        c.0 ++ s.0,
        s.1,
        further c.2 (busy_shown setting.natives code c.1 busy c.3) s.2,
        s.3,
        tells_more listing so_far listed c.0 s.0 c.4 s.4,
      );
  ready = step.0.ready;
  reaches = reaches_later objects.blueprint between.blueprint objects_after.blueprint chain.reaches step.0.reaches;
}

pub chain_over : (setting : Setting) (start code : code_scheduler.Scheduler) (objects objects_after : Objects) (listing listed : Listing)
    → IsResting code → Chained setting start objects listing code objects_after listed
    → Turned ScheduleRuns setting start objects listing code objects_after listed
chain_over setting start code objects objects_after listing listed is chain = record {
  went = λ before shows.
      let c = chain.went before shows in
      (c.0, c.1, chain_ends c.2 (rests_shown setting.natives code c.1 is c.3), c.3, c.4);
  ready = chain.ready;
  reaches = chain.reaches;
}

-- one number that falls with each step
abbrev pub steps_left : code_scheduler.Scheduler → ℕ
steps_left code = (length code.due - code.begun) * (most_steps + 1) + running_steps code.running

few_running : (natives : List (List ℕ)) (now : State) (running : Option Running) → MatchOption running (Unit {0}) (IsScriptReady natives now) → running_steps running ≤ most_steps
few_running natives now None h = omega arith
few_running natives now (Some running) h = h.2

falls_by : (a b s t : ℕ) → t ≤ most_steps → (a < b) ⊎ ((a ≡ b) × (t < s)) → a * (most_steps + 1) + t < b * (most_steps + 1) + s
falls_by a b s t few (inl less) = omega (arith, few, less)
falls_by a b s t few (inr same) = omega (arith, same.0, same.1)

pub steps_fall : (setting : Setting) (code after : code_scheduler.Scheduler) (objects objects_after : Objects) (listing listed : Listing) → ¬ (IsResting code)
    → ScheduleStepped setting code objects listing after objects_after listed → steps_left after < steps_left code
steps_fall setting code after objects objects_after listing listed busy h =
    falls_by (length after.due - after.begun) (length code.due - code.begun) (running_steps code.running) (running_steps after.running)
    (few_running setting.natives objects_after.blueprint after.running h.0.ready.1) (h.1 busy)
