-- Where interpreters stand, and what stays of that while the blueprint goes on.
use Rattle.std.proofs.Common.{◌≡◌, ℕ, ◌+◌, inl, inr, List, [], ◌∷◌, ◌++◌, append-nil, Option, Some, None, sym, subst, ap, ◌∙◌}
use Rattle.outside.specs.declared.question.Answer.{Answer}
use Rattle.outside.specs.declared.question.Question.{Question}
use Rattle.outside.specs.declared.question.Service.{Service}
use Rattle.outside.specs.declared.question.Service.TheVariants.{Page, Nsv, Schedule, Publish, Save, Inner}
use Rattle.outside.specs.Paging.{PageMap}
use Rattle.http_resp.specs.declared.response.Response.{Response}
use Rattle.blueprint.specs.Objects.{Reaches}
use Rattle.blueprint.specs.Order.{reaches_self, reaches_later, step_reaches}
use Rattle.blueprint.specs.States.{State, Allowed}
use Rattle.blueprint.specs.declared.reply.BlueCall.{BlueCall}
use Rattle.blueprint.specs.declared.reply.BlueReply.TheVariants as blue_replies
use Rattle.tcl_eval.specs.declared.outcome.Outcome.{Outcome}
use Rattle.ictl.specs.Interps.{UnlessNoMemory, StandsOn}
use Rattle.ictl.specs.Main.{Progress}
use Rattle.ictl.specs.declared.interp.Interp.{Interp}
use Rattle.ictl.specs.declared.next.Next.{Next}
use Rattle.ictl.specs.declared.next.Next.TheVariants.{Asks, Write, Ended, NoMemory}
use Rattle.serving.specs.declared.publishing.Asked.{Asked}
use Rattle.serving.specs.declared.publishing.Asked.TheVariants.{Puts, Refused}
use Rattle.serving.specs.Calls.{publish_call, save_call}
use Rattle.rehearse.specs.declared.keeper.Keeper.{Keeper}
use Rattle.rehearse.specs.declared.objects.Objects.{Objects}
use Rattle.rehearse.specs.declared.scheduler.Running.{Running}
use Rattle.rehearse.specs.declared.scheduler.Scheduler as code_scheduler
use Rattle.rehearse.specs.declared.worker.Task.{Task}
use Rattle.rehearse.specs.declared.worker.Task.TheVariants as tasks
use Rattle.rehearse.specs.declared.worker.Worker as code_worker
use Rattle.rehearse.specs.Objects.{Setting, Answers, AnswersBy, PublishAnswers, BlueprintAnswers}
use Rattle.rehearse.specs.Runs.{asking, ready, over, stand_of}
use Rattle.rehearse.specs.Playing.{IsOn, KeepsOn, IsUnderWay, RunsFor, IsTaskReady, IsReady, IsSchedulerReady, AreReady}
use Rattle.rehearse.proofs.Asking.{questions_are_asked}

-- ---- what is answered

pub unless : {A : Type 0} (next : Next) → A → UnlessNoMemory next A
unless (Asks question) a = a
unless (Write response) a = a
unless (Ended outcome) a = a
unless NoMemory a = tt

-- with what was given
at_given : (run : List Answer → Progress) (given : List Answer) → stand_of (run given) ≡ stand_of (run (given ++ []))
at_given run given = ap (λ (g : List Answer). stand_of (run g)) (sym (append-nil given))

pub stands_asking : (natives : List (List ℕ)) (run : List Answer → Progress) (question : Question) (interp : Interp) (given : List Answer)
    → RunsFor natives run (Asks question) interp given → stand_of (run given) ≡ asking question
stands_asking natives run question interp given h =
    let a = questions_are_asked natives question interp h.0 in
    at_given run given ∙ ap stand_of (h.1 [] ∙ a.2)

pub stands_ready : (natives : List (List ℕ)) (run : List Answer → Progress) (response : Response) (interp : Interp) (given : List Answer)
    → RunsFor natives run (Write response) interp given → stand_of (run given) ≡ ready response
stands_ready natives run response interp given h = at_given run given ∙ ap stand_of (h.1 [])

pub stands_over : (natives : List (List ℕ)) (run : List Answer → Progress) (outcome : Outcome) (interp : Interp) (given : List Answer)
    → RunsFor natives run (Ended outcome) interp given → stand_of (run given) ≡ over outcome
stands_over natives run outcome interp given h = at_given run given ∙ ap stand_of (h.1 [])

-- a question was answered
pub runs_on : (natives : List (List ℕ)) (run : List Answer → Progress) (question : Question) (answer : Answer) (next : Next) (took : ℕ) (new old : Interp) (given : List Answer)
    → StandsOn natives next took new old answer → RunsFor natives run (Asks question) old given → RunsFor natives run next new (given ++ answer ∷ [])
runs_on natives run question answer next took new old given on h = (h.0 + took, on question h.0 run given h.1)

-- the same run, told otherwise
pub runs_same : (natives : List (List ℕ)) (run other : List Answer → Progress) (next : Next) (interp : Interp) (given : List Answer)
    → ((g : List Answer) → other g ≡ run g) → RunsFor natives run next interp given → RunsFor natives other next interp given
runs_same natives run other (Asks question) interp given e h = (h.0, λ further. e (given ++ further) ∙ h.1 further)
runs_same natives run other (Write response) interp given e h = (h.0, λ further. e (given ++ further) ∙ h.1 further)
runs_same natives run other (Ended outcome) interp given e h = (h.0, λ further. e (given ++ further) ∙ h.1 further)
runs_same natives run other NoMemory interp given e h = (h.0, tt)

-- ---- the blueprint goes on

pub names_later : (now later : State) → Reaches now later → later.natives ≡ now.natives
names_later now later (inl same) = ap (λ (s : State). s.natives) (sym same)
names_later now later (inr h) = sym h.0

pub on_later : (natives : List (List ℕ)) (now later : State) (interp : Interp) → Reaches now later → IsOn natives now interp → IsOn natives later interp
on_later natives now later interp reaches h = record {
  earlier = h.earlier;
  allowed = h.allowed;
  names = h.names;
  reaches = reaches_later h.earlier now later h.reaches reaches;
  blueprint = h.blueprint;
}

-- another interpreter on the same blueprint
pub on_same : (natives : List (List ℕ)) (now : State) (new old : Interp) → new.blueprint.value ≡ old.blueprint.value → IsOn natives now old → IsOn natives now new
on_same natives now new old same h = record {
  earlier = h.earlier;
  allowed = h.allowed;
  names = h.names;
  reaches = h.reaches;
  blueprint = same ∙ h.blueprint;
}

keeps_by : (natives : List (List ℕ)) (now later : State) (kept : Option Interp) → Reaches now later
    → KeepsOn natives now (record { interp = kept }) → KeepsOn natives later (record { interp = kept })
keeps_by natives now later None reaches h = (names_later now later reaches ∙ h.0, tt)
keeps_by natives now later (Some interp) reaches h =
    (names_later now later reaches ∙ h.0, (h.1.0, on_later natives now later interp reaches h.1.1))

pub keeps_later : (natives : List (List ℕ)) (now later : State) (keeper : Keeper) → Reaches now later → KeepsOn natives now keeper → KeepsOn natives later keeper
keeps_later natives now later keeper reaches h = keeps_by natives now later keeper.interp reaches h

pub under_way_later : (natives : List (List ℕ)) (now later : State) (interp : Interp) → Reaches now later
    → IsUnderWay natives now interp → IsUnderWay natives later interp
under_way_later natives now later interp reaches h = record {
  sound = h.sound;
  on = on_later natives now later interp reaches h.on;
}

task_later : (natives : List (List ℕ)) (now later : State) (task : Task) → Reaches now later → IsTaskReady natives now task → IsTaskReady natives later task
task_later natives now later tasks.Idle reaches h = tt
task_later natives now later (tasks.Between connection) reaches h = h
task_later natives now later (tasks.Serving connection serving) reaches h =
    (h.0, under_way_later natives now later serving.run.interp reaches h.1, h.2, h.3)

pub ready_later : (natives : List (List ℕ)) (now later : State) (worker : code_worker.Worker) → Reaches now later → IsReady natives now worker → IsReady natives later worker
ready_later natives now later worker reaches h =
    (keeps_later natives now later worker.keeper reaches h.0, task_later natives now later worker.task reaches h.1)

pub all_later : (natives : List (List ℕ)) (now later : State) (workers : List code_worker.Worker) → Reaches now later → AreReady natives now workers → AreReady natives later workers
all_later natives now later [] reaches h = tt
all_later natives now later (x ∷ xs) reaches h = (ready_later natives now later x reaches h.0, all_later natives now later xs reaches h.1)

running_later : (natives : List (List ℕ)) (now later : State) (keeper : Keeper) (running : Option Running) (scheduler : code_scheduler.Scheduler) → Reaches now later
    → IsSchedulerReady natives now (record scheduler { keeper = keeper; running = running }) → IsSchedulerReady natives later (record scheduler { keeper = keeper; running = running })
running_later natives now later keeper None scheduler reaches h = (keeps_later natives now later keeper reaches h.0, tt)
running_later natives now later keeper (Some running) scheduler reaches h =
    (keeps_later natives now later keeper reaches h.0, (under_way_later natives now later running.run.interp reaches h.1.0, h.1.1, h.1.2))

pub scheduler_later : (natives : List (List ℕ)) (now later : State) (scheduler : code_scheduler.Scheduler) → Reaches now later
    → IsSchedulerReady natives now scheduler → IsSchedulerReady natives later scheduler
scheduler_later natives now later scheduler reaches h = running_later natives now later scheduler.keeper scheduler.running scheduler reaches h

-- ---- questions

blueprint_reaches : (call : BlueCall) (before after : Objects) (answer : Answer) → Allowed before.blueprint → BlueprintAnswers call before answer after → Reaches before.blueprint after.blueprint
blueprint_reaches call before after answer ok h =
    subst (λ (o : Objects). Reaches before.blueprint o.blueprint) (sym h.after_is)
    (step_reaches before.blueprint call (blue_replies.Published h.reply) h.blueprint ok h.steps)

same_reaches : (before after : Objects) → after ≡ before → Reaches before.blueprint after.blueprint
same_reaches before after same = subst (λ (o : Objects). Reaches before.blueprint o.blueprint) (sym same) (reaches_self before.blueprint)

publish_reaches : (asked : Asked) (before after : Objects) (answer : Answer) → Allowed before.blueprint → PublishAnswers asked before answer after → Reaches before.blueprint after.blueprint
publish_reaches (Puts call) before after answer ok h = blueprint_reaches call before after answer ok h
publish_reaches (Refused refusal) before after answer ok h = same_reaches before after h.1

by_reaches : (service : Service) (words : List (List ℕ)) (pages : PageMap) (moment : ℕ) (before after : Objects) (answer : Answer) → Allowed before.blueprint
    → AnswersBy service words pages moment before answer after → Reaches before.blueprint after.blueprint
by_reaches Page words pages moment before after answer ok h = same_reaches before after h.1
by_reaches Nsv words pages moment before after answer ok h =
    subst (λ (o : Objects). Reaches before.blueprint o.blueprint) (sym h.1) (reaches_self before.blueprint)
by_reaches Schedule words pages moment before after answer ok h =
    subst (λ (o : Objects). Reaches before.blueprint o.blueprint) (sym h.after_is) (reaches_self before.blueprint)
by_reaches Publish words pages moment before after answer ok h = publish_reaches (publish_call words) before after answer ok h
by_reaches Save words pages moment before after answer ok h = blueprint_reaches (save_call words) before after answer ok h
by_reaches Inner words pages moment before after answer ok h = same_reaches before after h.1

-- an answer leaves a blueprint that the one before can become
pub answers_reach : (setting : Setting) (moment : ℕ) (question : Question) (before after : Objects) (answer : Answer) → Allowed before.blueprint
    → Answers setting moment question before answer after → Reaches before.blueprint after.blueprint
answers_reach setting moment question before after answer ok h = by_reaches question.service question.words setting.pages moment before after answer ok h
