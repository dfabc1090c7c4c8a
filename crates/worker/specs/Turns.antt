-- Questions, and the turns on the cells and the looks at pages that answer them.
use Rattle.std.specs.Prelude.{◌≡◌, ◌≢◌, ℕ, ◌==◌, List, [], ◌∷◌, ◌++◌, if◌then◌else◌, Option, None, Some}
use Rattle.txt_core.specs.Names.{Bytes, Words, Moment}
use Rattle.outside.specs.declared.question.Answer.{Answer}
use Rattle.outside.specs.declared.question.Answer.TheVariants as answers
use Rattle.outside.specs.declared.question.Question.{Question}
use Rattle.outside.specs.declared.question.Service.{Service}
use Rattle.outside.specs.declared.question.Service.TheVariants as service
use Rattle.outside.specs.declared.pages.PageAnswer.{PageAnswer}
use Rattle.outside.specs.declared.pages.PageAnswer.TheVariants as pages
use Rattle.turn_cell.specs.declared.view.Entry.{Entry}
use Rattle.turn_cell.specs.Cells.{pass_view}
use Rattle.turn_cell.specs.Chains.{TakesTurns}
use Rattle.blueprint.specs.States as blueprints
use Rattle.blueprint.specs.Objects as blueprints_steps
use Rattle.blueprint.specs.declared.reply.BlueCall.{BlueCall}
use Rattle.blueprint.specs.declared.reply.BlueCall.TheVariants as blue_call
use Rattle.blueprint.specs.declared.reply.BlueReply.{BlueReply}
use Rattle.blueprint.specs.declared.reply.BlueReply.TheVariants as blue_reply
use Rattle.blueprint.specs.declared.reply.Published.TheVariants as published
use Rattle.blueprint.specs.declared.reply.Look.TheVariants as looks
use Rattle.sched_core.specs.Allowed as schedule_states
use Rattle.sched_core.specs.Steps.{ScheduleSteps}
use Rattle.sched_core.specs.declared.call.SchedReply.{SchedReply}
use Rattle.sched_core.specs.declared.call.SchedReply.TheVariants as schedule
use Rattle.nsv_bucket.specs.declared.reply.NsvReply.{NsvReply}
use Rattle.nsv_bucket.specs.declared.reply.NsvReply.TheVariants as arrays
use Rattle.nsv_bucket.specs.Steps.{ArraySteps}
use Rattle.nsv_bucket.specs.Buckets.{bucket_asked}
use Rattle.nsv_shared.specs.Views.{BucketView}
use Rattle.nsv_shared.specs.declared.nsv.NsvPass.{NsvPass}
use Rattle.shared_state.specs.declared.shared.Passes.{Passes}
use Rattle.shared_state.specs.Views.{BlueEntry, BlueView, ScheduleEntry, ScheduleView}
use Rattle.shared_state.specs.Lines.{BucketEntry}
use Rattle.serving.specs.declared.publishing.Asked.{Asked}
use Rattle.serving.specs.declared.publishing.Asked.TheVariants.{Puts, Refused}
use Rattle.serving.specs.Calls.{path_asked, inner_answer, page_answer, nsv_answer, sched_call, sched_answer, publish_call, save_call, published_answer}
use Rattle.server_host.specs.Hosts.{HostState}
use Rattle.tcl_eval.specs.State.{State}
use Rattle.ictl.specs.Main.{Progress, asks}

-- ---- turns

-- What answers a question: a turn on one of the cells, what the pages replied for a path, or a refusal at once.
pub data Turn : Type 0 where
  OnBlueprint : (e : BlueEntry) → Turn
  OnArrays : (bucket : ℕ) (e : BucketEntry) → Turn
  OnSchedule : (e : ScheduleEntry) → Turn
  OnPages : (path : Bytes) (reply : PageAnswer) → Turn
  AtOnce : Turn

-- ---- which turn is a question's

-- a publication is put to the blueprint, or refused at once
abbrev pub PublishedBy : Asked → Turn → Type 0
PublishedBy (Puts call) (OnBlueprint e) = e.call ≡ call
PublishedBy (Refused answer) AtOnce = Unit {0}
PublishedBy _ _ = ⊥

-- The turn is that of the question, in a run at this moment: words on shared arrays go to their bucket as they are; those on the
-- schedule are its call; the definitions of a script are published, and a script is saved; and a path is looked up among the pages.
-- A question for a run inside never goes out.
abbrev pub IsTurnOf : Moment → Service → Words → Turn → Type 0
IsTurnOf moment service.Page words (OnPages path reply) = path ≡ path_asked words
IsTurnOf moment service.Nsv words (OnArrays bucket e) = (bucket ≡ bucket_asked words) × (e.call ≡ words)
IsTurnOf moment service.Schedule words (OnSchedule e) = e.call ≡ sched_call moment words
IsTurnOf moment service.Publish words turn = PublishedBy (publish_call words) turn
IsTurnOf moment service.Save words (OnBlueprint e) = e.call ≡ save_call words
IsTurnOf moment service.Inner words AtOnce = Unit {0}
IsTurnOf moment _ words _ = ⊥

-- ---- what it is answered

-- the blueprint's reply as an answer, none where memory wants
abbrev pub blueprint_answer : BlueReply → Option Answer
blueprint_answer (blue_reply.Published published.NoMemory) = None
blueprint_answer (blue_reply.Published reply) = Some (published_answer reply)
blueprint_answer (blue_reply.Look look) = None

abbrev pub array_answer : NsvReply → Option Answer
array_answer arrays.NoMemory = None
array_answer reply = Some (nsv_answer reply)

abbrev pub schedule_answer : Words → SchedReply → Option Answer
schedule_answer words schedule.NoMemory = None
schedule_answer words reply = Some (sched_answer words reply)

abbrev pub pages_answer : PageAnswer → Option Answer
pages_answer pages.NoMemory = None
pages_answer reply = Some (page_answer reply)

-- an answer that is given without a turn
abbrev pub refusal_of : Asked → Option Answer
refusal_of (Refused answer) = Some answer
refusal_of (Puts call) = None

abbrev pub at_once : Service → Words → Option Answer
at_once service.Publish words = refusal_of (publish_call words)
at_once service.Page words = Some (answers.Failed [])
at_once service.Nsv words = Some (answers.Failed [])
at_once service.Schedule words = Some (answers.Failed [])
at_once service.Save words = Some (answers.Failed [])
at_once service.Inner words = Some inner_answer

-- The answer that a turn gives to the question; none where its object met want of memory.
abbrev pub answer_of : Question → Turn → Option Answer
answer_of question (OnBlueprint e) = blueprint_answer e.reply
answer_of question (OnArrays bucket e) = array_answer e.reply
answer_of question (OnSchedule e) = schedule_answer question.words e.reply
answer_of question (OnPages path reply) = pages_answer reply
answer_of question AtOnce = at_once question.service question.words

-- ---- the questions of a run

-- the run stands at this question with the answers that it was given
abbrev pub ProgressAsks : Progress → Question → Type 0
ProgressAsks progress question = (state : State HostState) × (inside : ℕ) × (progress ≡ asks question state inside)

-- The turns are, in order, those of the questions that a run asks, in a run at this moment, and the answers are theirs: f is what comes
-- of the run with a list of answers.
abbrev pub AreAsked : Moment → (List Answer → Progress) → List Turn → List Answer → Type 0
AreAsked moment f [] [] = Unit {0}
AreAsked moment f (turn ∷ turns) (answer ∷ answers) =
    (question : Question) × ProgressAsks (f []) question × IsTurnOf moment question.service question.words turn
    × (answer_of question turn ≡ Some answer)
    × AreAsked moment (λ given. f (answer ∷ given)) turns answers
AreAsked moment f _ _ = ⊥

-- One turn more, behind these answers, may stand for a question whose answer was never given; what it replied is free.
abbrev pub AtMostOneMore : Moment → (List Answer → Progress) → List Answer → List Turn → Type 0
AtMostOneMore moment f answers [] = Unit {0}
AtMostOneMore moment f answers (turn ∷ []) =
    (question : Question) × ProgressAsks (f answers) question × IsTurnOf moment question.service question.words turn
AtMostOneMore moment f answers (turn ∷ other ∷ more) = ⊥

-- ---- what each cell's pass has of them

abbrev pub on_blueprint : Turn → List BlueEntry
on_blueprint (OnBlueprint e) = e ∷ []
on_blueprint (OnArrays bucket e) = []
on_blueprint (OnSchedule e) = []
on_blueprint (OnPages path reply) = []
on_blueprint AtOnce = []

abbrev pub on_arrays : ℕ → Turn → List BucketEntry
on_arrays here (OnBlueprint e) = []
on_arrays here (OnArrays bucket e) = if bucket == here then e ∷ [] else []
on_arrays here (OnSchedule e) = []
on_arrays here (OnPages path reply) = []
on_arrays here AtOnce = []

abbrev pub on_schedule : Turn → List ScheduleEntry
on_schedule (OnBlueprint e) = []
on_schedule (OnArrays bucket e) = []
on_schedule (OnSchedule e) = e ∷ []
on_schedule (OnPages path reply) = []
on_schedule AtOnce = []

abbrev pub blueprint_turns : List Turn → List BlueEntry
blueprint_turns [] = []
blueprint_turns (turn ∷ turns) = on_blueprint turn ++ blueprint_turns turns

abbrev pub array_turns : ℕ → List Turn → List BucketEntry
array_turns here [] = []
array_turns here (turn ∷ turns) = on_arrays here turn ++ array_turns here turns

abbrev pub schedule_turns : List Turn → List ScheduleEntry
schedule_turns [] = []
schedule_turns (turn ∷ turns) = on_schedule turn ++ schedule_turns turns

-- ---- turns in a row, a line for each cell

-- Each entry was found where the pass then stood, in a state that is no older than any that the pass knew, and is legal.
abbrev pub TakesOnBlueprint : BlueView → List BlueEntry → BlueView → Type 0
TakesOnBlueprint = TakesTurns blueprints.Allowed blueprints_steps.Reaches blueprints_steps.BlueprintSteps

abbrev pub TakesOnBucket : BucketView → List BucketEntry → BucketView → Type 0
TakesOnBucket = TakesTurns (λ s. Unit {0}) (λ s t. Unit {0}) ArraySteps

abbrev pub TakesOnSchedule : ScheduleView → List ScheduleEntry → ScheduleView → Type 0
TakesOnSchedule = TakesTurns schedule_states.Allowed (λ s t. Unit {0}) ScheduleSteps

abbrev pub TakesOnArrays : NsvPass → List Turn → NsvPass → Type 0
TakesOnArrays before turns after =
    TakesOnBucket (pass_view before.b0) (array_turns 0 turns) (pass_view after.b0)
    × TakesOnBucket (pass_view before.b1) (array_turns 1 turns) (pass_view after.b1)
    × TakesOnBucket (pass_view before.b2) (array_turns 2 turns) (pass_view after.b2)
    × TakesOnBucket (pass_view before.b3) (array_turns 3 turns) (pass_view after.b3)
    × TakesOnBucket (pass_view before.b4) (array_turns 4 turns) (pass_view after.b4)
    × TakesOnBucket (pass_view before.b5) (array_turns 5 turns) (pass_view after.b5)
    × TakesOnBucket (pass_view before.b6) (array_turns 6 turns) (pass_view after.b6)
    × TakesOnBucket (pass_view before.b7) (array_turns 7 turns) (pass_view after.b7)

-- The passes gained these turns, each pass those of its cell, in their order.
abbrev pub GainsTurns : Passes → List Turn → Passes → Type 0
GainsTurns before turns after =
    TakesOnBlueprint (pass_view before.blueprint) (blueprint_turns turns) (pass_view after.blueprint)
    × TakesOnArrays before.nsv turns after.nsv
    × TakesOnSchedule (pass_view before.schedule) (schedule_turns turns) (pass_view after.schedule)

-- ---- looks

-- a look at the blueprint, whatever epoch it names
abbrev pub IsLook : BlueCall → Type 0
IsLook (blue_call.Look epoch) = Unit {0}
IsLook (blue_call.Publish defs) = ⊥
IsLook (blue_call.Save script) = ⊥

-- the look was answered: memory sufficed for it
abbrev pub IsAnsweredLook : BlueEntry → Type 0
IsAnsweredLook look = look.reply ≢ blue_reply.Look looks.NoMemory

-- the passes gained a look, the entry of which is this
abbrev pub GainsLook : Passes → BlueEntry → Passes → Type 0
GainsLook before look after = IsLook look.call × GainsTurns before (OnBlueprint look ∷ []) after
