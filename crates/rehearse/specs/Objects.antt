-- What workers, scripts and blocks share: the objects that answer their questions, and what a step of theirs doesn't change.
use Rattle.std.specs.Prelude.{◌≡◌, ◌≢◌, [], false}
use Rattle.std.specs.FinMap as map
use Rattle.txt_core.specs.Names.{Words, Names, Moment}
use Rattle.outside.specs.Paging.{PageMap}
use Rattle.outside.specs.declared.question.Answer.{Answer}
use Rattle.outside.specs.declared.question.Question.{Question}
use Rattle.outside.specs.declared.question.Service.{Service}
use Rattle.outside.specs.declared.question.Service.TheVariants.{Page, Nsv, Schedule, Publish, Save, Inner}
use Rattle.nsv_bucket.specs.Buckets.{no_arrays, buckets_step}
use Rattle.sched_core.specs.Allowed.{Allowed}
use Rattle.sched_core.specs.Entries.{State as ScheduleState}
use Rattle.sched_core.specs.Steps.{ScheduleSteps}
use Rattle.sched_core.specs.declared.call.SchedReply.{SchedReply}
use Rattle.sched_core.specs.declared.call.SchedReply.TheVariants as sched_replies
use Rattle.blueprint.specs.States.{State as BlueprintState, fresh}
use Rattle.blueprint.specs.Objects.{BlueprintSteps}
use Rattle.blueprint.specs.declared.reply.BlueCall.{BlueCall}
use Rattle.blueprint.specs.declared.reply.BlueReply.TheVariants as blue_replies
use Rattle.blueprint.specs.declared.reply.Published.{Published}
use Rattle.blueprint.specs.declared.reply.Published.TheVariants as publications
use Rattle.server_host.specs.declared.edition.Edition.{Edition}
pub use Rattle.server_host.specs.Hosts.{edition_of}
use Rattle.serving.specs.Calls.{path_asked, page_found, inner_answer, nsv_answer, sched_call, sched_answer, publish_call, save_call, published_answer}
use Rattle.serving.specs.declared.publishing.Asked.{Asked}
use Rattle.serving.specs.declared.publishing.Asked.TheVariants.{Puts, Refused}
use Rattle.rehearse.specs.declared.objects.Objects.{Objects}

-- ---- what there is

-- What a step reads and doesn't change: the names of the natives, which stay the same, what the clock shows, in seconds since
-- 1970, and the pages.
pub record Setting : Type 0 where
  pub natives : Names
  pub moment : Moment
  pub pages : PageMap

-- before the first event the clock shows 0, and no page is there
abbrev pub first_setting : Names → Setting
first_setting natives = record { natives = natives; moment = 0; pages = map.empty }

-- The declared `Objects` has what was published, the shared arrays, bucket by bucket, and the schedule. New ones: nothing was
-- published, no array is there, and nothing is scheduled.
abbrev pub new_objects : Names → Objects
new_objects natives = record {
  blueprint = fresh natives;
  arrays = no_arrays;
  schedule = record { next = 0; entries = []; stopped = false };
}

-- the blueprint as it is published now, on which a run begins
abbrev pub published_now : Objects → Edition
published_now objects = edition_of objects.blueprint

-- ---- how questions are answered

-- The schedule takes a step of its own on the call. Want of memory is no answer.
pub record ScheduleAnswers (moment : Moment) (words : Words) (before : Objects) (answer : Answer) (after : Objects) : Type 0 where
  pub reply : SchedReply
  pub schedule : ScheduleState
  pub steps : ScheduleSteps before.schedule (sched_call moment words) reply schedule
  pub allowed : Allowed schedule
  pub memory : reply ≢ sched_replies.NoMemory
  pub answer_is : answer ≡ sched_answer words reply
  pub after_is : after ≡ record before { schedule = schedule }

-- the same of the blueprint
pub record BlueprintAnswers (call : BlueCall) (before : Objects) (answer : Answer) (after : Objects) : Type 0 where
  pub reply : Published
  pub blueprint : BlueprintState
  pub steps : BlueprintSteps before.blueprint call (blue_replies.Published reply) blueprint
  pub memory : reply ≢ publications.NoMemory
  pub answer_is : answer ≡ published_answer reply
  pub after_is : after ≡ record before { blueprint = blueprint }

-- a publication that is refused at once changes nothing
abbrev pub PublishAnswers : Asked → Objects → Answer → Objects → Type 0
PublishAnswers (Puts call) before answer after = BlueprintAnswers call before answer after
PublishAnswers (Refused refusal) before answer after = (answer ≡ refusal) × (after ≡ before)

-- the bucket takes its step on the words
abbrev pub ArraysAnswer : Words → Objects → Answer → Objects → Type 0
ArraysAnswer words before answer after =
    (answer ≡ nsv_answer (buckets_step before.arrays words).0) × (after ≡ record before { arrays = (buckets_step before.arrays words).1 })

-- the page of the path, or that there is none; a page is read anew at each question
abbrev pub PagesAnswer : PageMap → Words → Objects → Answer → Objects → Type 0
PagesAnswer pages words before answer after = (answer ≡ page_found (map.get pages (path_asked words))) × (after ≡ before)

-- Whom the question goes to answers it. One for a run inside never comes out of an interpreter.
abbrev pub AnswersBy : Service → Words → PageMap → Moment → Objects → Answer → Objects → Type 0
AnswersBy Page words pages moment before answer after = PagesAnswer pages words before answer after
AnswersBy Nsv words pages moment before answer after = ArraysAnswer words before answer after
AnswersBy Schedule words pages moment before answer after = ScheduleAnswers moment words before answer after
AnswersBy Publish words pages moment before answer after = PublishAnswers (publish_call words) before answer after
AnswersBy Save words pages moment before answer after = BlueprintAnswers (save_call words) before answer after
AnswersBy Inner words pages moment before answer after = (answer ≡ inner_answer) × (after ≡ before)

-- A question of a run whose moment is this is answered so, by the objects and the pages as they are now.
abbrev pub Answers : Setting → Moment → Question → Objects → Answer → Objects → Type 0
Answers setting moment question before answer after = AnswersBy question.service question.words setting.pages moment before answer after
