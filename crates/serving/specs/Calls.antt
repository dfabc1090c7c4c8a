-- Questions as calls on the objects that answer them, and what the objects reply as answers.
use Rattle.std.specs.Prelude.{ℕ, ℤ, pos, negsuc, [], decimal, bytes_eq, codes, true, false, if◌then◌else◌, Option, Some, None}
use Rattle.txt_core.specs.Names.{Bytes, Words, Moment}
use Rattle.txt_core.specs.ErrorTexts.{no_schedule, does_not_apply, no_definition, blueprint_full}
use Rattle.txt_core.specs.Number.{number}
use Rattle.txt_core.specs.Words.{arg}
use Rattle.outside.specs.declared.pages.PageAnswer.{PageAnswer}
use Rattle.outside.specs.declared.pages.PageAnswer.TheVariants as pages
use Rattle.outside.specs.declared.question.Answer.{Answer}
use Rattle.outside.specs.declared.question.Answer.TheVariants.{Said, Failed, Page, NoPage, PageFault}
use Rattle.nsv_bucket.specs.declared.reply.NsvReply.{NsvReply}
use Rattle.nsv_bucket.specs.declared.reply.NsvReply.TheVariants as arrays
use Rattle.sched_core.specs.Asking.{is_once_option}
use Rattle.sched_core.specs.declared.call.SchedCall.{SchedCall}
use Rattle.sched_core.specs.declared.call.SchedCall.TheVariants.{Add, Cancel}
use Rattle.sched_core.specs.declared.call.SchedReply.{SchedReply}
use Rattle.sched_core.specs.declared.call.SchedReply.TheVariants as schedule
use Rattle.blueprint.specs.Reading.{Scripted, scripted, definitions}
use Rattle.blueprint.specs.Reading as reading
use Rattle.blueprint.specs.declared.reply.BlueCall.{BlueCall}
use Rattle.blueprint.specs.declared.reply.BlueCall.TheVariants.{Publish, Save}
use Rattle.blueprint.specs.declared.reply.Published.{Published}
use Rattle.blueprint.specs.declared.reply.Published.TheVariants as published
use Rattle.serving.specs.declared.publishing.Asked.{Asked}
use Rattle.serving.specs.declared.publishing.Asked.TheVariants.{Puts, Refused}

-- Want of memory is no answer. Where a reply says so, the answer stands for it in these tables alone.
abbrev pub no_answer : Answer
no_answer = Failed []

-- ---- pages

-- the path that is asked for: the one word
abbrev pub path_asked : Words → Bytes
path_asked words = arg words 0

-- the page of a path, where pages are told by a map: it, or that there is none
abbrev pub page_found : Option Bytes → Answer
page_found (Some page) = Page page
page_found None = NoPage

-- what pages of the outside reply
abbrev pub page_answer : PageAnswer → Answer
page_answer (pages.Page page) = Page page
page_answer pages.NoPage = NoPage
page_answer pages.Failed = PageFault
page_answer pages.NoMemory = no_answer

-- ---- runs inside

-- A question for a run inside never comes out of an interpreter, which answers it itself. Where one came it would be refused, without a
-- reason.
abbrev pub inner_answer : Answer
inner_answer = Failed []

-- ---- shared arrays: the words of the question are the call

abbrev pub nsv_answer : NsvReply → Answer
nsv_answer (arrays.Said text) = Said text
nsv_answer (arrays.Failed why) = Failed why
nsv_answer arrays.NoMemory = no_answer

-- ---- the schedule

-- a number from 0 on; what is none counts as 0
abbrev pub natural_of : Option ℤ → ℕ
natural_of (Some (pos n)) = n
natural_of (Some (negsuc n)) = 0
natural_of None = 0

abbrev pub natural_at : Words → ℕ → ℕ
natural_at words place = natural_of (number (arg words place))

-- The call of a question of a run at this moment. `ns_unschedule_proc ID` takes the entry of the id out.
-- `ns_schedule_proc ?-once? SECONDS SCRIPT` puts one in, which is made at the moment of the run.
abbrev pub sched_call : Moment → Words → SchedCall
sched_call moment words =
    if bytes_eq (arg words 0) (codes "ns_unschedule_proc") then Cancel (natural_at words 1)
    else if is_once_option (arg words 1) then Add moment (natural_at words 2) true (arg words 3)
    else Add moment (natural_at words 1) false (arg words 2)

-- where the schedule holds as many entries as it may
abbrev pub too_many_schedules : Bytes
too_many_schedules = codes "too many schedules"

-- The answer to a question with these words: the new entry's id; nothing is said of one that was taken out; and the refusals.
abbrev pub sched_answer : Words → SchedReply → Answer
sched_answer words (schedule.Id id) = Said (decimal id)
sched_answer words schedule.Cancelled = Said []
sched_answer words schedule.NoId = Failed (no_schedule (arg words 1))
sched_answer words schedule.Full = Failed too_many_schedules
sched_answer words (schedule.Due list) = no_answer
sched_answer words schedule.Stopped = no_answer
sched_answer words schedule.NoMemory = no_answer

-- ---- the blueprint

-- The call that publishes the definitions of a script. A text that is no script of definitions is refused as a save of it is; a run never
-- asks so, since its word is the script of what its own commands made.
abbrev pub publish_asked : Scripted → Asked
publish_asked (definitions defs) = Puts (Publish defs)
publish_asked (reading.no_definition place) = Refused (Failed (no_definition place))

-- the one word is the script of the definitions
abbrev pub publish_call : Words → Asked
publish_call words = publish_asked (scripted (arg words 0))

-- the one word is the script that is saved
abbrev pub save_call : Words → BlueCall
save_call words = Save (arg words 0)

-- what is said of what was done is the new epoch in digits; and the refusals
abbrev pub published_answer : Published → Answer
published_answer (published.Done epoch) = Said (decimal epoch)
published_answer (published.NotADefinition place) = Failed (no_definition place)
published_answer (published.NotApplicable place) = Failed (does_not_apply place)
published_answer (published.Full limit) = Failed blueprint_full
published_answer published.NoMemory = no_answer
