-- Questions have one answer, and leave one state of the objects.
use Rattle.std.proofs.Common.{◌≡◌, ◌≢◌, ℕ, List, refl, sym, subst, ap, ◌∙◌}
use Rattle.outside.specs.Paging.{PageMap}
use Rattle.outside.specs.declared.question.Answer.{Answer}
use Rattle.outside.specs.declared.question.Question.{Question}
use Rattle.outside.specs.declared.question.Service.{Service}
use Rattle.outside.specs.declared.question.Service.TheVariants.{Page, Nsv, Schedule, Publish, Save, Inner}
use Rattle.sched_core.specs.Allowed.{Allowed}
use Rattle.sched_core.specs.Entries.{State as ScheduleState}
use Rattle.sched_core.proofs.Determined.{determined}
use Rattle.blueprint.specs.States.{State as BlueprintState}
use Rattle.blueprint.specs.Objects.{BlueprintSteps}
use Rattle.blueprint.specs.Publishing as publishing
use Rattle.blueprint.specs.Publishing.{publish_answer, with_published, save_answer, with_saved, saved_defs}
use Rattle.blueprint.specs.Reading.{scripted}
use Rattle.blueprint.specs.declared.reply.BlueCall.{BlueCall}
use Rattle.blueprint.specs.declared.reply.BlueCall.TheVariants as blue_calls
use Rattle.blueprint.specs.declared.reply.BlueReply.TheVariants as blue_replies
use Rattle.blueprint.specs.declared.reply.Published.{Published}
use Rattle.blueprint.specs.declared.reply.Published.TheVariants as publications
use Rattle.serving.specs.Calls.{sched_call, sched_answer, publish_call, save_call, published_answer}
use Rattle.serving.specs.declared.publishing.Asked.{Asked}
use Rattle.serving.specs.declared.publishing.Asked.TheVariants.{Puts, Refused}
use Rattle.rehearse.specs.declared.objects.Objects.{Objects}
use Rattle.rehearse.specs.Objects.{Setting, ScheduleAnswers, BlueprintAnswers, PublishAnswers, AnswersBy, Answers}

-- ---- the blueprint

-- what isn't want of memory is what is expected
answered_is : (state other : BlueprintState) (expected reply : Published) (now : BlueprintState) → publishing.Answers state expected other reply now → reply ≢ publications.NoMemory
    → (reply ≡ expected) × (now ≡ publishing.after reply state other)
answered_is state other expected publications.NoMemory now h not = absurd (not refl)
answered_is state other expected (publications.Done epoch) now h not = h
answered_is state other expected (publications.NotADefinition number) now h not = h
answered_is state other expected (publications.NotApplicable place) now h not = h
answered_is state other expected (publications.Full limit) now h not = h

same_answers : (state other : BlueprintState) (expected p q : Published) (s t : BlueprintState)
    → publishing.Answers state expected other p s → publishing.Answers state expected other q t → p ≢ publications.NoMemory → q ≢ publications.NoMemory
    → (p ≡ q) × (s ≡ t)
same_answers state other expected p q s t h k m n =
    let a : (p ≡ expected) × (s ≡ publishing.after p state other) = answered_is state other expected p s h m in
    let b : (q ≡ expected) × (t ≡ publishing.after q state other) = answered_is state other expected q t k n in
    let same : p ≡ q = a.0 ∙ sym b.0 in
    (same, a.1 ∙ ap (λ (r : Published). publishing.after r state other) same ∙ sym b.1)

blueprint_one : (call : BlueCall) (state : BlueprintState) (p q : Published) (s t : BlueprintState)
    → BlueprintSteps state call (blue_replies.Published p) s → BlueprintSteps state call (blue_replies.Published q) t
    → p ≢ publications.NoMemory → q ≢ publications.NoMemory → (p ≡ q) × (s ≡ t)
blueprint_one (blue_calls.Look epoch) state p q s t h k m n = absurd h
blueprint_one (blue_calls.Publish made) state p q s t h k m n =
    same_answers state (with_published state made) (publish_answer state made) p q s t h k m n
blueprint_one (blue_calls.Save script) state p q s t h k m n =
    same_answers state (with_saved state (saved_defs (scripted script))) (save_answer state (scripted script)) p q s t h k m n

abbrev pub Same : Answer → Objects → Answer → Objects → Type 0
Same x a y b = (x ≡ y) × (a ≡ b)

blueprint_same : (call : BlueCall) (before a b : Objects) (x y : Answer) → BlueprintAnswers call before x a → BlueprintAnswers call before y b → Same x a y b
blueprint_same call before a b x y h k =
    let one : (h.reply ≡ k.reply) × (h.blueprint ≡ k.blueprint) =
    blueprint_one call before.blueprint h.reply k.reply h.blueprint k.blueprint h.steps k.steps h.memory k.memory in (
      h.answer_is ∙ ap published_answer one.0 ∙ sym k.answer_is,
      h.after_is ∙ ap (λ (s : BlueprintState). let o : Objects = record before { blueprint = s } in o) one.1 ∙ sym k.after_is,
    )

publish_same : (asked : Asked) (before a b : Objects) (x y : Answer) → PublishAnswers asked before x a → PublishAnswers asked before y b → Same x a y b
publish_same (Puts call) before a b x y h k = blueprint_same call before a b x y h k
publish_same (Refused refusal) before a b x y h k = (h.0 ∙ sym k.0, h.1 ∙ sym k.1)

-- ---- the schedule

schedule_same : (moment : ℕ) (words : List (List ℕ)) (before a b : Objects) (x y : Answer) → Allowed before.schedule
    → ScheduleAnswers moment words before x a → ScheduleAnswers moment words before y b → Same x a y b
schedule_same moment words before a b x y ok h k =
    let one : (h.reply ≡ k.reply) × (h.schedule ≡ k.schedule) =
    determined before.schedule h.schedule k.schedule (sched_call moment words) h.reply k.reply ok h.allowed k.allowed h.steps k.steps h.memory k.memory in (
      h.answer_is ∙ ap (sched_answer words) one.0 ∙ sym k.answer_is,
      h.after_is ∙ ap (λ (s : ScheduleState). let o : Objects = record before { schedule = s } in o) one.1 ∙ sym k.after_is,
    )

-- ---- all

by_service : (service : Service) (words : List (List ℕ)) (pages : PageMap) (moment : ℕ) (before a b : Objects) (x y : Answer) → Allowed before.schedule
    → AnswersBy service words pages moment before x a → AnswersBy service words pages moment before y b → Same x a y b
by_service Page words pages moment before a b x y ok h k = (h.0 ∙ sym k.0, h.1 ∙ sym k.1)
by_service Nsv words pages moment before a b x y ok h k = (h.0 ∙ sym k.0, h.1 ∙ sym k.1)
by_service Schedule words pages moment before a b x y ok h k = schedule_same moment words before a b x y ok h k
by_service Publish words pages moment before a b x y ok h k = publish_same (publish_call words) before a b x y h k
by_service Save words pages moment before a b x y ok h k = blueprint_same (save_call words) before a b x y h k
by_service Inner words pages moment before a b x y ok h k = (h.0 ∙ sym k.0, h.1 ∙ sym k.1)

pub answers_one : (setting : Setting) (moment : ℕ) (question : Question) (before a b : Objects) (x y : Answer) → Allowed before.schedule
    → Answers setting moment question before x a → Answers setting moment question before y b → Same x a y b
answers_one setting moment question before a b x y ok h k = by_service question.service question.words setting.pages moment before a b x y ok h k

-- ---- the schedule stays an allowed one

moved : (before after : Objects) → after.schedule ≡ before.schedule → Allowed before.schedule → Allowed after.schedule
moved before after same ok = subst Allowed (sym same) ok

blueprint_keeps : (call : BlueCall) (before after : Objects) (x : Answer) → Allowed before.schedule → BlueprintAnswers call before x after → Allowed after.schedule
blueprint_keeps call before after x ok h = moved before after (ap (λ (o : Objects). o.schedule) h.after_is) ok

publish_keeps : (asked : Asked) (before after : Objects) (x : Answer) → Allowed before.schedule → PublishAnswers asked before x after → Allowed after.schedule
publish_keeps (Puts call) before after x ok h = blueprint_keeps call before after x ok h
publish_keeps (Refused refusal) before after x ok h = moved before after (ap (λ (o : Objects). o.schedule) h.1) ok

by_service_keeps : (service : Service) (words : List (List ℕ)) (pages : PageMap) (moment : ℕ) (before after : Objects) (x : Answer) → Allowed before.schedule
    → AnswersBy service words pages moment before x after → Allowed after.schedule
by_service_keeps Page words pages moment before after x ok h = moved before after (ap (λ (o : Objects). o.schedule) h.1) ok
by_service_keeps Nsv words pages moment before after x ok h = moved before after (ap (λ (o : Objects). o.schedule) h.1) ok
by_service_keeps Schedule words pages moment before after x ok h = subst Allowed (sym (ap (λ (o : Objects). o.schedule) h.after_is)) h.allowed
by_service_keeps Publish words pages moment before after x ok h = publish_keeps (publish_call words) before after x ok h
by_service_keeps Save words pages moment before after x ok h = blueprint_keeps (save_call words) before after x ok h
by_service_keeps Inner words pages moment before after x ok h = moved before after (ap (λ (o : Objects). o.schedule) h.1) ok

pub answers_keep : (setting : Setting) (moment : ℕ) (question : Question) (before after : Objects) (x : Answer) → Allowed before.schedule
    → Answers setting moment question before x after → Allowed after.schedule
answers_keep setting moment question before after x ok h =
    by_service_keeps question.service question.words setting.pages moment before after x ok h
