-- One question, put to what answers it.
use Rattle.std.proofs.Common.{◌≡◌, ◌≢◌, ◌⊎◌, inl, inr, ⊎_elim, ℕ, ◌+◌, ◌-◌, ◌<◌, ◌≤◌, Bool, true, false, cond, length, List, [], ◌∷◌, ◌++◌, Option, None, Some, Result, Ok, Err, IfOk, refl, sym, ap, ◌∙◌, subst, arith}
use Rattle.std.specs.Prelude.{nat_le, ◌==◌, ◌&&◌, slice_index, bytes_eq, codes}
use Rattle.std.proofs.lemmas.Bool.{leb-true}
use Rattle.txt_core.specs.Words.{arg}
use Rattle.outside.specs.Faults.{Rose, last_count}
use Rattle.outside.specs.Paging.{PageMap, Asks}
use Rattle.outside.specs.declared.pages.PageAnswer.{PageAnswer}
use Rattle.outside.specs.declared.pages.PageAnswer.TheVariants as pages
use Rattle.outside.specs.declared.question.Answer.{Answer}
use Rattle.outside.specs.declared.question.Question.{Question}
use Rattle.outside.specs.declared.question.Service.{Service}
use Rattle.outside.specs.declared.question.Service.TheVariants as service
use Rattle.turn_cell.specs.Cells.{pass_view}
use Rattle.turn_cell.specs.Steps.{Turns}
use Rattle.blueprint.specs.States as blueprints
use Rattle.blueprint.specs.Objects as blueprint_steps
use Rattle.blueprint.specs.Reading.{Scripted, scripted, definitions}
use Rattle.blueprint.specs.Reading as reading
use Rattle.blueprint.specs.declared.reply.BlueCall.{BlueCall}
use Rattle.blueprint.specs.declared.reply.BlueCall.TheVariants as blue_call
use Rattle.blueprint.specs.declared.reply.BlueReply.{BlueReply}
use Rattle.blueprint.specs.declared.reply.BlueReply.TheVariants as blue_reply
use Rattle.blueprint.specs.declared.reply.Published.TheVariants as published
use Rattle.cmd_table.specs.declared.definition.Def.{Def}
use Rattle.sched_core.specs.Allowed as schedule_states
use Rattle.sched_core.specs.Steps.{ScheduleSteps}
use Rattle.sched_core.specs.declared.call.SchedCall.{SchedCall}
use Rattle.sched_core.specs.declared.call.SchedReply.{SchedReply}
use Rattle.sched_core.specs.declared.call.SchedReply.TheVariants as schedule
use Rattle.nsv_bucket.specs.Buckets.{bucket_of, bucket_named, bucket_asked}
use Rattle.nsv_bucket.specs.declared.reply.NsvReply.{NsvReply}
use Rattle.nsv_bucket.specs.declared.reply.NsvReply.TheVariants as arrays
use Rattle.nsv_shared.specs.Cells as buckets
use Rattle.shared_state.specs.declared.shared.Passes.{Passes}
use Rattle.serving.specs.Calls.{path_asked, inner_answer, page_answer, nsv_answer, sched_call, sched_answer, publish_asked, publish_call, save_call, published_answer}
use Rattle.serving.specs.declared.publishing.Asked.{Asked}
use Rattle.serving.specs.declared.publishing.Asked.TheVariants.{Puts, Refused}
use Rattle.worker.specs.Turns.{Turn, OnBlueprint, OnArrays, OnSchedule, OnPages, AtOnce, PublishedBy, IsTurnOf, blueprint_answer, array_answer, schedule_answer, pages_answer, refusal_of, answer_of, GainsTurns}
use Rattle.worker.specs.Outside.{IsHeld, AreHeld, fault_in, page_faults, RoseBy}
use Rattle.worker.specs.Asking.{published_by, published_at, AsksOne}
use Rattle.worker.proofs.Turning.{gains_none, blueprint_entry, blueprint_gained, schedule_entry, schedule_gained, arrays_gained}
use Rattle.worker.proofs.Hearing.{held_one, rose_none, put_to}

abbrev TurnsBlueprint : Passes → ℕ → BlueCall → BlueReply → Passes → Type 0
TurnsBlueprint p place call reply q = Turns blueprints.Allowed blueprint_steps.Reaches blueprint_steps.BlueprintSteps (pass_view p.blueprint) place call reply (pass_view q.blueprint)

abbrev TurnsSchedule : Passes → ℕ → SchedCall → SchedReply → Passes → Type 0
TurnsSchedule p place call reply q = Turns schedule_states.Allowed (λ s t. Unit {0}) ScheduleSteps (pass_view p.schedule) place call reply (pass_view q.schedule)

ok_map : {A E : Type 0} (result : Result A E) (P Q : A → Type 0) → ((a : A) → P a → Q a) → IfOk result P → IfOk result Q
ok_map (Ok a) P Q f h = f a h
ok_map (Err e) P Q f h = tt

ok_two : {A E : Type 0} (result : Result A E) (P Q R : A → Type 0) → ((a : A) → P a → Q a → R a) → IfOk result P → IfOk result Q → IfOk result R
ok_two (Ok a) P Q R f h k = f a h k
ok_two (Err e) P Q R f h k = tt

-- ---- the blueprint

-- a save publishes nothing that counts
saved_none : (call : BlueCall) (script : List ℕ) (reply : BlueReply) → call ≡ blue_call.Save script → None ≡ published_by call reply
saved_none call script reply is = sym (ap (λ (c : BlueCall). published_by c reply) is)

pub asks_save : {E : Type 0} (moment : ℕ) (words : List (List ℕ)) (p q : Passes) (place : ℕ) (call : BlueCall) (reply : BlueReply) (held : Option PageMap) (faults : ℕ) (result : Result Answer E)
    → (t : TurnsBlueprint p place call reply q) → q.nsv ≡ p.nsv → q.schedule ≡ p.schedule → call ≡ save_call words → IfOk result (λ answer. blueprint_answer reply ≡ Some answer)
    → AsksOne moment (record { service = service.Save; words = words }) p held faults result q faults None
asks_save moment words p q place call reply held faults result t arrays schedule is answers =
    put_to moment (record { service = service.Save; words = words }) p q held faults faults (OnBlueprint (blueprint_entry p q place call reply t)) result None
    (blueprint_gained p q place call reply t arrays schedule) is answers (held_one held (OnBlueprint (blueprint_entry p q place call reply t)) (λ map known. tt)) (rose_none faults) (saved_none call (arg words 0) reply is)

published_same : (defs made : List Def) (reply : BlueReply) → published_by (blue_call.Publish defs) reply ≡ published_by (blue_call.Publish made) reply
published_same defs made (blue_reply.Look look) = refl
published_same defs made (blue_reply.Published (published.Done now)) = refl
published_same defs made (blue_reply.Published (published.NotADefinition place)) = refl
published_same defs made (blue_reply.Published (published.NotApplicable place)) = refl
published_same defs made (blue_reply.Published (published.Full limit)) = refl
published_same defs made (blue_reply.Published published.NoMemory) = refl

-- what is published are definitions
puts_defs : (found : Scripted) (call : BlueCall) → publish_asked found ≡ Puts call → (defs : List Def) × (call ≡ blue_call.Publish defs)
puts_defs (definitions defs) call is = (defs, cc)
puts_defs (reading.no_definition place) call is = absurd (cc)

pub asks_publish : {E : Type 0} (moment : ℕ) (words : List (List ℕ)) (p q : Passes) (place : ℕ) (call : BlueCall) (reply : BlueReply) (held : Option PageMap) (faults : ℕ) (result : Result Answer E) (now : Option ℕ)
    → (t : TurnsBlueprint p place call reply q) → q.nsv ≡ p.nsv → q.schedule ≡ p.schedule → publish_call words ≡ Puts call → IfOk result (λ answer. blueprint_answer reply ≡ Some answer)
    → now ≡ published_by (blue_call.Publish []) reply
    → AsksOne moment (record { service = service.Publish; words = words }) p held faults result q faults now
asks_publish moment words p q place call reply held faults result now t arrays schedule is answers known =
    let turn = OnBlueprint (blueprint_entry p q place call reply t) in
    let d = puts_defs (scripted (arg words 0)) call is in
    put_to moment (record { service = service.Publish; words = words }) p q held faults faults turn result now
    (blueprint_gained p q place call reply t arrays schedule) (subst (λ (a : Asked). PublishedBy a turn) (sym is) refl) answers (held_one held turn (λ map held. tt)) (rose_none faults)
    (known ∙ (published_same [] d.0 reply ∙ ap (λ (c : BlueCall). published_by c reply) (sym d.1)))

-- a script that is none is refused at once
pub asks_refused : {E : Type 0} (moment : ℕ) (words : List (List ℕ)) (p : Passes) (answer : Answer) (held : Option PageMap) (faults : ℕ) → publish_call words ≡ Refused answer
    → AsksOne {E = E} moment (record { service = service.Publish; words = words }) p held faults (Ok answer) p faults None
asks_refused {E} moment words p answer held faults is =
    put_to {E = E} moment (record { service = service.Publish; words = words }) p p held faults faults AtOnce (Ok answer) None
    (gains_none p) (subst (λ (a : Asked). PublishedBy a AtOnce) (sym is) tt) (ap refusal_of is) (held_one held AtOnce (λ map held. tt)) (rose_none faults) refl

-- a run inside never asks
pub asks_inner : {E : Type 0} (moment : ℕ) (words : List (List ℕ)) (p : Passes) (answer : Answer) (held : Option PageMap) (faults : ℕ) → answer ≡ inner_answer
    → AsksOne {E = E} moment (record { service = service.Inner; words = words }) p held faults (Ok answer) p faults None
asks_inner {E} moment words p answer held faults is =
    put_to {E = E} moment (record { service = service.Inner; words = words }) p p held faults faults AtOnce (Ok answer) None
    (gains_none p) tt (ap (λ (a : Answer). Some a) (sym is)) (held_one held AtOnce (λ map held. tt)) (rose_none faults) refl

-- ---- the schedule

schedule_told : (words : List (List ℕ)) (reply : SchedReply) (answer : Answer) → answer ≡ sched_answer words reply → reply ≢ schedule.NoMemory → schedule_answer words reply ≡ Some answer
schedule_told words (schedule.Id id) answer is some = ap (λ (a : Answer). Some a) (sym is)
schedule_told words schedule.NoId answer is some = ap (λ (a : Answer). Some a) (sym is)
schedule_told words schedule.Full answer is some = ap (λ (a : Answer). Some a) (sym is)
schedule_told words schedule.Cancelled answer is some = ap (λ (a : Answer). Some a) (sym is)
schedule_told words (schedule.Due list) answer is some = ap (λ (a : Answer). Some a) (sym is)
schedule_told words schedule.Stopped answer is some = ap (λ (a : Answer). Some a) (sym is)
schedule_told words schedule.NoMemory answer is some = absurd (some refl)

pub asks_schedule : {E : Type 0} (moment : ℕ) (words : List (List ℕ)) (p q : Passes) (place : ℕ) (call : SchedCall) (reply : SchedReply) (held : Option PageMap) (faults : ℕ) (result : Result Answer E)
    → (t : TurnsSchedule p place call reply q) → q.blueprint ≡ p.blueprint → q.nsv ≡ p.nsv → call ≡ sched_call moment words
    → IfOk result (λ answer. answer ≡ sched_answer words reply) → IfOk result (λ answer. reply ≢ schedule.NoMemory)
    → AsksOne moment (record { service = service.Schedule; words = words }) p held faults result q faults None
asks_schedule moment words p q place call reply held faults result t blueprint arrays is answers some =
    let turn = OnSchedule (schedule_entry p q place call reply t) in
    put_to moment (record { service = service.Schedule; words = words }) p q held faults faults turn result None
    (schedule_gained p q place call reply t blueprint arrays) is
    (ok_two result (λ answer. answer ≡ sched_answer words reply) (λ answer. reply ≢ schedule.NoMemory) (λ answer. schedule_answer words reply ≡ Some answer) (λ answer a s. schedule_told words reply answer a s) answers some)
    (held_one held turn (λ map known. tt)) (rose_none faults) refl

-- ---- shared arrays

arrays_told : (reply : NsvReply) (answer : Answer) → answer ≡ nsv_answer reply → reply ≢ arrays.NoMemory → array_answer reply ≡ Some answer
arrays_told (arrays.Said text) answer is some = ap (λ (a : Answer). Some a) (sym is)
arrays_told (arrays.Failed why) answer is some = ap (λ (a : Answer). Some a) (sym is)
arrays_told arrays.NoMemory answer is some = absurd (some refl)

named_step : (word : List ℕ) (one low high : Bool) → nat_le (slice_index word 0) 55 ≡ high → cond (one && (low && high)) (slice_index word 0 - 48) 0 < 8
named_step word true true true is = let le = leb-true (slice_index word 0) 55 is in omega (arith, le)
named_step word true true false is = omega arith
named_step word true false high is = omega arith
named_step word false low high is = omega arith

named_below : (word : List ℕ) → bucket_named word < 8
named_below word = named_step word (length word == 1) (nat_le 48 (slice_index word 0)) (nat_le (slice_index word 0) 55) refl

of_below : (name : List ℕ) → bucket_of name < 8
of_below name = omega arith

asked_step : (b c : Bool) (word name other : List ℕ) → cond b (bucket_named word) (cond c (bucket_of name) (bucket_of other)) < 8
asked_step true c word name other = named_below word
asked_step false true word name other = of_below name
asked_step false false word name other = of_below other

bucket_below : (words : List (List ℕ)) → bucket_asked words < 8
bucket_below words = asked_step (bytes_eq (arg words 0) (codes "nsv_names")) (bytes_eq (arg words 0) (codes "nsv_array")) (arg words 1) (arg words 2) (arg words 1)

pub asks_arrays : {E : Type 0} (moment : ℕ) (words : List (List ℕ)) (p q : Passes) (place : ℕ) (reply : NsvReply) (held : Option PageMap) (faults : ℕ) (result : Result Answer E)
    → buckets.Asks (bucket_asked words) place words reply p.nsv q.nsv → q.blueprint ≡ p.blueprint → q.schedule ≡ p.schedule
    → IfOk result (λ answer. answer ≡ nsv_answer reply) → IfOk result (λ answer. reply ≢ arrays.NoMemory)
    → AsksOne moment (record { service = service.Nsv; words = words }) p held faults result q faults None
asks_arrays moment words p q place reply held faults result x blueprint schedule answers some =
    let g = arrays_gained p q (bucket_asked words) place words reply x (bucket_below words) blueprint schedule in
    let turn = OnArrays (bucket_asked words) g.0 in
    put_to moment (record { service = service.Nsv; words = words }) p q held faults faults turn result None
    g.3 (refl, g.1)
    (ok_two result (λ answer. answer ≡ nsv_answer reply) (λ answer. reply ≢ arrays.NoMemory) (λ answer. array_answer g.0.reply ≡ Some answer)
    (λ answer a s. ap (λ (r : NsvReply). array_answer r) g.2 ∙ arrays_told reply answer a s) answers some)
    (held_one held turn (λ map known. tt)) (rose_none faults) refl

-- ---- pages

pages_told : (reply : PageAnswer) (answer : Answer) → answer ≡ page_answer reply → reply ≢ pages.NoMemory → pages_answer reply ≡ Some answer
pages_told (pages.Page text) answer is some = ap (λ (a : Answer). Some a) (sym is)
pages_told pages.NoPage answer is some = ap (λ (a : Answer). Some a) (sym is)
pages_told pages.Failed answer is some = ap (λ (a : Answer). Some a) (sym is)
pages_told pages.NoMemory answer is some = absurd (some refl)

page_held : (held after : Option PageMap) (before faults : ℕ) (path : List ℕ) (reply : PageAnswer) → Asks held before path reply after faults → (map : PageMap) → held ≡ Some map → IsHeld map path reply
page_held held after before faults path (pages.Page text) a map is = a.0 map is
page_held held after before faults path pages.NoPage a map is = a.0 map is
page_held held after before faults path pages.Failed a map is = tt
page_held held after before faults path pages.NoMemory a map is = tt

rose_one : (before after : ℕ) → Rose before after → RoseBy (1 + 0) before after
rose_one before after (inl lt) = inl (omega (arith, lt))
rose_one before after (inr is) = inr (omega (arith, is))

page_rose : (held after : Option PageMap) (before faults : ℕ) (path : List ℕ) (reply : PageAnswer) → Asks held before path reply after faults → RoseBy (fault_in reply + 0) before faults
page_rose held after before faults path (pages.Page text) a = inl (let le = a.2 in omega (arith, le))
page_rose held after before faults path pages.NoPage a = inl (let le = a.2 in omega (arith, le))
page_rose held after before faults path pages.Failed a = rose_one before faults a.0
page_rose held after before faults path pages.NoMemory a = inl (let le = a.2 in omega (arith, le))

pub asks_page : {E : Type 0} (moment : ℕ) (words : List (List ℕ)) (p : Passes) (path : List ℕ) (reply : PageAnswer) (held after : Option PageMap) (before faults : ℕ) (result : Result Answer E)
    → Asks held before path reply after faults → path ≡ path_asked words
    → IfOk result (λ answer. answer ≡ page_answer reply) → IfOk result (λ answer. reply ≢ pages.NoMemory)
    → AsksOne moment (record { service = service.Page; words = words }) p held before result p faults None
asks_page moment words p path reply held after before faults result a is answers some =
    let turn = OnPages path reply in
    put_to moment (record { service = service.Page; words = words }) p p held before faults turn result None
    (gains_none p) is
    (ok_two result (λ answer. answer ≡ page_answer reply) (λ answer. reply ≢ pages.NoMemory) (λ answer. pages_answer reply ≡ Some answer) (λ answer e s. pages_told reply answer e s) answers some)
    (held_one held turn (λ map known. page_held held after before faults path reply a map known)) (page_rose held after before faults path reply a) refl

-- ---- any service

pub asks_at : {E : Type 0} (moment : ℕ) (question : Question) (kind : Service) (p q : Passes) (held : Option PageMap) (before after : ℕ) (result : Result Answer E) (now : Option ℕ)
    → question.service ≡ kind → AsksOne moment (record { service = kind; words = question.words }) p held before result q after now → AsksOne moment question p held before result q after now
asks_at moment question kind p q held before after result now is a =
    subst (λ (s : Service). AsksOne moment (record { service = s; words = question.words }) p held before result q after now) (sym is) a
