-- A worker's step is one step.
use Rattle.std.proofs.Common.{◌≡◌, ℕ, List, [], ◌∷◌, ◌++◌, Option, Some, None, refl, sym, subst, ap, ◌∙◌}
use Rattle.outside.specs.declared.question.Answer.{Answer}
use Rattle.http_req.specs.Outcomes.{Outcome, Gets, Whole, End, Truncated, Refused}
use Rattle.http_req.proofs.OutcomeFacts.{gets_one}
use Rattle.sched_core.specs.Allowed.{Allowed}
use Rattle.rehearse.specs.declared.objects.Objects.{Objects}
use Rattle.rehearse.specs.Lines.{Line, response, closed, ended, truncated, refused}
use Rattle.rehearse.specs.Objects.{Setting, Answers}
use Rattle.rehearse.specs.Runs.{Stand, asking, ready, over, request_stand}
use Rattle.rehearse.specs.Steps.{Position, with_worker, reply_bytes, refusal_bytes, end_lines, end_worker, behind, IsServing, Step, rests, answers, writes, ends, begins, closes, cuts, refuses, RunsUntilIdle, last, more}
use Rattle.rehearse.specs.World.{Open, Connection, Worker, idle, connected, peer, with_request, with_answer, with_written}
use Rattle.rehearse.proofs.Answering.{answers_one, answers_keep}

abbrev pub SameStep : List Line → Position → List Line → Position → Type 0
SameStep l a m b = (l ≡ m) × (a ≡ b)

-- what a step gives where a request is under way, by where that stands
abbrev Gives : ℕ → Setting → Position → Connection → Open → Stand → List Line → Position → Type 0
Gives number setting before connection request (asking question) lines after =
    (answer : Answer) × (objects : Objects) × Answers setting request.moment question before.objects answer objects × (lines ≡ [])
    × (after ≡ record { worker = connected (with_answer connection request answer); objects = objects })
Gives number setting before connection request (ready reply) lines after =
    (lines ≡ response number (Some request.blueprint.epoch) reply.status (reply_bytes connection request reply) ∷ [])
    × (after ≡ with_worker before (connected (with_written connection request)))
Gives number setting before connection request (over outcome) lines after =
    (lines ≡ end_lines number (behind connection request)) × (after ≡ with_worker before (end_worker connection (behind connection request)))

-- what it gives where none is, by what the input is
abbrev Takes : ℕ → Setting → Position → Connection → Outcome → List Line → Position → Type 0
Takes number setting before connection (Whole request used) lines after =
    (lines ≡ []) × (after ≡ with_worker before (connected (with_request setting before.objects connection request used)))
Takes number setting before connection End lines after = (lines ≡ closed number ended ∷ []) × (after ≡ with_worker before idle)
Takes number setting before connection (Truncated have) lines after = (lines ≡ closed number (truncated have) ∷ []) × (after ≡ with_worker before idle)
Takes number setting before connection (Refused status) lines after =
    (lines ≡ response number None status (refusal_bytes status setting.moment) ∷ closed number (refused status) ∷ []) × (after ≡ with_worker before idle)

abbrev Begins : ℕ → Setting → Position → Connection → List Line → Position → Type 0
Begins number setting before connection lines after = (outcome : Outcome) × Gets connection.input peer outcome × Takes number setting before connection outcome lines after

same_connection : (c d : Connection) → connected c ≡ connected d → c ≡ d
same_connection c d e = cc

same_open : (r s : Open) → Some r ≡ Some s → r ≡ s
same_open r s e = cc

not_idle : (w : Worker) (c : Connection) → w ≡ idle → w ≡ connected c → ⊥
not_idle w c e f = let k : idle ≡ connected c = sym e ∙ f in cc

-- a request isn't under way, or it is
not_between : (w : Worker) (c d : Connection) (r : Open) → w ≡ connected c → c.request ≡ None → w ≡ connected d → d.request ≡ Some r → ⊥
not_between w c d r e n f s =
    let same : c ≡ d = same_connection c d (sym e ∙ f) in
    let k : None ≡ Some r = sym n ∙ ap (λ (x : Connection). x.request) same ∙ s in
    cc

of_idle : (number : ℕ) (setting : Setting) (before after : Position) (lines : List Line) → before.worker ≡ idle → Step number setting before lines after → (lines ≡ []) × (after ≡ before)
of_idle number setting before after lines is (rests w x y) = (x, y)
of_idle number setting before after lines is (answers c r q o s w t h x y) = absurd (not_idle before.worker c is w.0)
of_idle number setting before after lines is (writes c r p w t x y) = absurd (not_idle before.worker c is w.0)
of_idle number setting before after lines is (ends c r o w t e x y) = absurd (not_idle before.worker c is w.0)
of_idle number setting before after lines is (begins c r u w g x y) = absurd (not_idle before.worker c is w.0)
of_idle number setting before after lines is (closes c w g x y) = absurd (not_idle before.worker c is w.0)
of_idle number setting before after lines is (cuts c n w g x y) = absurd (not_idle before.worker c is w.0)
of_idle number setting before after lines is (refuses c n w g x y) = absurd (not_idle before.worker c is w.0)

gives_moved : (number : ℕ) (setting : Setting) (before : Position) (c d : Connection) (r s : Open) (stand : Stand) (lines : List Line) (after : Position)
    → c ≡ d → r ≡ s → request_stand setting.natives r ≡ stand → Gives number setting before c r stand lines after
    → Gives number setting before d s (request_stand setting.natives s) lines after
gives_moved number setting before c d r s stand lines after e f is h =
    let at : request_stand setting.natives s ≡ stand = ap (request_stand setting.natives) (sym f) ∙ is in
    subst (λ (x : Stand). Gives number setting before d s x lines after) (sym at)
    (subst (λ (x : Open). Gives number setting before d x stand lines after) f
    (subst (λ (x : Connection). Gives number setting before x r stand lines after) e h))

-- which request is under way
same_serving : (w : Worker) (c d : Connection) (r s : Open) → w ≡ connected c → c.request ≡ Some r → IsServing w d s → (d ≡ c) × (s ≡ r)
same_serving w c d r s is req h =
    let same : d ≡ c = same_connection d c (sym h.0 ∙ is) in
    (same, same_open s r (sym h.1 ∙ ap (λ (x : Connection). x.request) same ∙ req))

of_open : (number : ℕ) (setting : Setting) (before after : Position) (lines : List Line) (c : Connection) (r : Open) → before.worker ≡ connected c → c.request ≡ Some r
    → Step number setting before lines after → Gives number setting before c r (request_stand setting.natives r) lines after
of_open number setting before after lines c r is req (rests w x y) = absurd (not_idle before.worker c w is)
of_open number setting before after lines c r is req (answers d s q o t w at h x y) =
    let same : (d ≡ c) × (s ≡ r) = same_serving before.worker c d r s is req w in
    gives_moved number setting before d c s r (asking q) lines after same.0 same.1 at (o, t, h, x, y)
of_open number setting before after lines c r is req (writes d s p w at x y) =
    let same : (d ≡ c) × (s ≡ r) = same_serving before.worker c d r s is req w in
    gives_moved number setting before d c s r (ready p) lines after same.0 same.1 at (x, y)
of_open number setting before after lines c r is req (ends d s o w at e x y) =
    let same : (d ≡ c) × (s ≡ r) = same_serving before.worker c d r s is req w in
    gives_moved number setting before d c s r (over o) lines after same.0 same.1 at (x, y)
of_open number setting before after lines c r is req (begins d s u w g x y) = absurd (not_between before.worker d c r w.0 w.1 is req)
of_open number setting before after lines c r is req (closes d w g x y) = absurd (not_between before.worker d c r w.0 w.1 is req)
of_open number setting before after lines c r is req (cuts d n w g x y) = absurd (not_between before.worker d c r w.0 w.1 is req)
of_open number setting before after lines c r is req (refuses d n w g x y) = absurd (not_between before.worker d c r w.0 w.1 is req)

begins_moved : (number : ℕ) (setting : Setting) (before after : Position) (lines : List Line) (c d : Connection) → d ≡ c
    → Begins number setting before d lines after → Begins number setting before c lines after
begins_moved number setting before after lines c d e h = subst (λ (x : Connection). Begins number setting before x lines after) e h

of_between : (number : ℕ) (setting : Setting) (before after : Position) (lines : List Line) (c : Connection) → before.worker ≡ connected c → c.request ≡ None
    → Step number setting before lines after → Begins number setting before c lines after
of_between number setting before after lines c is req (rests w x y) = absurd (not_idle before.worker c w is)
of_between number setting before after lines c is req (answers d s q o t w at h x y) = absurd (not_between before.worker c d s is req w.0 w.1)
of_between number setting before after lines c is req (writes d s p w at x y) = absurd (not_between before.worker c d s is req w.0 w.1)
of_between number setting before after lines c is req (ends d s o w at e x y) = absurd (not_between before.worker c d s is req w.0 w.1)
of_between number setting before after lines c is req (begins d s u w g x y) =
    begins_moved number setting before after lines c d (same_connection d c (sym w.0 ∙ is)) (Whole s u, g, (x, y))
of_between number setting before after lines c is req (closes d w g x y) =
    begins_moved number setting before after lines c d (same_connection d c (sym w.0 ∙ is)) (End, g, (x, y))
of_between number setting before after lines c is req (cuts d n w g x y) =
    begins_moved number setting before after lines c d (same_connection d c (sym w.0 ∙ is)) (Truncated n, g, (x, y))
of_between number setting before after lines c is req (refuses d n w g x y) =
    begins_moved number setting before after lines c d (same_connection d c (sym w.0 ∙ is)) (Refused n, g, (x, y))

-- ---- one step

gives_same : (number : ℕ) (setting : Setting) (before a b : Position) (c : Connection) (r : Open) (stand : Stand) (l m : List Line) → Allowed before.objects.schedule
    → Gives number setting before c r stand l a → Gives number setting before c r stand m b → SameStep l a m b
gives_same number setting before a b c r (asking question) l m ok h k =
    let one : (h.0 ≡ k.0) × (h.1 ≡ k.1) = answers_one setting r.moment question before.objects h.1 k.1 h.0 k.0 ok h.2 k.2 in (
      h.3 ∙ sym k.3,
      h.4 ∙ ap (λ (x : Answer). let p : Position = record { worker = connected (with_answer c r x); objects = h.1 } in p) one.0
          ∙ ap (λ (o : Objects). let p : Position = record { worker = connected (with_answer c r k.0); objects = o } in p) one.1 ∙ sym k.4,
    )
gives_same number setting before a b c r (ready reply) l m ok h k = (h.0 ∙ sym k.0, h.1 ∙ sym k.1)
gives_same number setting before a b c r (over outcome) l m ok h k = (h.0 ∙ sym k.0, h.1 ∙ sym k.1)

takes_same : (number : ℕ) (setting : Setting) (before a b : Position) (c : Connection) (outcome : Outcome) (l m : List Line)
    → Takes number setting before c outcome l a → Takes number setting before c outcome m b → SameStep l a m b
takes_same number setting before a b c (Whole request used) l m h k = (h.0 ∙ sym k.0, h.1 ∙ sym k.1)
takes_same number setting before a b c End l m h k = (h.0 ∙ sym k.0, h.1 ∙ sym k.1)
takes_same number setting before a b c (Truncated have) l m h k = (h.0 ∙ sym k.0, h.1 ∙ sym k.1)
takes_same number setting before a b c (Refused status) l m h k = (h.0 ∙ sym k.0, h.1 ∙ sym k.1)

begins_same : (number : ℕ) (setting : Setting) (before a b : Position) (c : Connection) (l m : List Line)
    → Begins number setting before c l a → Begins number setting before c m b → SameStep l a m b
begins_same number setting before a b c l m h k =
    let same : k.0 ≡ h.0 = gets_one c.input peer h.0 k.0 h.1 k.1 in
    takes_same number setting before a b c h.0 l m h.2 (subst (λ (o : Outcome). Takes number setting before c o m b) same k.2)

by_request : (number : ℕ) (setting : Setting) (before a b : Position) (c : Connection) (request : Option Open) (l m : List Line) → before.worker ≡ connected c → c.request ≡ request
    → Allowed before.objects.schedule → Step number setting before l a → Step number setting before m b → SameStep l a m b
by_request number setting before a b c None l m is req ok s t =
    begins_same number setting before a b c l m (of_between number setting before a l c is req s) (of_between number setting before b m c is req t)
by_request number setting before a b c (Some r) l m is req ok s t =
    gives_same number setting before a b c r (request_stand setting.natives r) l m ok
    (of_open number setting before a l c r is req s) (of_open number setting before b m c r is req t)

by_worker : (worker : Worker) (number : ℕ) (setting : Setting) (before a b : Position) (l m : List Line) → before.worker ≡ worker
    → Allowed before.objects.schedule → Step number setting before l a → Step number setting before m b → SameStep l a m b
by_worker idle number setting before a b l m is ok s t =
    let h : (l ≡ []) × (a ≡ before) = of_idle number setting before a l is s in
    let k : (m ≡ []) × (b ≡ before) = of_idle number setting before b m is t in
    (h.0 ∙ sym k.0, h.1 ∙ sym k.1)
by_worker (connected c) number setting before a b l m is ok s t = by_request number setting before a b c c.request l m is refl ok s t

pub step_one : (number : ℕ) (setting : Setting) (before a b : Position) (l m : List Line) → Allowed before.objects.schedule
    → Step number setting before l a → Step number setting before m b → SameStep l a m b
step_one number setting before a b l m ok s t = by_worker before.worker number setting before a b l m refl ok s t

-- the schedule stays an allowed one
kept : (before after : Position) → after.objects ≡ before.objects → Allowed before.objects.schedule → Allowed after.objects.schedule
kept before after same ok = subst (λ (o : Objects). Allowed o.schedule) (sym same) ok

pub step_keeps : (number : ℕ) (setting : Setting) (before after : Position) (lines : List Line) → Allowed before.objects.schedule
    → Step number setting before lines after → Allowed after.objects.schedule
step_keeps number setting before after lines ok (rests w x y) = kept before after (ap (λ (p : Position). p.objects) y) ok
step_keeps number setting before after lines ok (answers c r q o t w at h x y) =
    subst (λ (p : Position). Allowed p.objects.schedule) (sym y) (answers_keep setting r.moment q before.objects t o ok h)
step_keeps number setting before after lines ok (writes c r p w at x y) = kept before after (ap (λ (p : Position). p.objects) y) ok
step_keeps number setting before after lines ok (ends c r o w at e x y) = kept before after (ap (λ (p : Position). p.objects) y) ok
step_keeps number setting before after lines ok (begins c r u w g x y) = kept before after (ap (λ (p : Position). p.objects) y) ok
step_keeps number setting before after lines ok (closes c w g x y) = kept before after (ap (λ (p : Position). p.objects) y) ok
step_keeps number setting before after lines ok (cuts c n w g x y) = kept before after (ap (λ (p : Position). p.objects) y) ok
step_keeps number setting before after lines ok (refuses c n w g x y) = kept before after (ap (λ (p : Position). p.objects) y) ok

-- ---- steps until it is idle

both_lines : (a b c d : List Line) → a ≡ b → c ≡ d → a ++ c ≡ b ++ d
both_lines a b c d e f = cc

pub runs_one : {number : ℕ} {setting : Setting} {before a b : Position} {l m : List Line} → Allowed before.objects.schedule
    → RunsUntilIdle number setting before l a → RunsUntilIdle number setting before m b → SameStep l a m b
runs_one {number = number} {setting = setting} {before = before} {a = a} {b = b} {l = l} {m = m} ok (last s i) (last t j) = step_one number setting before a b l m ok s t
runs_one {number = number} {setting = setting} {before = before} {a = a} {l = l} ok (last s i) (more {between = n} lines others t busy r) =
    absurd (busy (ap (λ (p : Position). p.worker) (sym (step_one number setting before a n l lines ok s t).1) ∙ i))
runs_one {number = number} {setting = setting} {before = before} {b = b} {m = m} ok (more {between = n} lines others s busy r) (last t j) =
    absurd (busy (ap (λ (p : Position). p.worker) (step_one number setting before n b lines m ok s t).1 ∙ j))
runs_one {number = number} {setting = setting} {before = before} {b = b} ok (more {between = n} lines others s busy r) (more {between = o} first rest t not_idle q) =
    let one : SameStep lines n first o = step_one number setting before n o lines first ok s t in
    let next : SameStep others _ rest b = runs_one (step_keeps number setting before n lines ok s) r (subst (λ (p : Position). RunsUntilIdle number setting p rest b) (sym one.1) q) in
    (both_lines lines first others rest one.0 next.0, next.1)

pub runs_keep : {number : ℕ} {setting : Setting} {before after : Position} {lines : List Line} → Allowed before.objects.schedule
    → RunsUntilIdle number setting before lines after → Allowed after.objects.schedule
runs_keep {number = number} {setting = setting} {before = before} {after = after} {lines = lines} ok (last s i) = step_keeps number setting before after lines ok s
runs_keep {number = number} {setting = setting} {before = before} ok (more {between = n} lines others s busy r) = runs_keep (step_keeps number setting before n lines ok s) r
