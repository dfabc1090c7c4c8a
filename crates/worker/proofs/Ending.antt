-- How a session ends, and how it goes on, behind a request.
use Rattle.std.proofs.Common.{◌≡◌, ◌≢◌, ◌⊎◌, inl, inr, ⊎_elim, ℕ, ◌+◌, ◌<◌, ◌≤◌, Bool, true, false, cond, ◌||◌, List, [], ◌∷◌, ◌++◌, length, take, drop, Option, None, Some, refl, sym, ap, ◌∙◌, subst, arith}
use Rattle.std.specs.Prelude.{nat_le}
use Rattle.std.proofs.lemmas.List.{append-nil}
use Rattle.std.proofs.lemmas.Bool.{leb-false}
use Rattle.outside.specs.Faults.{Rose}
use Rattle.outside.specs.Writing.{Gains}
use Rattle.outside.specs.declared.sending.Sent.{Sent}
use Rattle.outside.specs.declared.sending.Sent.TheVariants as sending
use Rattle.http_resp.specs.Replies.{no_memory_bytes}
use Rattle.outside.specs.declared.question.Answer.{Answer}
use Rattle.http_req.specs.declared.request.Request.{Request}
use Rattle.blueprint.specs.States as blueprints
use Rattle.tcl_eval.specs.declared.outcome.Outcome.{Outcome}
use Rattle.tcl_eval.specs.declared.outcome.Outcome.TheVariants as outcomes
use Rattle.ictl.specs.Falls.{IsEnd}
use Rattle.shared_state.specs.Views.{BlueEntry}
use Rattle.serving.specs.Connections.{asks_close, is_spent, most_answered, after_request}
use Rattle.serving.specs.declared.connection.Behind.{Behind}
use Rattle.serving.specs.declared.connection.Behind.TheVariants as connection
use Rattle.worker.specs.Runs.{Course, Finished, CutShort, WantsBefore, WantsBehind, served_outcome}
use Rattle.worker.specs.Items.{Item, bytes_of, ComesTo, Replied}
use Rattle.worker.specs.Ends.{Finish, Nothing, Refuses, Wants, behind_item, GoesOnBehind, EndsWith, EndsBehind, end_bytes, refusal_bytes}
use Rattle.worker.specs.Claims.{Causes}
use Rattle.worker.specs.Working.{bytes_sent, IsSent, end_by, end_whole, end_behind, SendsReply, EndsInWant, EndsInRefusal, SinkCauses, StepCauses, SentCauses}
use Rattle.worker.specs.declared.served.Served.{Served}
use Rattle.worker.specs.declared.served.ServedOutcome.{ServedOutcome}
use Rattle.worker.specs.declared.served.ServedOutcome.TheVariants as ways
use Rattle.worker.specs.declared.served.End.{End as SessionEnd}
use Rattle.worker.specs.declared.served.End.TheVariants as ends

-- ---- the outcome of an item goes with its course

not_wanting : (outcome : Outcome) → IsEnd outcome → served_outcome outcome ≡ ways.NoMemory → ⊥
not_wanting (outcomes.Done code result) end is = cc
not_wanting (outcomes.Asks question) end is = end
not_wanting outcomes.Spent end is = cc
not_wanting outcomes.TooDeep end is = cc
not_wanting outcomes.NoMemory end is = end

abbrev pub WayFits : Course → ServedOutcome → Type 0
WayFits Finished way = way ≡ ways.NoMemory → ⊥
WayFits CutShort way = Unit {0}
WayFits WantsBefore way = way ≡ ways.NoMemory
WayFits WantsBehind way = way ≡ ways.NoMemory

pub way_fits : (names : List (List ℕ)) (course : Course) (number answered : ℕ) (request : Request) (blueprint : blueprints.State) (moment : ℕ) (answers : List Answer) (close : Bool) (reply : List ℕ) (way : ServedOutcome)
    → ComesTo names course number answered request blueprint moment answers close reply way → WayFits course way
way_fits names Finished number answered request blueprint moment answers close reply way c = λ is. not_wanting c.2.outcome c.2.is_end (sym c.2.way_is ∙ is)
way_fits names CutShort number answered request blueprint moment answers close reply way c = tt
way_fits names WantsBefore number answered request blueprint moment answers close reply way c = c.2
way_fits names WantsBehind number answered request blueprint moment answers close reply way c = c.3

-- ---- what follows an item

abbrev pub FollowsItem : (count answered : ℕ) → Served → Item → Option SessionEnd → Type 0
FollowsItem count answered x item None = GoesOnBehind count answered x item
FollowsItem count answered x item (Some end) = EndsWith end count answered x item

follows_by : (count answered : ℕ) (x : Served) (item : Item) (behind : Behind) → item.course ≡ Finished → behind_item count answered x item ≡ behind → FollowsItem count answered x item (end_by behind)
follows_by count answered x item connection.GoesOn course is = (course, is)
follows_by count answered x item connection.Closing course is = (course, is)
follows_by count answered x item connection.Spent course is = (course, is)

follows_whole : (count answered : ℕ) (x : Served) (item : Item) (way : ServedOutcome) → item.course ≡ Finished → WayFits Finished way → FollowsItem count answered x item (end_whole way (behind_item count answered x item))
follows_whole count answered x item ways.NoMemory course fits = absurd (fits refl)
follows_whole count answered x item ways.Answered course fits = follows_by count answered x item (behind_item count answered x item) course refl
follows_whole count answered x item ways.Spent course fits = follows_by count answered x item (behind_item count answered x item) course refl
follows_whole count answered x item ways.TooDeep course fits = follows_by count answered x item (behind_item count answered x item) course refl

-- memory wanted, before the response or behind it
wants_whole : (count answered : ℕ) (x : Served) (item : Item) (way : ServedOutcome) (behind : Behind) → way ≡ ways.NoMemory → x.wrote ≡ length item.reply → ((item.course ≡ WantsBefore) ⊎ (item.course ≡ WantsBehind)) → FollowsItem count answered x item (end_whole way behind)
wants_whole count answered x item way behind is wrote course = subst (λ (w : ServedOutcome). FollowsItem count answered x item (end_whole w behind)) (sym is) (wrote, course)

cut_with : (count answered : ℕ) (x : Served) (item : Item) (bytes : ℕ) → x.wrote ≡ bytes → bytes < length item.reply → ((item.course ≡ CutShort) ⊎ (item.course ≡ WantsBefore)) → EndsWith (ends.WriteFault bytes) count answered x item
cut_with count answered x item bytes is lt course = (sym is, subst (λ (n : ℕ). n < length item.reply) (sym is) lt, course)

ends_by : (count answered : ℕ) (x : Served) (item : Item) (course : Course) (sent : Sent) (way : ServedOutcome) → item.course ≡ course → WayFits course way → IsSent course sent (length item.reply) → x.wrote ≡ bytes_sent sent
    → FollowsItem count answered x item (end_behind way sent (asks_close item.request) (count + 1) (answered + bytes_of x.answers))
ends_by count answered x item Finished (sending.Whole bytes) way course fits sent wrote = follows_whole count answered x item way course fits
ends_by count answered x item Finished (sending.WriteFault bytes) way course fits sent wrote = absurd sent
ends_by count answered x item CutShort (sending.Whole bytes) way course fits sent wrote = absurd sent
ends_by count answered x item CutShort (sending.WriteFault bytes) way course fits sent wrote = cut_with count answered x item bytes wrote sent (inl course)
ends_by count answered x item WantsBefore (sending.Whole bytes) way course fits sent wrote = wants_whole count answered x item way (behind_item count answered x item) fits (wrote ∙ sent) (inl course)
ends_by count answered x item WantsBefore (sending.WriteFault bytes) way course fits sent wrote = cut_with count answered x item bytes wrote sent (inr course)
ends_by count answered x item WantsBehind (sending.Whole bytes) way course fits sent wrote = wants_whole count answered x item way (behind_item count answered x item) fits (wrote ∙ sent) (inr course)
ends_by count answered x item WantsBehind (sending.WriteFault bytes) way course fits sent wrote = absurd sent

-- what a session does behind an item that was sent so
pub follows_item : (names : List (List ℕ)) (count answered : ℕ) (x : Served) (item : Item) (sent : Sent) → Replied names count answered x item → IsSent item.course sent (length item.reply) → x.wrote ≡ bytes_sent sent
    → FollowsItem count answered x item (end_behind x.outcome sent (asks_close item.request) (count + 1) (answered + bytes_of x.answers))
follows_item names count answered x item sent r is wrote =
    ends_by count answered x item item.course sent x.outcome refl (way_fits names item.course (count + 1) answered item.request item.look.before x.moment x.answers item.close item.reply x.outcome r.comes) is wrote

-- the hundredth request ends a session
spent_step : (b c : Bool) → cond (b || c) connection.Spent connection.GoesOn ≡ connection.GoesOn → b ≡ false
spent_step true c is = absurd (cc)
spent_step false c is = refl

open_step : (asks : Bool) (requests bytes : ℕ) → after_request asks requests bytes ≡ connection.GoesOn → nat_le 100 requests ≡ false
open_step true requests bytes is = absurd (cc)
open_step false requests bytes is = spent_step (nat_le 100 requests) _ is

pub goes_below : (asks : Bool) (requests bytes : ℕ) → after_request asks requests bytes ≡ connection.GoesOn → requests < 100
goes_below asks requests bytes is = leb-false 100 requests (open_step asks requests bytes is)

-- ---- behind all items

-- the named reply ends a session that it wrote
pub want_ends : (end : SessionEnd) (moment : ℕ) (look : Option BlueEntry) (a b : Option (List ℕ)) → EndsInWant end moment a b → EndsBehind end (Wants moment look) × Gains a (end_bytes end (Wants moment look)) b
want_ends ends.NoMemory moment look a b w = ((moment, look, refl), w)
want_ends (ends.WriteFault sent) moment look a b w = (w.0, w.1)
want_ends ends.Ended moment look a b w = absurd w
want_ends ends.Closing moment look a b w = absurd w
want_ends (ends.Truncated have) moment look a b w = absurd w
want_ends (ends.Refused status) moment look a b w = absurd w
want_ends ends.Spent moment look a b w = absurd w
want_ends ends.ReadFault moment look a b w = absurd w

-- what a refusal came to, and what was written
pub data Refusing (status moment : ℕ) (end : SessionEnd) (a b : Option (List ℕ)) : Type 0 where
  refuses : EndsBehind end (Refuses status moment) → Gains a (end_bytes end (Refuses status moment)) b → Refusing status moment end a b
  wants : EndsBehind end (Wants moment None) → Gains a (end_bytes end (Wants moment None)) b → Refusing status moment end a b

refused_as : (status told moment : ℕ) (a b : Option (List ℕ)) → told ≡ status → Gains a (refusal_bytes status moment) b → Refusing status moment (ends.Refused told) a b
refused_as status told moment a b is g = refuses (moment, ap (λ (n : ℕ). Refuses n moment) (sym is)) g

pub refusing : (status moment : ℕ) (end : SessionEnd) (a b : Option (List ℕ)) → EndsInRefusal status moment end a b → Refusing status moment end a b
refusing status moment (ends.Refused told) a b e = refused_as status told moment a b e.0 e.1
refusing status moment ends.NoMemory a b e = wants (moment, None, refl) e
refusing status moment (ends.WriteFault sent) a b e = ⊎_elim
    (λ (r : SendsReply (sending.WriteFault sent) (refusal_bytes status moment) a b). refuses r.0 r.1)
    (λ (w : SendsReply (sending.WriteFault sent) (no_memory_bytes moment) a b). wants w.0 w.1) e
refusing status moment ends.Ended a b e = absurd e
refusing status moment ends.Closing a b e = absurd e
refusing status moment (ends.Truncated have) a b e = absurd e
refusing status moment ends.Spent a b e = absurd e
refusing status moment ends.ReadFault a b e = absurd e

pub gains_nothing : (a : Option (List ℕ)) → Gains a [] a
gains_nothing a = λ taken is. is ∙ ap (λ (l : List ℕ). Some l) (sym (append-nil taken))

-- ---- causes

pub step_causes : (result : Option SessionEnd) (f g h k : ℕ) → f ≤ g → SinkCauses result h k → StepCauses result f g h k
step_causes None f g h k le c = (le, c)
step_causes (Some ends.Ended) f g h k le c = (le, c)
step_causes (Some ends.Closing) f g h k le c = (le, c)
step_causes (Some (ends.Truncated have)) f g h k le c = (le, c)
step_causes (Some (ends.Refused status)) f g h k le c = (le, c)
step_causes (Some ends.Spent) f g h k le c = (le, c)
step_causes (Some ends.ReadFault) f g h k le c = absurd c
step_causes (Some (ends.WriteFault sent)) f g h k le c = (le, c.0, c.1)
step_causes (Some ends.NoMemory) f g h k le c = (le, c)

rose_later : (a b c : ℕ) → a ≤ b → Rose b c → Rose a c
rose_later a b c le (inl lt) = inl (omega (arith, le, lt))
rose_later a b c le (inr is) = inr is

-- what was caused in the last step was caused in the session
pub causes_on : (end : SessionEnd) (f g m h k n : ℕ) → f ≤ g → h ≤ k → Causes end g m k n → Causes end f m h n
causes_on ends.Ended f g m h k n a b c = (omega (arith, a, c.0), omega (arith, b, c.1))
causes_on ends.Closing f g m h k n a b c = (omega (arith, a, c.0), omega (arith, b, c.1))
causes_on (ends.Truncated have) f g m h k n a b c = (omega (arith, a, c.0), omega (arith, b, c.1))
causes_on (ends.Refused status) f g m h k n a b c = (omega (arith, a, c.0), omega (arith, b, c.1))
causes_on ends.Spent f g m h k n a b c = (omega (arith, a, c.0), omega (arith, b, c.1))
causes_on ends.ReadFault f g m h k n a b c = (omega (arith, a, c.0), omega (arith, b, c.1), rose_later f g m a c.2)
causes_on (ends.WriteFault sent) f g m h k n a b c = (omega (arith, a, c.0), omega (arith, b, c.1), rose_later h k n b c.2)
causes_on ends.NoMemory f g m h k n a b c = (omega (arith, a, c.0), omega (arith, b, c.1))

-- the named reply in the place of a refusal's
pub want_refuses : (status moment : ℕ) (end : SessionEnd) (a b : Option (List ℕ)) → EndsInWant end moment a b → EndsInRefusal status moment end a b
want_refuses status moment ends.NoMemory a b w = w
want_refuses status moment (ends.WriteFault sent) a b w = inr w
want_refuses status moment ends.Ended a b w = absurd w
want_refuses status moment ends.Closing a b w = absurd w
want_refuses status moment (ends.Truncated have) a b w = absurd w
want_refuses status moment (ends.Refused told) a b w = absurd w
want_refuses status moment ends.Spent a b w = absurd w
want_refuses status moment ends.ReadFault a b w = absurd w

-- ---- the sink behind an item

sink_by : (behind : Behind) (h k : ℕ) → h ≤ k → SinkCauses (end_by behind) h k
sink_by connection.GoesOn h k le = le
sink_by connection.Closing h k le = le
sink_by connection.Spent h k le = le

sink_whole : (way : ServedOutcome) (behind : Behind) (h k : ℕ) → h ≤ k → SinkCauses (end_whole way behind) h k
sink_whole ways.NoMemory behind h k le = le
sink_whole ways.Answered behind h k le = sink_by behind h k le
sink_whole ways.Spent behind h k le = sink_by behind h k le
sink_whole ways.TooDeep behind h k le = sink_by behind h k le

pub sink_causes : (way : ServedOutcome) (sent : Sent) (asks : Bool) (requests answered h k : ℕ) → SentCauses sent h k → SinkCauses (end_behind way sent asks requests answered) h k
sink_causes way (sending.Whole bytes) asks requests answered h k c = sink_whole way (after_request asks requests answered) h k c
sink_causes way (sending.WriteFault bytes) asks requests answered h k c = c
