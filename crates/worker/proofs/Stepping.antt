-- A session, step by step.
use Rattle.std.proofs.Common.{◌≡◌, ◌⊎◌, inl, inr, ⊎_elim, ℕ, suc, ◌+◌, ◌<◌, ◌≤◌, Bool, true, false, List, [], ◌∷◌, ◌++◌, length, take, drop, Option, None, Some, refl, sym, ap, ◌∙◌, subst, append_assoc, length-append, arith}
use Rattle.std.proofs.lemmas.List.{append-nil}
use Rattle.std.proofs.lemmas.List.Sums.{sum_by-append, sum_by-cons}
use Rattle.outside.specs.Clocks.{Dial}
use Rattle.outside.specs.Faults.{Rose}
use Rattle.outside.specs.Paging.{PageMap}
use Rattle.outside.specs.Reading.{Gives}
use Rattle.outside.specs.Writing.{Gains}
use Rattle.outside.specs.declared.sending.Sent.{Sent}
use Rattle.http_req.specs.Outcomes.{Gets, Whole, End, Truncated, Refused, ended}
use Rattle.http_req.specs.Readings.{left_of, Says, Answers, Consumes}
use Rattle.http_req.specs.declared.request.Request.{Request}
use Rattle.http_req.specs.declared.request.Got.TheVariants as got
use Rattle.shared_state.specs.Views.{BlueEntry}
use Rattle.shared_state.specs.declared.shared.Passes.{Passes}
use Rattle.serving.specs.Connections.{asks_close}
use Rattle.worker.specs.Items.{Item, bytes_of}
use Rattle.worker.specs.Clean.{Standing}
use Rattle.worker.specs.Outside.{Ticks, Reads}
use Rattle.worker.specs.Ends.{Finish, Nothing, Refuses, Wants, GoesOnBehind, EndsWith, EndsBehind, end_bytes, LeavesInput, FailsEarly}
use Rattle.worker.specs.Sessions.{At, answered_by, StaysInside, Finishes, Serves, ServesAll, Last, with_item, behind_all, IsSession}
use Rattle.worker.specs.Claims.{AreFew}
use Rattle.worker.specs.Working.{bytes_sent, IsSent, EndsInWant, EndsInRefusal, RunsItem, BeginsNone, RequestSteps, SessionSteps, end_behind}
use Rattle.worker.specs.declared.served.Served.{Served}
use Rattle.worker.specs.declared.served.End.{End as SessionEnd}
use Rattle.worker.specs.declared.served.End.TheVariants as ends
use Rattle.worker.proofs.Ending.{FollowsItem, follows_item, want_ends, Refusing, refuses, wants, refusing, gains_nothing, goes_below}

-- ---- a request

-- the sink has no part in what was done behind the items
finishes_on : (names : List (List ℕ)) (finish : Finish) (a : At) (passes : Passes) (standing : Option Standing) (clock : Option Dial) (output later : Option (List ℕ)) (faults steps : ℕ)
    → Finishes names finish a (record { passes = passes; standing = standing; clock = clock; output = output; faults = faults; steps = steps })
    → Finishes names finish a (record { passes = passes; standing = standing; clock = clock; output = later; faults = faults; steps = steps })
finishes_on names Nothing a passes standing clock output later faults steps h = h
finishes_on names (Refuses status moment) a passes standing clock output later faults steps h = h
finishes_on names (Wants moment None) a passes standing clock output later faults steps h = h
finishes_on names (Wants moment (Some look)) a passes standing clock output later faults steps h = h

-- where a look was taken, a request had been read
leaves_request : (peer : List ℕ) (end : SessionEnd) (moment : ℕ) (look : Option BlueEntry) (i j unread : Option (List ℕ)) (request : Request) → Reads peer i request j → (input : List ℕ) → i ≡ Some input → LeavesInput peer end (Wants moment look) unread input
leaves_request peer end moment None i j unread request reads input is = tt
leaves_request peer end moment (Some look) i j unread request reads input is = let r = reads input is in (request, r.0, r.2)

-- memory wanted before a run was begun
pub steps_want : (names : List (List ℕ)) (held : Option PageMap) (request : Request) (a b : At) (served : List Served) (end : SessionEnd) (moment : ℕ) (later : Option (List ℕ))
    → BeginsNone names moment a b → EndsInWant end moment b.output later
    → RequestSteps names held request a served (Some end) served (record { passes = b.passes; standing = b.standing; clock = b.clock; output = later; faults = b.faults; steps = b.steps })
steps_want names held request a b served end moment later n w =
    let e = want_ends end moment n.0 b.output later w in (
      [],
      sym (append-nil served),
      λ peer i j unread reads.
          behind_all (Wants moment n.0) refl e.0 (leaves_request peer end moment n.0 i j unread request reads)
          (finishes_on names (Wants moment n.0) a b.passes b.standing b.clock b.output later b.faults b.steps n.1)
          (subst (λ (o : Option (List ℕ)). Gains o (end_bytes end (Wants moment n.0)) later) n.2 e.1),
    )

-- nothing was done yet but a reading of the clock
pub begins_none : (names : List (List ℕ)) (moment : ℕ) (a : At) (clock : Option Dial) → Ticks a.clock moment clock
    → BeginsNone names moment a (record { passes = a.passes; standing = a.standing; clock = clock; output = a.output; faults = a.faults; steps = a.steps })
begins_none names moment a clock ticks = (None, ((refl, refl, refl, refl), ticks), refl)

-- a look that came to nothing, or one item more
reads_same : (peer : List ℕ) (i j : Option (List ℕ)) (request other : Request) → other ≡ request → Reads peer i request j → Reads peer i other j
reads_same peer i j request other is reads = subst (λ (r : Request). Reads peer i r j) (sym is) reads

item_steps : (names : List (List ℕ)) (held : Option PageMap) (request : Request) (a b : At) (served now : List Served) (x : Served) (item : Item) (result : Option SessionEnd)
    → now ≡ served ++ x ∷ [] → item.request ≡ request → Serves names held (length served) (answered_by served) item a x b → FollowsItem (length served) (answered_by served) x item result
    → RequestSteps names held request a served result now b
item_steps names held request a b served now x item None more asks serves follows = (x, item, more, asks, serves, follows)
item_steps names held request a b served now x item (Some end) more asks serves follows =
    (x ∷ [], more, λ peer i j unread reads. with_item x item j refl (reads_same peer i j request item.request asks reads) serves follows)

pub steps_item : (names : List (List ℕ)) (held : Option PageMap) (request : Request) (a b : At) (served now : List Served) (x : Served) (sent : Sent) (result : Option SessionEnd)
    → RunsItem names held (length served) (answered_by served) request sent a x b → now ≡ served ++ x ∷ []
    → result ≡ end_behind x.outcome sent (asks_close request) (length served + 1) (answered_by served + bytes_of x.answers)
    → RequestSteps names held request a served result now b
steps_item names held request a b served now x sent result r more is =
    let follows = follows_item names (length served) (answered_by served) x r.item sent r.serves.replied r.sends r.told in
    item_steps names held request a b served now x r.item result more r.asks r.serves
    (subst (λ (e : Option SessionEnd). FollowsItem (length served) (answered_by served) x r.item e)
    (sym (is ∙ ap (λ (q : Request). end_behind x.outcome sent (asks_close q) (length served + 1) (answered_by served + bytes_of x.answers)) (sym r.asks))) follows)

-- the answers that were counted
pub answered_more : (served : List Served) (x : Served) → answered_by (served ++ x ∷ []) ≡ answered_by served + bytes_of x.answers
answered_more served x = let e = sum_by-append (λ (y : Served). bytes_of y.answers) served (x ∷ []) in omega (arith, e)

pub more_by_one : (served : List Served) (x : Served) → length (served ++ x ∷ []) ≡ length served + 1
more_by_one served x = let e = length-append served (x ∷ []) in omega (arith, e)

-- a list that was given room is the same list
pub same_steps : (names : List (List ℕ)) (held : Option PageMap) (request : Request) (a b : At) (served now : List Served) (end : SessionEnd) → now ≡ served
    → RequestSteps names held request a served (Some end) served b → RequestSteps names held request a served (Some end) now b
same_steps names held request a b served now end is s = subst (λ (l : List Served). RequestSteps names held request a served (Some end) l b) (sym is) s

-- ---- one step of a session

pub reads_request : (peer : List ℕ) (i j : Option (List ℕ)) (request : Request) → Answers i peer (got.Request request) j → Reads peer i request j
reads_request peer i j request answers input is = let r = answers input is in (r.2.0, r.0, r.2.1, r.2.2, r.1)

pub steps_request : (names : List (List ℕ)) (held : Option PageMap) (peer : List ℕ) (i j unread : Option (List ℕ)) (request : Request) (a b : At) (served now : List Served) (result : Option SessionEnd)
    → Reads peer i request j → RequestSteps names held request a served result now b → SessionSteps names held peer i j unread a served result now b
steps_request names held peer i j unread request a b served now None reads s = (s.0, s.1, s.2, reads_same peer i j request s.1.request s.3 reads, s.4, s.5)
steps_request names held peer i j unread request a b served now (Some end) reads s = (s.0, s.1, s.2 peer i j unread reads)

-- it ends where nothing was done behind the items
pub steps_end : (names : List (List ℕ)) (held : Option PageMap) (peer : List ℕ) (i j unread : Option (List ℕ)) (a : At) (served : List Served) (end : SessionEnd)
    → EndsBehind end Nothing → end_bytes end Nothing ≡ [] → ((input : List ℕ) → i ≡ Some input → LeavesInput peer end Nothing unread input)
    → SessionSteps names held peer i j unread a served (Some end) served a
steps_end names held peer i j unread a served end is none leaves = (
  [],
  sym (append-nil served),
  behind_all Nothing refl is leaves ((refl, refl, refl, refl), refl)
      (subst (λ (l : List ℕ). Gains a.output l a.output) (sym none) (gains_nothing a.output)),
)

pub leaves_end : (peer : List ℕ) (i j unread : Option (List ℕ)) → Answers i peer got.End j → (input : List ℕ) → i ≡ Some input → LeavesInput peer ends.Ended Nothing unread input
leaves_end peer i j unread answers input is = (answers input is).2.0

pub leaves_truncated : (peer : List ℕ) (i j unread : Option (List ℕ)) (have : ℕ) → Answers i peer (got.Truncated have) j → (input : List ℕ) → i ≡ Some input → LeavesInput peer (ends.Truncated have) Nothing unread input
leaves_truncated peer i j unread have answers input is = (answers input is).2.0

fails_by : (peer carry carry_after : List ℕ) (rest rest_after : Option (List ℕ)) → Consumes carry rest peer got.ReadFault carry_after rest_after → Gets carry_after peer (ended carry_after)
    → (input : List ℕ) → left_of carry rest ≡ Some input → FailsEarly peer rest_after input
fails_by peer carry carry_after None rest_after c early input is = absurd (cc)
fails_by peer carry carry_after (Some rest) rest_after c early input is =
    let g = c.gives rest refl in
    let whole : carry ++ rest ≡ input = cc in
    record {
      given = carry_after;
      rest = g.0;
      tells = g.2;
      parts = sym whole ∙ (ap (λ (l : List ℕ). carry ++ l) g.1 ∙ (sym (append_assoc carry c.given g.0) ∙ ap (λ (l : List ℕ). l ++ g.0) (sym c.says)));
      early = early;
    }

pub leaves_fault : (peer carry carry_after : List ℕ) (rest rest_after : Option (List ℕ)) → Consumes carry rest peer got.ReadFault carry_after rest_after → Gets carry_after peer (ended carry_after)
    → (input : List ℕ) → left_of carry rest ≡ Some input → LeavesInput peer ends.ReadFault Nothing rest_after input
leaves_fault peer carry carry_after rest rest_after c early input is = fails_by peer carry carry_after rest rest_after c early input is

-- a refusal
pub steps_refuse : (names : List (List ℕ)) (held : Option PageMap) (peer : List ℕ) (i j unread : Option (List ℕ)) (a : At) (served : List Served) (status moment : ℕ) (end : SessionEnd) (clock : Option Dial) (output : Option (List ℕ))
    → Answers i peer (got.Refused status) j → Ticks a.clock moment clock → EndsInRefusal status moment end a.output output
    → SessionSteps names held peer i j unread a served (Some end) served (record { passes = a.passes; standing = a.standing; clock = clock; output = output; faults = a.faults; steps = a.steps })
steps_refuse names held peer i j unread a served status moment end clock output answers ticks e = (
  [],
  sym (append-nil served),
  elim (refusing status moment end a.output output e) [
    | refuses is gains ↦ behind_all (Refuses status moment) refl is (λ input told. (answers input told).2.0) ((refl, refl, refl, refl), ticks) gains
    | wants is gains ↦ behind_all (Wants moment None) refl is (λ input told. tt) ((refl, refl, refl, refl), ticks) gains
  ],
)

-- memory wanted before a request was read
pub steps_unread : (names : List (List ℕ)) (held : Option PageMap) (peer : List ℕ) (i j unread : Option (List ℕ)) (a : At) (served : List Served) (moment : ℕ) (end : SessionEnd) (clock : Option Dial) (output : Option (List ℕ))
    → Ticks a.clock moment clock → EndsInWant end moment a.output output
    → SessionSteps names held peer i j unread a served (Some end) served (record { passes = a.passes; standing = a.standing; clock = clock; output = output; faults = a.faults; steps = a.steps })
steps_unread names held peer i j unread a served moment end clock output ticks w =
    let e = want_ends end moment None a.output output w in
    ([], sym (append-nil served), behind_all (Wants moment None) refl e.0 (λ input told. tt) ((refl, refl, refl, refl), ticks) e.1)

-- ---- the session

serves_more : (names : List (List ℕ)) (held : Option PageMap) (peer : List ℕ) (i j k : Option (List ℕ)) (count answered here had : ℕ) (a m b : At) (xs : List Served) (x : Served) (item : Item)
    → here ≡ count + length xs → had ≡ answered + answered_by xs
    → ServesAll names held peer i count answered a xs j m → Reads peer j item.request k → Serves names held here had item m x b → GoesOnBehind here had x item
    → ServesAll names held peer i count answered a (xs ++ x ∷ []) k b
serves_more names held peer i j k count answered here had a m b [] x item at by s reads serves goes =
    let n : here ≡ count = omega (arith, at) in let h : had ≡ answered = omega (arith, by) in (
      item,
      k,
      b,
      subst (λ (o : Option (List ℕ)). Reads peer o item.request k) (sym s.0) reads,
      subst (λ (z : At). Serves names held count answered item z x b) (sym s.1) (subst (λ (c : ℕ). Serves names held c answered item m x b) n (subst (λ (c : ℕ). Serves names held here c item m x b) h serves)),
      subst (λ (c : ℕ). GoesOnBehind c answered x item) n (subst (λ (c : ℕ). GoesOnBehind here c x item) h goes),
      (refl, refl),
    )
serves_more names held peer i j k count answered here had a m b (y ∷ ys) x item at by s reads serves goes =
    (s.0, s.1, s.2, s.3, s.4, s.5, serves_more names held peer s.1 j k (count + 1) (answered + bytes_of y.answers) here had s.2 m b ys x item (omega (arith, at)) (let e = sum_by-cons (λ (z : Served). bytes_of z.answers) y ys in omega (arith, by, e)) s.6 reads serves goes)

-- one more was served, and it is none that ends the session by its number
pub goes_on : (names : List (List ℕ)) (held : Option PageMap) (peer : List ℕ) (i j k unread : Option (List ℕ)) (a m b : At) (xs now : List Served)
    → ServesAll names held peer i 0 0 a xs j m → SessionSteps names held peer j k unread m xs None now b → ServesAll names held peer i 0 0 a now k b
goes_on names held peer i j k unread a m b xs now s o =
    subst (λ (l : List Served). ServesAll names held peer i 0 0 a l k b) (sym o.2)
    (serves_more names held peer i j k 0 0 (length xs) (answered_by xs) a m b xs o.0 o.1 (omega arith) (omega arith) s o.3 o.4 o.5)

pub goes_few : (names : List (List ℕ)) (held : Option PageMap) (peer : List ℕ) (j k unread : Option (List ℕ)) (m b : At) (xs now : List Served) → SessionSteps names held peer j k unread m xs None now b → (length now ≡ length xs + 1) × (length now < 100)
goes_few names held peer j k unread m b xs now o =
    let n : length now ≡ length xs + 1 = ap (λ (l : List Served). length l) o.2 ∙ more_by_one xs o.0 in
    let lt = goes_below (asks_close o.1.request) (length xs + 1) (answered_by xs + bytes_of o.0.answers) o.5.1 in
    (n, omega (arith, n, lt))

-- the session ends
pub stops : (names : List (List ℕ)) (held : Option PageMap) (peer : List ℕ) (i j k unread : Option (List ℕ)) (a m b : At) (xs now : List Served) (end : SessionEnd)
    → ServesAll names held peer i 0 0 a xs j m → SessionSteps names held peer j k unread m xs (Some end) now b → IsSession names held peer i unread a end now b
stops names held peer i j k unread a m b xs now end s o = record { front = xs; tail = o.0; left = j; mid = m; parts = o.1; serves = s; last = o.2 }

few_by : (names : List (List ℕ)) (held : Option PageMap) (peer : List ℕ) (i unread : Option (List ℕ)) (count answered : ℕ) (a : At) (end : SessionEnd) (tail : List Served) (b : At) → Last names held peer i unread count answered a end tail b → length tail ≤ 1
few_by names held peer i unread count answered a end tail b (with_item x item j is reads serves with) = let n = ap (λ (l : List Served). length l) is in omega (arith, n)
few_by names held peer i unread count answered a end tail b (behind_all finish is with leaves does gains) = let n = ap (λ (l : List Served). length l) is in omega (arith, n)

pub are_few : (names : List (List ℕ)) (held : Option PageMap) (peer : List ℕ) (j k unread : Option (List ℕ)) (m b : At) (xs now : List Served) (end : SessionEnd) → length xs < 100 → SessionSteps names held peer j k unread m xs (Some end) now b → AreFew now
are_few names held peer j k unread m b xs now end lt o =
    let one = few_by names held peer j unread (length xs) (answered_by xs) m end o.0 b o.2 in
    let n = ap (λ (l : List Served). length l) o.1 ∙ length-append xs o.0 in
    omega (arith, lt, one, n)

-- what is nothing else is none
pub none_of : {A : Type 0} (o : Option A) → ((x : A) → o ≡ Some x → ⊥) → o ≡ None
none_of None not = refl
none_of (Some x) not = absurd (not x refl)
