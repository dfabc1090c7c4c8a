-- A step has one reply and one state after it.
use Rattle.std.proofs.Common.{◌≡◌, ◌≢◌, ◌⊎◌, ◌↔◌, ℕ, ◌+◌, ◌<◌, Bool, true, false, map, refl, sym, ap, ◌∙◌, subst, inl, inr, ⊎_elim}
use Rattle.std.specs.List.{Contains, filter}
use Rattle.sched_core.specs.declared.call.SchedCall.TheVariants.{Add, Cancel, Due, Stop}
use Rattle.sched_core.specs.declared.call.SchedReply.{SchedReply}
use Rattle.sched_core.specs.declared.call.SchedReply.TheVariants as replies
use Rattle.sched_core.specs.Entries.{Entry, State, due_of, id_of}
use Rattle.sched_core.specs.Due.{is_due, listed, IsMoved, IsAfterDue}
use Rattle.sched_core.specs.Allowed.{Allowed}
use Rattle.sched_core.specs.Steps.{IsFull, Adds, Cancels, Runs, Stops, entry_of, StepsAreDetermined}
use Rattle.txt_core.specs.Limits.{moment_of}
use Rattle.sched_core.proofs.Keys.{same_entries}

same_state : (t u : State) → t.next ≡ u.next → t.entries ≡ u.entries → t.stopped ≡ u.stopped → t ≡ u
same_state t u a b c = λ i. record { next = a i; entries = b i; stopped = c i }

-- allowed states whose entries are those of which one thing holds
same_by : (P : Entry → Type 0) (t u : State) → Allowed t → Allowed u → ((e : Entry) → Contains t.entries e ↔ P e) → ((e : Entry) → Contains u.entries e ↔ P e) → t.entries ≡ u.entries
same_by P t u a b f g =
    same_entries t.entries u.entries a.in_order b.in_order (λ e. (λ i. (g e).1 ((f e).0 i), λ i. (f e).1 ((g e).0 i)))

record Added (s : State) (made : ℕ → Entry) (r : SchedReply) (t : State) : Type 0 where
  id : r ≡ replies.Id s.next
  next : t.next ≡ s.next + 1
  stopped : t.stopped ≡ s.stopped
  both : (e : Entry) → Contains t.entries e ↔ (Contains s.entries e ⊎ (e ≡ made s.next))
  room : IsFull s → ⊥

adds : (s : State) (made : ℕ → Entry) (r : SchedReply) (t : State) → Adds s made r t → r ≢ replies.NoMemory → Added s made r t ⊎ ((r ≡ replies.Full) × IsFull s × (t ≡ s))
adds s made (replies.Id a) t x n = inl (record {
  id = ap replies.Id x.1;
  next = x.2;
  stopped = x.3;
  both = subst (λ (k : ℕ). (e : Entry) → Contains t.entries e ↔ (Contains s.entries e ⊎ (e ≡ made k))) x.1 x.4;
  room = x.0;
})
adds s made replies.Full t x n = inr (refl, x.0, x.1)
adds s made replies.NoMemory t x n = absurd (n refl)
adds s made replies.NoId t x n = absurd x
adds s made replies.Cancelled t x n = absurd x
adds s made (replies.Due list) t x n = absurd x
adds s made replies.Stopped t x n = absurd x

one_add : (s t u : State) (made : ℕ → Entry) (r o : SchedReply) → Allowed t → Allowed u → Adds s made r t → Adds s made o u → r ≢ replies.NoMemory → o ≢ replies.NoMemory → (r ≡ o) × (t ≡ u)
one_add s t u made r o a b x y n m = ⊎_elim
    (λ (p : Added s made r t). ⊎_elim
    (λ (q : Added s made o u). (p.id ∙ sym q.id, same_state t u (p.next ∙ sym q.next) (same_by (λ e. Contains s.entries e ⊎ (e ≡ made s.next)) t u a b p.both q.both) (p.stopped ∙ sym q.stopped)))
    (λ (q : (o ≡ replies.Full) × IsFull s × (u ≡ s)). absurd (p.room q.1)) (adds s made o u y m))
    (λ (p : (r ≡ replies.Full) × IsFull s × (t ≡ s)). ⊎_elim
    (λ (q : Added s made o u). absurd (q.room p.1))
    (λ (q : (o ≡ replies.Full) × IsFull s × (u ≡ s)). (p.0 ∙ sym q.0, p.2 ∙ sym q.2)) (adds s made o u y m)) (adds s made r t x n)

record Out (s : State) (id : ℕ) (r : SchedReply) (t : State) : Type 0 where
  says : r ≡ replies.Cancelled
  was : (e : Entry) × Contains s.entries e × (id_of e ≡ id)
  next : t.next ≡ s.next
  stopped : t.stopped ≡ s.stopped
  both : (e : Entry) → Contains t.entries e ↔ (Contains s.entries e × (id_of e ≢ id))

cancels : (s : State) (id : ℕ) (r : SchedReply) (t : State) → Cancels s id r t → Out s id r t ⊎ ((r ≡ replies.NoId) × ((e : Entry) → Contains s.entries e → id_of e ≢ id) × (t ≡ s))
cancels s id replies.Cancelled t x = inl (record { says = refl; was = x.0; next = x.1; stopped = x.2; both = x.3 })
cancels s id replies.NoId t x = inr (refl, x.0, x.1)
cancels s id (replies.Id a) t x = absurd x
cancels s id replies.Full t x = absurd x
cancels s id replies.NoMemory t x = absurd x
cancels s id (replies.Due list) t x = absurd x
cancels s id replies.Stopped t x = absurd x

one_cancel : (s t u : State) (id : ℕ) (r o : SchedReply) → Allowed t → Allowed u → Cancels s id r t → Cancels s id o u → (r ≡ o) × (t ≡ u)
one_cancel s t u id r o a b x y = ⊎_elim
    (λ (p : Out s id r t). ⊎_elim
    (λ (q : Out s id o u). (p.says ∙ sym q.says, same_state t u (p.next ∙ sym q.next) (same_by (λ e. Contains s.entries e × (id_of e ≢ id)) t u a b p.both q.both) (p.stopped ∙ sym q.stopped)))
    (λ (q : (o ≡ replies.NoId) × ((e : Entry) → Contains s.entries e → id_of e ≢ id) × (u ≡ s)). absurd (q.1 p.was.0 p.was.1 p.was.2)) (cancels s id o u y))
    (λ (p : (r ≡ replies.NoId) × ((e : Entry) → Contains s.entries e → id_of e ≢ id) × (t ≡ s)). ⊎_elim
    (λ (q : Out s id o u). absurd (p.1 q.was.0 q.was.1 q.was.2))
    (λ (q : (o ≡ replies.NoId) × ((e : Entry) → Contains s.entries e → id_of e ≢ id) × (u ≡ s)). (p.0 ∙ sym q.0, p.2 ∙ sym q.2)) (cancels s id o u y)) (cancels s id r t x)

record Listed (s : State) (now : ℕ) (r : SchedReply) (t : State) : Type 0 where
  says : r ≡ replies.Due (map listed (filter (is_due now) s.entries))
  runs : s.stopped ≡ false
  next : t.next ≡ s.next
  stopped : t.stopped ≡ s.stopped
  both : IsAfterDue now s.entries t.entries

runs : (s : State) (now : ℕ) (r : SchedReply) (t : State) → Runs s now r t → r ≢ replies.NoMemory → Listed s now r t ⊎ ((r ≡ replies.Stopped) × (s.stopped ≡ true) × (t ≡ s))
runs s now (replies.Due list) t x n = inl (record { says = ap replies.Due x.1; runs = x.0; next = x.2; stopped = x.3; both = x.4 })
runs s now replies.Stopped t x n = inr (refl, x.0, x.1)
runs s now replies.NoMemory t x n = absurd (n refl)
runs s now replies.Cancelled t x n = absurd x
runs s now replies.NoId t x n = absurd x
runs s now (replies.Id a) t x n = absurd x
runs s now replies.Full t x n = absurd x

one_run : (s t u : State) (now : ℕ) (r o : SchedReply) → Allowed t → Allowed u → Runs s now r t → Runs s now o u → r ≢ replies.NoMemory → o ≢ replies.NoMemory → (r ≡ o) × (t ≡ u)
one_run s t u now r o a b x y n m = ⊎_elim
    (λ (p : Listed s now r t). ⊎_elim
    (λ (q : Listed s now o u). (p.says ∙ sym q.says, same_state t u (p.next ∙ sym q.next) (same_by (λ e. (Contains s.entries e × (now < due_of e)) ⊎ IsMoved now s.entries e) t u a b p.both q.both) (p.stopped ∙ sym q.stopped)))
    (λ (q : (o ≡ replies.Stopped) × (s.stopped ≡ true) × (u ≡ s)). let c : Path Bool true false = sym q.1 ∙ p.runs in cc) (runs s now o u y m))
    (λ (p : (r ≡ replies.Stopped) × (s.stopped ≡ true) × (t ≡ s)). ⊎_elim
    (λ (q : Listed s now o u). let c : Path Bool true false = sym p.1 ∙ q.runs in cc)
    (λ (q : (o ≡ replies.Stopped) × (s.stopped ≡ true) × (u ≡ s)). (p.0 ∙ sym q.0, p.2 ∙ sym q.2)) (runs s now o u y m)) (runs s now r t x n)

stops : (s : State) (r : SchedReply) (t : State) → Stops s r t → (r ≡ replies.Stopped) × (t.next ≡ s.next) × (t.entries ≡ s.entries) × (t.stopped ≡ true)
stops s replies.Stopped t x = (refl, x.0, x.1, x.2)
stops s (replies.Due list) t x = absurd x
stops s replies.NoMemory t x = absurd x
stops s replies.Cancelled t x = absurd x
stops s replies.NoId t x = absurd x
stops s (replies.Id a) t x = absurd x
stops s replies.Full t x = absurd x

pub determined : StepsAreDetermined
determined s t u (Add moment seconds once script) r o before a b x y n m = one_add s t u (λ id. entry_of id moment seconds once script) r o a b x y n m
determined s t u (Cancel id) r o before a b x y n m = one_cancel s t u id r o a b x y
determined s t u (Due now) r o before a b x y n m = one_run s t u (moment_of now) r o a b x y n m
determined s t u Stop r o before a b x y n m =
    let p = stops s r t x in let q = stops s o u y in
    (p.0 ∙ sym q.0, same_state t u (p.1 ∙ sym q.1) (p.2 ∙ sym q.2) (p.3 ∙ sym q.3))
