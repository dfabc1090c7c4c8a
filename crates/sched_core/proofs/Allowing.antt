-- Each call leaves an allowed schedule.
use Rattle.std.proofs.Common.{◌≡◌, ◌≢◌, ◌⊎◌, ◌↔◌, ℕ, ◌+◌, ◌<◌, ◌≤◌, Bool, true, false, cond, nat_eq, List, [], ◌∷◌, length, map, refl, sym, ap, ◌∙◌, subst, ⊎_elim, arith}
use Rattle.std.specs.List.{Contains, AllByRecursion, IsDistinct}
use Rattle.std.specs.Set.{is_member}
use Rattle.std.proofs.lemmas.Bool.{ne_eqb, eqb-true, eq-eqb, or_cases, or_left, or_right}
use Rattle.std.proofs.lemmas.Cmp.{nat_eq_equiv}
use Rattle.std.proofs.lemmas.List.{length-map}
use Rattle.std.proofs.lemmas.Map.Keys.{IsDistinct-from_apart, IsDistinct-cons}
use Rattle.std.proofs.lemmas.Map.Made.{length-le_from_is_member}
use Rattle.sched_core.specs.declared.plan.Plan.{Plan}
use Rattle.sched_core.specs.Entries.{Entry, State, due_of, id_of, AreInOrder, most_entries}
use Rattle.sched_core.specs.Due.{IsMoved, IsAfterDue}
use Rattle.sched_core.specs.Allowed.{Allowed, HaveOwnIds}
use Rattle.sched_core.proofs.Keys.{Apart, apart}
use Rattle.sched_core.proofs.Members.{nothing, here, there, first_or}

abbrev ids : List Entry → List ℕ
ids es = map id_of es

others : (n : ℕ) (es : List Entry) → ((f : Entry) → Contains es f → n ≢ id_of f) → AllByRecursion (λ y. nat_eq n y ≡ false) (ids es)
others n [] h = tt
others n (x ∷ xs) h = (ne_eqb n (id_of x) (h x (here x xs)), others n xs (λ f i. h f (there x xs f i)))

distinct_ids : (es : List Entry) → Apart es → IsDistinct nat_eq (ids es)
distinct_ids [] a = IsDistinct-from_apart nat_eq [] (λ i j d l m. absurd (omega arith))
distinct_ids (e ∷ es) a = IsDistinct-cons nat_eq (id_of e) (ids es) (others (id_of e) es a.0) (distinct_ids es a.1)

id_entry : (es : List Entry) (q : ℕ) → is_member nat_eq (ids es) q ≡ true → (e : Entry) × Contains es e × (q ≡ id_of e)
id_entry [] q h = let x : Path Bool false true = h in cc
id_entry (x ∷ xs) q h = ⊎_elim
    (λ (t : nat_eq q (id_of x) ≡ true). (x, here x xs, eqb-true q (id_of x) t))
    (λ (t : is_member nat_eq (ids xs) q ≡ true). let r = id_entry xs q t in (r.0, there x xs r.0 r.1, r.2)) (or_cases (nat_eq q (id_of x)) (is_member nat_eq (ids xs) q) h)

entry_id : (es : List Entry) (q : ℕ) (e : Entry) → Contains es e → q ≡ id_of e → is_member nat_eq (ids es) q ≡ true
entry_id [] q e i at = absurd (nothing e i)
entry_id (x ∷ xs) q e i at = ⊎_elim
    (λ (is : x ≡ e). or_left (nat_eq q (id_of x)) (is_member nat_eq (ids xs) q) (eq-eqb q (id_of x) (at ∙ ap id_of (sym is))))
    (λ (j : Contains xs e). or_right (nat_eq q (id_of x)) (is_member nat_eq (ids xs) q) (entry_id xs q e j at)) (first_or x xs e i)

-- entries with ids of their own, which are all ids of others, are no more than these
no_more : (es fs : List Entry) → AreInOrder es → HaveOwnIds es → ((e : Entry) → Contains es e → (f : Entry) × Contains fs f × (id_of e ≡ id_of f)) → length es ≤ length fs
no_more es fs s own from =
    let h : length (ids es) ≤ length (ids fs) = length-le_from_is_member nat_eq_equiv (ids es) (ids fs) (distinct_ids es (apart es s own))
    (λ q t. let r = id_entry es q t in let f = from r.0 r.1 in entry_id fs q f.0 f.1 (r.2 ∙ f.2)) in
    let a = length-map es id_of in let b = length-map fs id_of in omega (arith, h, a, b)

-- what an entry afterwards comes from
came_from : (now : ℕ) (es fs : List Entry) → IsAfterDue now es fs → (e : Entry) → Contains fs e
    → (f : Entry) × Contains es f × (id_of e ≡ id_of f)
came_from now es fs after e i = ⊎_elim
    (λ (stays : Contains es e × (now < due_of e)). (e, stays.0, refl))
    (λ (m : IsMoved now es e). (m.before, m.was, m.same.0)) ((after e).0 i)

-- an entry that is there afterwards is determined by the one that it comes from
pub after_own : (now : ℕ) (es fs : List Entry) → HaveOwnIds es → IsAfterDue now es fs → HaveOwnIds fs
after_own now es fs own after e f i j same = ⊎_elim
    (λ (a : Contains es e × (now < due_of e)). ⊎_elim
    (λ (b : Contains es f × (now < due_of f)). own e f a.0 b.0 same)
    (λ (n : IsMoved now es f).
    let is : e ≡ n.before = own e n.before a.0 n.was (same ∙ n.same.0) in
    let at = ap due_of is in let due = n.due in let lt = a.1 in absurd (omega arith)) ((after f).0 j))
    (λ (m : IsMoved now es e). ⊎_elim
    (λ (b : Contains es f × (now < due_of f)).
    let is : f ≡ m.before = own f m.before b.0 m.was (sym same ∙ m.same.0) in
    let at = ap due_of is in let due = m.due in let lt = b.1 in absurd (omega arith))
    (λ (n : IsMoved now es f).
    let is : m.before ≡ n.before = own m.before n.before m.was n.was (sym m.same.0 ∙ (same ∙ n.same.0)) in
    let does : e.1 ≡ f.1 = m.same.1 ∙ (ap (λ (y : Entry). y.1) is ∙ sym n.same.1) in
    let next = subst (λ (y : Entry). Rattle.sched_core.specs.Due.IsNext now (due_of y) y.1.seconds (due_of e)) is m.next in
    let due : due_of e ≡ due_of f = Rattle.sched_core.proofs.Next.one_next now (due_of n.before) n.before.1.seconds (due_of e) (due_of f) next n.next in
    λ k. ((due k, same k), does k)) ((after f).0 j)) ((after e).0 i)

pub allowed_due : (now next : ℕ) (stopped again : Bool) (es fs : List Entry) → now ≤ 253402300799 → Allowed (record { next = next; entries = es; stopped = stopped }) → AreInOrder fs → IsAfterDue now es fs
    → Allowed (record { next = next; entries = fs; stopped = again })
allowed_due now next stopped again es fs le a s after =
    let own : HaveOwnIds fs = after_own now es fs a.own_ids after in
    record {
      few = let few = a.few in let more = no_more fs es s own (λ e i. let r = came_from now es fs after e i in (r.0, r.1, r.2)) in omega (arith, few, more);
      in_order = s;
      sound = λ e i. ⊎_elim
          (λ (b : Contains es e × (now < due_of e)). a.sound e b.0)
          (λ (m : IsMoved now es e).
          let was = a.sound m.before m.was in
          let seconds : e.1.seconds ≡ m.before.1.seconds = ap (λ (p : Plan). p.seconds) m.same.1 in
          let low = was.0 in let high = was.1 in
          let least = Rattle.sched_core.proofs.Next.at_most now (due_of m.before) m.before.1.seconds (due_of e) m.due low m.next in
          (omega arith, omega arith, omega arith)) ((after e).0 i);
      own_ids = own;
      given = λ e i. let r = came_from now es fs after e i in let g = a.given r.0 r.1 in let same = r.2 in omega arith;
    }

pub allowed_add : (next : ℕ) (stopped : Bool) (es fs : List Entry) (x : Entry) → Allowed (record { next = next; entries = es; stopped = stopped }) → AreInOrder fs → length fs ≤ most_entries
    → id_of x ≡ next → (1 ≤ x.1.seconds) × (x.1.seconds ≤ 31536000) × (due_of x ≤ 253433836799) → ((e : Entry) → Contains fs e ↔ (Contains es e ⊎ (e ≡ x)))
    → Allowed (record { next = next + 1; entries = fs; stopped = stopped })
allowed_add next stopped es fs x a s few id good both = record {
  few = few;
  in_order = s;
  sound = λ e i. ⊎_elim (λ (j : Contains es e). a.sound e j) (λ (is : e ≡ x). subst (λ (y : Entry). (1 ≤ y.1.seconds) × (y.1.seconds ≤ 31536000) × (due_of y ≤ 253433836799)) (sym is) good) ((both e).0 i);
  own_ids = λ e f i j same. ⊎_elim
      (λ (k : Contains es e). ⊎_elim (λ (l : Contains es f). a.own_ids e f k l same) (λ (is : f ≡ x). let g = a.given e k in let h = ap id_of is in absurd (omega arith)) ((both f).0 j))
      (λ (is : e ≡ x). ⊎_elim (λ (l : Contains es f). let g = a.given f l in let h = ap id_of is in absurd (omega arith)) (λ (at : f ≡ x). is ∙ sym at) ((both f).0 j)) ((both e).0 i);
  given = λ e i. ⊎_elim (λ (j : Contains es e). let g = a.given e j in omega arith) (λ (is : e ≡ x). let h = ap id_of is in omega arith) ((both e).0 i);
}

pub allowed_cancel : (next : ℕ) (stopped : Bool) (es fs : List Entry) → Allowed (record { next = next; entries = es; stopped = stopped }) → AreInOrder fs → length fs ≤ length es → ((e : Entry) → Contains fs e → Contains es e)
    → Allowed (record { next = next; entries = fs; stopped = stopped })
allowed_cancel next stopped es fs a s le within = record {
  few = let few = a.few in omega arith;
  in_order = s;
  sound = λ e i. a.sound e (within e i);
  own_ids = λ e f i j same. a.own_ids e f (within e i) (within f j) same;
  given = λ e i. a.given e (within e i);
}

-- nothing else of a schedule matters
pub allowed_stop : (s : State) (stopped : Bool) → Allowed s → Allowed (record { next = s.next; entries = s.entries; stopped = stopped })
allowed_stop s stopped a = record { few = a.few; in_order = a.in_order; sound = a.sound; own_ids = a.own_ids; given = a.given }

-- without the entry of a key, or without that of its id
pub out_by_id : (es : List Entry) (key : ℕ × ℕ) (id : ℕ) (x : Entry) → HaveOwnIds es → Contains es x → x.0 ≡ key → id_of x ≡ id
    → (f : Entry) → (Contains es f × (f.0 ≢ key)) ↔ (Contains es f × (id_of f ≢ id))
out_by_id es key id x own i at has f = (
  λ h. (h.0, λ same. h.1 (ap (λ (y : Entry). y.0) (own f x h.0 i (same ∙ sym has)) ∙ at)),
  λ h. (h.0, λ same. h.1 (ap (λ (k : ℕ × ℕ). k.1) (same ∙ sym at) ∙ has)),
)

pub at_most_one : (b : Bool) → cond b 0 1 ≤ 1
at_most_one true = omega arith
at_most_one false = omega arith
