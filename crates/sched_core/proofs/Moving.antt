-- Moving on the entries that are due, one after the other.
use Rattle.std.proofs.Common.{◌≡◌, ◌≢◌, ◌⊎◌, ◌↔◌, ℕ, ◌<◌, ◌≤◌, Bool, true, false, nat_lt, List, [], ◌∷◌, Some, refl, sym, ap, ◌∙◌, subst, inl, inr, ⊎_elim, arith}
use Rattle.std.specs.List.{Contains, filter}
use Rattle.std.specs.BTreeMap.{IsOrdered, Updates}
use Rattle.std.proofs.lemmas.Bool.{not-true, not_from_false, le-ltb, ltb-false, ltb-true, lt-ltb}
use Rattle.sched_core.specs.declared.plan.Plan.{Plan}
use Rattle.sched_core.specs.Entries.{Entry, due_of, id_of, key_cmp, AreInOrder}
use Rattle.sched_core.specs.Due.{is_due, is_later, IsNext, IsMoved, IsAfterDue}
use Rattle.sched_core.specs.Allowed.{HaveOwnIds}
use Rattle.sched_core.proofs.Keys.{Apart, apart, apart_filter}
use Rattle.sched_core.proofs.Maps.{Map, put}
use Rattle.sched_core.proofs.Members.{nothing, here, there, first_or, in_filter, passes_filter, kept_in}
use Rattle.sched_core.proofs.Next.{one_next}

pub due_before : (now : ℕ) (e : Entry) → is_due now e ≡ true → due_of e ≤ now
due_before now e t = ltb-false now (due_of e) (not-true (nat_lt now (due_of e)) t)

pub due_from : (now : ℕ) (e : Entry) → due_of e ≤ now → is_due now e ≡ true
due_from now e le = not_from_false (nat_lt now (due_of e)) (le-ltb now (due_of e) le)

-- the due entries so far have moved into `later`, and `rest` has the others
pub record Moving (now : ℕ) (all rest later : List Entry) : Type 0 where
  pub apart : Apart rest
  pub within : (e : Entry) → Contains rest e → Contains all e × (due_of e ≤ now)
  pub gives : (e : Entry) → Contains later e → IsMoved now all e
  pub has : (e : Entry) → IsMoved now all e → Contains later e ⊎ IsMoved now rest e
  pub other : (e f : Entry) → Contains later e → Contains rest f → id_of e ≢ id_of f

pub moving_starts : (now : ℕ) (all rest later : List Entry) → rest ≡ filter (is_due now) all → later ≡ [] → AreInOrder all → HaveOwnIds all → Moving now all rest later
moving_starts now all rest later is none s own = record {
  apart = subst Apart (sym is) (apart_filter (is_due now) all (apart all s own));
  within = λ e i. let j = subst (λ (z : List Entry). Contains z e) is i in (in_filter (is_due now) all e j, due_before now e (passes_filter (is_due now) all e j));
  gives = λ e i. absurd (nothing e (subst (λ (z : List Entry). Contains z e) none i));
  has = λ e m. inr (record {
    before = m.before;
    was = subst (λ (z : List Entry). Contains z m.before) (sym is) (kept_in (is_due now) all m.before m.was (due_from now m.before m.due));
    due = m.due;
    again = m.again;
    same = m.same;
    next = m.next;
  });
  other = λ e f i j. absurd (nothing e (subst (λ (z : List Entry). Contains z e) none i));
}

pub moving_once : (now : ℕ) (all : List Entry) (x : Entry) (rest later : List Entry) → Moving now all (x ∷ rest) later → x.1.once ≡ true → Moving now all rest later
moving_once now all x rest later m once = record {
  apart = m.apart.1;
  within = λ e i. m.within e (there x rest e i);
  gives = m.gives;
  has = λ e moved. ⊎_elim (λ (i : Contains later e). inl i)
      (λ (r : IsMoved now (x ∷ rest) e). ⊎_elim
      (λ (is : x ≡ r.before). let c : Path Bool true false = sym once ∙ (ap (λ (y : Entry). y.1.once) is ∙ r.again) in cc)
      (λ (i : Contains rest r.before). inr (record { before = r.before; was = i; due = r.due; again = r.again; same = r.same; next = r.next })) (first_or x rest r.before r.was)) (m.has e moved);
  other = λ e f i j. m.other e f i (there x rest f j);
}

pub moving_again : (now : ℕ) (all : List Entry) (x : Entry) (rest : List Entry) (m n : Map) (moment : ℕ) (plan : Plan) → Moving now all (x ∷ rest) m.entries → x.1.once ≡ false → plan ≡ x.1
    → IsNext now (due_of x) x.1.seconds moment → IsOrdered key_cmp m → IsOrdered key_cmp n → Updates key_cmp m n (moment, id_of x) (Some plan) → Moving now all rest n.entries
moving_again now all x rest m n moment plan g again same next om on up =
    let p : (e : Entry) → Contains n.entries e ↔ (Contains m.entries e ⊎ (e ≡ ((moment, id_of x), plan))) =
    put m n (moment, id_of x) plan om on up (λ e i at. g.other e x i (here x rest) (ap (λ (k : ℕ × ℕ). k.1) at)) in
    let first = g.within x (here x rest) in
    let new : IsMoved now all ((moment, id_of x), plan) = record { before = x; was = first.0; due = first.1; again = again; same = (refl, same); next = next } in
    record {
      apart = g.apart.1;
      within = λ e i. g.within e (there x rest e i);
      gives = λ e i. ⊎_elim (λ (old : Contains m.entries e). g.gives e old) (λ (is : e ≡ ((moment, id_of x), plan)). subst (IsMoved now all) (sym is) new) ((p e).0 i);
      has = λ e moved. ⊎_elim (λ (i : Contains m.entries e). inl ((p e).1 (inl i)))
          (λ (r : IsMoved now (x ∷ rest) e). ⊎_elim
          (λ (is : x ≡ r.before).
          let at : IsNext now (due_of x) x.1.seconds (due_of e) = subst (λ (y : Entry). IsNext now (due_of y) y.1.seconds (due_of e)) (sym is) r.next in
          let due : due_of e ≡ moment = one_next now (due_of x) x.1.seconds (due_of e) moment at next in
          let id : id_of e ≡ id_of x = r.same.0 ∙ ap id_of (sym is) in
          let does : e.1 ≡ plan = r.same.1 ∙ (ap (λ (y : Entry). y.1) (sym is) ∙ sym same) in
          inl ((p e).1 (inr (λ j. ((due j, id j), does j)))))
          (λ (i : Contains rest r.before). inr (record { before = r.before; was = i; due = r.due; again = r.again; same = r.same; next = r.next })) (first_or x rest r.before r.was)) (g.has e moved);
      other = λ e f i j. ⊎_elim (λ (old : Contains m.entries e). g.other e f old (there x rest f j))
          (λ (is : e ≡ ((moment, id_of x), plan)). λ same_id. g.apart.0 f j (sym (ap id_of is) ∙ same_id)) ((p e).0 i);
    }

pub moving_ends : (now : ℕ) (all rest later : List Entry) → Moving now all rest later → rest ≡ [] → (e : Entry) → Contains later e ↔ IsMoved now all e
moving_ends now all rest later m none e = (
  m.gives e,
  λ moved. ⊎_elim (λ (i : Contains later e). i)
      (λ (r : IsMoved now rest e). absurd (nothing r.before (subst (λ (z : List Entry). Contains z r.before) none r.was))) (m.has e moved),
)

-- a moved entry isn't where an entry of its id was
pub moved_apart : (now : ℕ) (all : List Entry) → HaveOwnIds all → (e f : Entry) → Contains all e → IsMoved now all f → e.0 ≢ f.0
moved_apart now all own e f i m same =
    let is : e ≡ m.before = own e m.before i m.was (ap (λ (k : ℕ × ℕ). k.1) same ∙ m.same.0) in
    let at : due_of e ≡ due_of m.before = ap due_of is in
    let due : due_of e ≡ due_of f = ap (λ (k : ℕ × ℕ). k.0) same in
    let later = m.next.later in
    let was = m.due in
    omega arith

-- the moved ones in and the due ones out
pub after_due : (now : ℕ) (old mid new : List Entry) → ((e : Entry) → Contains mid e ↔ (Contains old e ⊎ IsMoved now old e)) → new ≡ filter (is_later now) mid → IsAfterDue now old new
after_due now old mid new both is e = (
  λ i.
      let j = subst (λ (z : List Entry). Contains z e) is i in
      let after = ltb-true now (due_of e) (passes_filter (is_later now) mid e j) in
      ⊎_elim (λ (a : Contains old e). inl (a, after)) (λ (m : IsMoved now old e). inr m) ((both e).0 (in_filter (is_later now) mid e j)),
  λ h. ⊎_elim
      (λ (a : Contains old e × (now < due_of e)). subst (λ (z : List Entry). Contains z e) (sym is) (kept_in (is_later now) mid e ((both e).1 (inl a.0)) (lt-ltb now (due_of e) a.1)))
      (λ (m : IsMoved now old e). subst (λ (z : List Entry). Contains z e) (sym is) (kept_in (is_later now) mid e ((both e).1 (inr m)) (lt-ltb now (due_of e) m.next.later))) h,
)
