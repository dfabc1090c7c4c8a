-- Looking for an id among the keys.
use Rattle.std.proofs.Common.{◌≡◌, ◌≢◌, ℕ, List, [], ◌∷◌, sym, ap, ◌∙◌, subst, ⊎_elim}
use Rattle.std.specs.List.{Contains}
use Rattle.std.specs.Map.{keys_of}
use Rattle.sched_core.specs.Entries.{Entry, id_of}
use Rattle.sched_core.proofs.Keys.{key_of, of_key}
use Rattle.sched_core.proofs.Members.{nothing, here, there, first_or}

-- a key of this id is among those that are left, and these are keys of entries
pub record Left (id : ℕ) (entries : List Entry) (left : List (ℕ × ℕ)) : Type 0 where
  pub has : (e : Entry) → Contains entries e → id_of e ≡ id → Contains left e.0
  pub within : (k : ℕ × ℕ) → Contains left k → (e : Entry) × Contains entries e × (e.0 ≡ k)

pub finds_start : (id : ℕ) (entries : List Entry) (left : List (ℕ × ℕ)) → left ≡ keys_of entries → Left id entries left
finds_start id entries left is = record {
  has = λ e i at. subst (λ (z : List (ℕ × ℕ)). Contains z e.0) (sym is) (key_of entries e i);
  within = λ k i. of_key entries k (subst (λ (z : List (ℕ × ℕ)). Contains z k) is i);
}

pub finds_more : (id : ℕ) (entries : List Entry) (left : List (ℕ × ℕ)) (k : ℕ × ℕ) (rest : List (ℕ × ℕ)) → Left id entries left → left ≡ k ∷ rest → k.1 ≢ id → Left id entries rest
finds_more id entries left k rest l is other = record {
  has = λ e i at. ⊎_elim (λ (same : k ≡ e.0). absurd (other (ap (λ (q : ℕ × ℕ). q.1) same ∙ at))) (λ (j : Contains rest e.0). j)
      (first_or k rest e.0 (subst (λ (z : List (ℕ × ℕ)). Contains z e.0) is (l.has e i at)));
  within = λ q i. l.within q (subst (λ (z : List (ℕ × ℕ)). Contains z q) (sym is) (there k rest q i));
}

pub finds_one : (id : ℕ) (entries : List Entry) (left : List (ℕ × ℕ)) (k : ℕ × ℕ) (rest : List (ℕ × ℕ)) → Left id entries left → left ≡ k ∷ rest → k.1 ≡ id
    → (e : Entry) × Contains entries e × (e.0 ≡ k) × (id_of e ≡ id)
finds_one id entries left k rest l is at =
    let r = l.within k (subst (λ (z : List (ℕ × ℕ)). Contains z k) (sym is) (here k rest)) in
    (r.0, r.1, r.2, ap (λ (q : ℕ × ℕ). q.1) r.2 ∙ at)

pub finds_none : (id : ℕ) (entries : List Entry) (left : List (ℕ × ℕ)) → Left id entries left → left ≡ [] → (e : Entry) → Contains entries e → id_of e ≢ id
finds_none id entries left l is e i at = nothing e.0 (subst (λ (z : List (ℕ × ℕ)). Contains z e.0) is (l.has e i at))
