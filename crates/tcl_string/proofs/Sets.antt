-- Sets of bytes, and texts under two tests that say the same of each byte.
use Rattle.std.proofs.Common.{◌≡◌, ◌∙◌, ap, sym, refl, subst, List, [], ◌∷◌, ℕ, ◌+◌, ◌<◌, Bool, true, false, length, take, get_or, set, eqb, arith, inl, inr}
use Rattle.std.specs.Prelude.{reverse, replicate, ◌||◌}
use Rattle.std.proofs.lemmas.Bool.{cases_lt}
use Rattle.std.proofs.lemmas.List.{get_or-set_same, get_or-set_other, get_or-replicate, get_or_past, length-replicate}
use Rattle.std.proofs.lemmas.List.Folds.{list_any_more}
use Rattle.std.proofs.lemmas.Bool.Decides.{eqb_tells}
use Rattle.natives.specs.Strings.{without_front, without_end}
use Rattle.natives.specs.Cutting.{is_one_of, pieces}

-- no byte is in the empty set
pub set_none : (n b : ℕ) → get_or (replicate n false) b false ≡ false
set_none n b = elim (cases_lt b n) [ inl lt ↦ get_or-replicate n b false false lt | inr ge ↦ get_or_past (replicate n false) b false (omega (arith, length-replicate n false)) ]

any_more : (any : Bool) → true ≡ (any || true)
any_more true = refl
any_more false = refl

any_same : (any : Bool) → any ≡ (any || false)
any_same true = refl
any_same false = refl

-- one more byte in the set
pub set_more : (holds : List Bool) (chars : List ℕ) (i x : ℕ) → ((b : ℕ) → get_or holds b false ≡ is_one_of (take i chars) b) → i < length chars → get_or chars i 0 ≡ x → x < length holds
    → (b : ℕ) → get_or (set holds x true) b false ≡ is_one_of (take (i + 1) chars) b
set_more holds chars i x so_far lt e within b =
    let more : is_one_of (take (i + 1) chars) b ≡ (is_one_of (take i chars) b || eqb (get_or chars i 0) b) = list_any_more (λ (c : ℕ). eqb c b) chars i 0 lt in
    elim (eqb_tells x b) [
      | inl equal ↦
          let here : get_or (set holds x true) b false ≡ true = subst (λ (k : ℕ). get_or (set holds x true) k false ≡ true) equal.1 (get_or-set_same holds x true false within) in
          here ∙ any_more (is_one_of (take i chars) b) ∙ ap (λ (t : Bool). is_one_of (take i chars) b || t) (sym equal.0 ∙ ap (λ (k : ℕ). eqb k b) (sym e)) ∙ sym more
      | inr apart ↦
          get_or-set_other holds x b true false (λ (same : b ≡ x). apart.1 (sym same)) ∙ so_far b ∙ any_same (is_one_of (take i chars) b) ∙ ap (λ (t : Bool). is_one_of (take i chars) b || t) (sym apart.0 ∙ ap (λ (k : ℕ). eqb k b) (sym e)) ∙ sym more
    ]

pub front_alike : (p q : ℕ → Bool) → ((b : ℕ) → p b ≡ q b) → (t : List ℕ) → without_front p t ≡ without_front q t
front_alike p q same [] = refl
front_alike p q same (b ∷ t) = rw (same b, front_alike p q same t) refl

pub end_alike : (p q : ℕ → Bool) → ((b : ℕ) → p b ≡ q b) → (t : List ℕ) → without_end p t ≡ without_end q t
end_alike p q same t = ap reverse (front_alike p q same (reverse t))

pub pieces_alike : (p q : ℕ → Bool) → ((b : ℕ) → p b ≡ q b) → (t : List ℕ) → pieces p t ≡ pieces q t
pieces_alike p q same [] = refl
pieces_alike p q same (b ∷ t) = rw (same b, pieces_alike p q same t) refl
