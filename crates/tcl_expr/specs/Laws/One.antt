-- Each text has one reading.
use Rattle.std.proofs.Common.{◌≡◌, ℕ, zero, suc, drop, Option, None, Some, refl, ap, sym, ◌∙◌, subst, inl, inr}
use Rattle.txt_core.specs.Names.{Bytes}
use Rattle.txt_core.specs.Number.{trimmed_front}
use Rattle.txt_core.specs.Limits.{most_nested}
use Rattle.tcl_parse.specs.Laws.Inside.{enclosed_is, substituted_is}
use Rattle.tcl_expr.specs.declared.operator.Op.{Op}
use Rattle.tcl_expr.specs.Trees.{Tree, binary}
use Rattle.tcl_expr.specs.Outcome.{Outcome, done, bad, signed, chosen}
use Rattle.tcl_expr.specs.Tokens.{loosest, next_operator, next_sign, next_question, next_colon, stuck}
use Rattle.tcl_expr.specs.Grammar.{word_operand, part_operand, closed, Start, enclosed, substituted, run, parenthesis, nothing, start, OperandBy, SignedAt, no_sign, one_sign, of_level, ChainAt, chain_ends, chain_bad, chain_goes, Then, LevelAt, ChoiceAt, bad_test, no_choice, bad_middle, no_last, one_choice, ExpressionBy, InParens}

abbrev pub IsOne : (ℕ → Bytes → Outcome → Type 0) → Type 0
IsOne R = (n : ℕ) (t : Bytes) (o p : Outcome) → R n t o → R n t p → o ≡ p

module _ (P : ℕ → Bytes → Outcome → Type 0) (one_p : IsOne P) where
  one_operand : (s : Start) (n : ℕ) (t : Bytes) (o p : Outcome) → OperandBy P s n t o → OperandBy P s n t p → o ≡ p
  one_operand enclosed n t o p h k = h.2 ∙ ap (word_operand n t) (enclosed_is most_nested t h.0 k.0 h.1 k.1) ∙ sym k.2
  one_operand substituted n t o p (inl h) (inl k) = h.2 ∙ ap (part_operand n t) (substituted_is most_nested t h.0 k.0 h.1 k.1) ∙ sym k.2
  one_operand substituted n t o p (inl h) (inr k) = absurd (k.0 h.0 h.1)
  one_operand substituted n t o p (inr h) (inl k) = absurd (h.0 k.0 k.1)
  one_operand substituted n t o p (inr h) (inr k) = h.1 ∙ sym k.1
  one_operand run n t o p h k = h ∙ sym k
  one_operand parenthesis n t o p h k = h.2 ∙ ap closed (one_p n (drop 1 t) h.0 k.0 h.1 k.1) ∙ sym k.2
  one_operand nothing n t o p h k = h ∙ sym k

  abbrev OfSigned : ℕ → Bytes → Outcome → Option (Op × ℕ × Bytes) → Type 0
  OfSigned n t o None = OperandBy P (start t) n t o
  OfSigned n t o (Some x) = (q : Outcome) × SignedAt P x.1 x.2 q × (o ≡ signed x.0 q)

  of_signed : {n : ℕ} {t : Bytes} {o : Outcome} → SignedAt P n t o → OfSigned n t o (next_sign n t)
  of_signed {n} {t} {o} (no_sign e h) = subst (OfSigned n t o) (sym e) h
  of_signed {n} {t} (one_sign {op = op} {o = o} e h) = subst (OfSigned n t (signed op o)) (sym e) (o, h, refl)

  one_signed_at : {n : ℕ} {t : Bytes} {o : Outcome} → SignedAt P n t o → (p : Outcome) → SignedAt P n t p → o ≡ p
  one_signed_at {n} {t} {o} (no_sign e h) p k = one_operand (start t) n t o p h (subst (OfSigned n t p) e (of_signed k))
  one_signed_at {n} {t} (one_sign {op = op} e h) p k =
      let x = subst (OfSigned n t p) e (of_signed k) in
      ap (signed op) (one_signed_at h x.0 x.1) ∙ sym x.2

  pub one_signed : IsOne (SignedAt P)
  one_signed n t o p h k = one_signed_at h p k

module _ (k : ℕ) (L : ℕ → Bytes → Outcome → Type 0) (one_l : IsOne L) where
  -- how a chain goes on behind a right side
  abbrev Side : Op → Tree → Outcome → Outcome → Type 0
  Side op x (bad b) o = o ≡ bad b
  Side op x (done y i u) o = ChainAt k L (binary op x y) i u o

  abbrev OfChain : Tree → ℕ → Bytes → Outcome → Option (Op × ℕ × Bytes) → Type 0
  OfChain x n t o None = o ≡ done x n t
  OfChain x n t o (Some z) = (v : Outcome) × L z.1 z.2 v × Side z.0 x v o

  of_chain : {x : Tree} {n : ℕ} {t : Bytes} {o : Outcome} → ChainAt k L x n t o → OfChain x n t o (of_level k (next_operator n t))
  of_chain {x} {n} {t} (chain_ends e) = subst (OfChain x n t (done x n t)) (sym e) refl
  of_chain {x} {n} {t} (chain_bad {b = b} e h) = subst (OfChain x n t (bad b)) (sym e) (bad b, h, refl)
  of_chain {x} {n} {t} (chain_goes y {i = i} {u = u} {o = o} e h c) = subst (OfChain x n t o) (sym e) (done y i u, h, c)

  one_chain_at : {x : Tree} {n : ℕ} {t : Bytes} {o : Outcome} → ChainAt k L x n t o → (p : Outcome) → ChainAt k L x n t p → o ≡ p
  one_chain_at {x} {n} {t} (chain_ends e) p q = sym (subst (OfChain x n t p) e (of_chain q))
  one_chain_at {x} {n} {t} (chain_bad {m = m} {b = b} {r = r} {op = op} e h) p q =
      let z = subst (OfChain x n t p) e (of_chain q) in
      sym (subst (λ v. Side op x v p) (one_l m r z.0 (bad b) z.1 h) z.2)
  one_chain_at {x} {n} {t} (chain_goes y {m = m} {i = i} {r = r} {u = u} {op = op} e h c) p q =
      let z = subst (OfChain x n t p) e (of_chain q) in
      one_chain_at c p (subst (λ v. Side op x v p) (one_l m r z.0 (done y i u) z.1 h) z.2)

  then_by : (w o p : Outcome) → Then (ChainAt k L) w o → Then (ChainAt k L) w p → o ≡ p
  then_by (bad b) o p h q = h ∙ sym q
  then_by (done x n t) o p h q = one_chain_at h p q

  pub one_then : (v w o p : Outcome) → v ≡ w → Then (ChainAt k L) v o → Then (ChainAt k L) w p → o ≡ p
  one_then v w o p e h q = then_by w o p (subst (λ z. Then (ChainAt k L) z o) e h) q

module _ (S : ℕ → Bytes → Outcome → Type 0) (one_s : IsOne S) where
  pub one_level : (k : ℕ) → IsOne (LevelAt S k)
  unfolding LevelAt
  one_level zero n t o p h q = one_s n t o p h q
  one_level (suc k) n t o p h q = one_then (suc k) (LevelAt S k) (one_level k) h.0 q.0 o p (one_level k n t h.0 q.0 h.1 q.1) h.2 q.2

module _ (T : ℕ → Bytes → Outcome → Type 0) (one_t : IsOne T) where
  abbrev ByColon : Tree → Tree → ℕ → Bytes → Option Bytes → Outcome → Type 0
  ByColon x y j u None w = w ≡ bad (stuck j u)
  ByColon x y j u (Some s) w = (z : Outcome) × ChoiceAt T j s z × (w ≡ chosen x y z)

  abbrev BehindMiddle : Tree → Outcome → Outcome → Type 0
  BehindMiddle x (bad b) w = w ≡ bad b
  BehindMiddle x (done y j u) w = ByColon x y j u (next_colon u) w

  abbrev ByQuestion : Tree → ℕ → Bytes → Option (ℕ × Bytes) → Outcome → Type 0
  ByQuestion x m u None w = w ≡ done x m u
  ByQuestion x m u (Some z) w = (v : Outcome) × ChoiceAt T z.0 z.1 v × BehindMiddle x v w

  abbrev BehindTest : Outcome → Outcome → Type 0
  BehindTest (bad b) w = w ≡ bad b
  BehindTest (done x m u) w = ByQuestion x m u (next_question m u) w

  of_choice : {n : ℕ} {t : Bytes} {o : Outcome} → ChoiceAt T n t o → (v : Outcome) × T n t v × BehindTest v o
  of_choice (bad_test {b = b} h) = (bad b, h, refl)
  of_choice (no_choice x {m = m} {u = u} h e) = (done x m u, h, subst (λ q. ByQuestion x m u q (done x m u)) (sym e) refl)
  of_choice (bad_middle x {m = m} {b = b} {u = u} h e k) = (done x m u, h, subst (λ q. ByQuestion x m u q (bad b)) (sym e) (bad b, k, refl))
  of_choice (no_last x y {m = m} {j = j} {u = u} {v = v} h e k c) =
      (done x m u, h, subst (λ q. ByQuestion x m u q (bad (stuck j v))) (sym e) (done y j v, k, subst (λ q. ByColon x y j v q (bad (stuck j v))) (sym c) refl))
  of_choice (one_choice x y {m = m} {j = j} {u = u} {v = v} {o = o} h e k c l) =
      (done x m u, h, subst (λ q. ByQuestion x m u q (chosen x y o)) (sym e) (done y j v, k, subst (λ q. ByColon x y j v q (chosen x y o)) (sym c) (o, l, refl)))

  behind_test : (n : ℕ) (t : Bytes) (v p : Outcome) → T n t v → ChoiceAt T n t p → BehindTest v p
  behind_test n t v p h k =
      let z = of_choice k in
      subst (λ w. BehindTest w p) (one_t n t z.0 v z.1 h) z.2

  one_choice_at : {n : ℕ} {t : Bytes} {o : Outcome} → ChoiceAt T n t o → (p : Outcome) → ChoiceAt T n t p → o ≡ p
  one_choice_at {n} {t} (bad_test {b = b} h) p q = sym (behind_test n t (bad b) p h q)
  one_choice_at {n} {t} (no_choice x {m = m} {u = u} h e) p q = sym (subst (λ z. ByQuestion x m u z p) e (behind_test n t (done x m u) p h q))
  one_choice_at {n} {t} (bad_middle x {m = m} {b = b} {u = u} h e k) p q =
      let z = subst (λ z. ByQuestion x m u z p) e (behind_test n t (done x m u) p h q) in
      sym (subst (λ v. BehindMiddle x v p) (sym (one_choice_at k z.0 z.1)) z.2)
  one_choice_at {n} {t} (no_last x y {m = m} {j = j} {u = u} {v = v} h e k c) p q =
      let z = subst (λ z. ByQuestion x m u z p) e (behind_test n t (done x m u) p h q) in
      let w = subst (λ v. BehindMiddle x v p) (sym (one_choice_at k z.0 z.1)) z.2 in
      sym (subst (λ s. ByColon x y j v s p) c w)
  one_choice_at {n} {t} (one_choice x y {m = m} {j = j} {u = u} {v = v} h e k c l) p q =
      let z = subst (λ z. ByQuestion x m u z p) e (behind_test n t (done x m u) p h q) in
      let w = subst (λ v. BehindMiddle x v p) (sym (one_choice_at k z.0 z.1)) z.2 in
      let a = subst (λ s. ByColon x y j v s p) c w in
      ap (chosen x y) (one_choice_at l a.0 a.1) ∙ sym a.2

pub one_expression : (P : ℕ → Bytes → Outcome → Type 0) → IsOne P → IsOne (ExpressionBy P)
one_expression P one n t o p h k = one_choice_at (LevelAt (SignedAt P) loosest) (one_level (SignedAt P) (one_signed P one) loosest) h p k

pub one_parens : (room : ℕ) → IsOne (InParens room)
unfolding InParens
one_parens zero n t o p h k = h ∙ sym k
one_parens (suc room) n t o p h k = one_expression (InParens room) (one_parens room) n (trimmed_front t) o p h k
