-- Operands with binary operators between them: they are the levels, and the last of them can be closed.
use Rattle.std.proofs.Common.{◌≡◌, ℕ, zero, suc, ◌<◌, ◌≤◌, List, [], ◌∷◌, ◌++◌, length, Bool, true, false, Option, None, Some, refl, ap, sym, ◌∙◌, subst, ◌⊎◌, inl, inr, arith}
use Rattle.std.specs.Prelude.{if◌then◌else◌}
use Rattle.tcl_expr.specs.declared.operator.Op.{Op}
use Rattle.tcl_expr.specs.Trees.{Tree, value, binary}
use Rattle.tcl_expr.specs.Outcome.{Outcome, done, bad}
use Rattle.tcl_expr.specs.Tokens.{level, loosest, Binds, next_operator, is_half, stuck}
use Rattle.tcl_expr.specs.Grammar.{LevelAt}
use Rattle.tcl_expr.specs.Stack.{IsStack, AtLeast, FromOperand}
use Rattle.tcl_expr.specs.Laws.Fits.{NextFits, operator_fits}
use Rattle.tcl_expr.specs.Laws.One.{IsOne, one_level}
use Rattle.tcl_expr.specs.Laws.Some.{IsTotal, IsFit}
use Rattle.tcl_expr.proofs.Tokens.{NextBinds, next_binds}
use Rattle.tcl_expr.proofs.Stacks.{operand_bad, from_first, popped, pushed, ended}
use Rattle.tcl_expr.proofs.OpenParts.{Follow, Firm, follow_firm, follow_operator, operator_kept, operator_zero, half_whole}
use Rattle.tcl_expr.proofs.OpenOperands.{IsEnd, Ends, Kept, Plain, plain_end}
use Rattle.tcl_expr.proofs.OpenWords.{Adds}
use Rattle.tcl_expr.proofs.Suffixes.{Suffix, suffix_trans}
use Rattle.tcl_expr.proofs.Behind.{operator_leaves}

-- where reading ends, whatever its tree
pub data End : Type 0 where
  stops : ℕ → List ℕ → End
  breaks : ℕ → End

abbrev pub end_of : Outcome → End
end_of (done x m r) = stops m r
end_of (bad b) = breaks b

abbrev pub outcome_end : End → Type 0
outcome_end (stops m r) = stuck m r ≡ 0
outcome_end (breaks b) = b ≡ 0

module _ (S : ℕ → List ℕ → Outcome → Type 0) where
  -- operands from left to right, as long as operators come between them
  pub data Row : ℕ → List ℕ → End → Type 0 where
    row_bad : {n b : ℕ} {t : List ℕ} → S n t (bad b) → Row n t (breaks b)
    row_ends : (x : Tree) {n m : ℕ} {t u : List ℕ} → S n t (done x m u) → next_operator m u ≡ None → Row n t (stops m u)
    row_goes : (x : Tree) (op : Op) {n m i : ℕ} {t u r : List ℕ} {e : End} → S n t (done x m u) → next_operator m u ≡ Some (op, i, r) → Row i r e → Row n t e

  -- all that waits takes its right side
  unwind : (ps : List (Op × Tree)) (x : Tree) (m : ℕ) (u : List ℕ) → IsStack ps → next_operator m u ≡ None → (y : Tree) × FromOperand S ps (done x m u) (done y m u)
  unwind [] x m u h e = (x, ended S x m u e)
  unwind (p ∷ ps) x m u h e =
      let k = unwind ps (binary p.0 p.1 x) m u h.2 e in
      (k.0, popped S p ps x m (level p.0) u (done k.0 m u) h (omega arith) (subst (AtLeast (level p.0)) (sym e) tt) k.1)

  -- what is read from a first operand on, with what waits before it
  abbrev Goes : ℕ → List ℕ → List (Op × Tree) → End → Type 0
  Goes n t ps e = (v : Outcome) × S n t v × ((o : Outcome) × FromOperand S ps v o × (end_of o ≡ e))

  binds_of : (m i : ℕ) (u r : List ℕ) (op : Op) → next_operator m u ≡ Some (op, i, r) → Binds op
  binds_of m i u r op e = subst NextBinds e (next_binds m u)

  place_by : (p : Op × Tree) (ps : List (Op × Tree)) (x : Tree) (op : Op) (m i : ℕ) (u r : List ℕ) (e : End) → IsStack (p ∷ ps) → next_operator m u ≡ Some (op, i, r) → Binds op → ((qs : List (Op × Tree)) → IsStack qs → Goes i r qs e)
      → (level op ≡ level p.0) ⊎ (level op < level p.0) ⊎ (level p.0 < level op) → ((y : Tree) → (o : Outcome) × FromOperand S ps (done y m u) o × (end_of o ≡ e)) → (o : Outcome) × FromOperand S (p ∷ ps) (done x m u) o × (end_of o ≡ e)
  place_by p ps x op m i u r e h q b go (inr (inl lt)) rest =
      let k = go ((op, x) ∷ p ∷ ps) (b.0, omega (arith, lt), h) in
      (k.2.0, pushed S (p ∷ ps) x op m i u r k.0 k.2.0 b.0 (omega (arith, lt)) q k.1 k.2.1, k.2.2)
  place_by p ps x op m i u r e h q b go (inl s) rest =
      let k = rest (binary p.0 p.1 x) in
      (k.0, popped S p ps x m (level op) u k.0 h (omega (arith, s)) (subst (AtLeast (level op)) (sym q) (let le : level op ≤ level op = omega arith in le)) k.1, k.2)
  place_by p ps x op m i u r e h q b go (inr (inr lt)) rest =
      let k = rest (binary p.0 p.1 x) in
      (k.0, popped S p ps x m (level op) u k.0 h (omega (arith, lt)) (subst (AtLeast (level op)) (sym q) (let le : level op ≤ level op = omega arith in le)) k.1, k.2)

  -- an operator takes its place among what waits
  place : (ps : List (Op × Tree)) (x : Tree) (op : Op) (m i : ℕ) (u r : List ℕ) (e : End) → IsStack ps → next_operator m u ≡ Some (op, i, r) → Binds op → ((qs : List (Op × Tree)) → IsStack qs → Goes i r qs e)
      → (o : Outcome) × FromOperand S ps (done x m u) o × (end_of o ≡ e)
  place [] x op m i u r e h q b go =
      let k = go ((op, x) ∷ []) (b.0, b.1, tt) in
      (k.2.0, pushed S [] x op m i u r k.0 k.2.0 b.0 b.1 q k.1 k.2.1, k.2.2)
  place (p ∷ ps) x op m i u r e h q b go = place_by p ps x op m i u r e h q b go (compare (level op) (level p.0)) (λ y. place ps y op m i u r e h.2 q b go)
    where
      compare : (a b : ℕ) → (a ≡ b) ⊎ (a < b) ⊎ (b < a)
      compare zero zero = inl refl
      compare zero (suc b) = inr (inl (omega arith))
      compare (suc a) zero = inr (inr (omega arith))
      compare (suc a) (suc b) = step (compare a b)
        where
          step : (a ≡ b) ⊎ (a < b) ⊎ (b < a) → (suc a ≡ suc b) ⊎ (suc a < suc b) ⊎ (suc b < suc a)
          step (inl e) = inl (ap suc e)
          step (inr (inl lt)) = inr (inl (omega (arith, lt)))
          step (inr (inr lt)) = inr (inr (omega (arith, lt)))

  row_goes_by : {n : ℕ} {t : List ℕ} {e : End} → Row n t e → (ps : List (Op × Tree)) → IsStack ps → Goes n t ps e
  row_goes_by (row_bad {b = b} h) ps v = (bad b, h, (bad b, operand_bad S ps b v, refl))
  row_goes_by (row_ends x {m = m} {u = u} h e) ps v = let k = unwind ps x m u v e in (done x m u, h, (done k.0 m u, k.1, refl))
  row_goes_by (row_goes x op {m = m} {i = i} {u = u} {r = r} {e = e} h q w) ps v =
      (done x m u, h, place ps x op m i u r e v q (binds_of m i u r op q) (λ qs k. row_goes_by w qs k))

  -- A row is what the levels read.
  pub row_level : (n : ℕ) (t : List ℕ) (e : End) → Row n t e → (o : Outcome) × LevelAt S loosest n t o × (end_of o ≡ e)
  row_level n t e w = let k = row_goes_by w [] tt in (k.2.0, from_first S n t k.0 k.2.0 k.1 k.2.1, k.2.2)

  module _ (some_s : IsTotal S) (S_fits : IsFit S) where
    row_rest : (f n m : ℕ) (t u : List ℕ) (x : Tree) → n ≤ suc f → S n t (done x m u) → ((i : ℕ) (r : List ℕ) → i ≤ f → (e : End) × Row i r e) → (q : Option (Op × ℕ × List ℕ)) → next_operator m u ≡ q → (e : End) × Row n t e
    row_rest f n m t u x le h go None q = (stops m u, row_ends x h q)
    row_rest f n m t u x le h go (Some y) q =
        let s = subst (NextFits m (length u)) q (operator_fits m u) in
        let g = S_fits n t (done x m u) h in
        let k = go y.1 y.2 (omega (arith, le, s.0, g.0)) in
        (k.0, row_goes x y.0 h q k.1)

    row_first : (f n : ℕ) (t : List ℕ) → n ≤ suc f → ((i : ℕ) (r : List ℕ) → i ≤ f → (e : End) × Row i r e) → (v : Outcome) → S n t v → (e : End) × Row n t e
    row_first f n t le go (bad b) h = (breaks b, row_bad h)
    row_first f n t le go (done x m u) h = row_rest f n m t u x le h go (next_operator m u) refl

    row_last : (n m : ℕ) (t u : List ℕ) (x : Tree) → n ≤ 0 → S n t (done x m u) → (q : Option (Op × ℕ × List ℕ)) → next_operator m u ≡ q → (e : End) × Row n t e
    row_last n m t u x le h None q = (stops m u, row_ends x h q)
    row_last n m t u x le h (Some y) q =
        let s = subst (NextFits m (length u)) q (operator_fits m u) in
        let g = S_fits n t (done x m u) h in
        absurd (omega (arith, le, s.0, g.0))

    row_none : (n : ℕ) (t : List ℕ) → n ≤ 0 → (v : Outcome) → S n t v → (e : End) × Row n t e
    row_none n t le (bad b) h = (breaks b, row_bad h)
    row_none n t le (done x m u) h = row_last n m t u x le h (next_operator m u) refl

    some_row : (f n : ℕ) (t : List ℕ) → n ≤ f → (e : End) × Row n t e
    some_row zero n t le = let v = some_s n t in row_none n t le v.0 v.1
    some_row (suc f) n t le = let v = some_s n t in row_first f n t le (λ i r k. some_row f i r k) v.0 v.1

    -- What the levels read is a row.
    pub level_row : IsOne S → (n : ℕ) (t : List ℕ) (o : Outcome) → LevelAt S loosest n t o → Row n t (end_of o)
    level_row one n t o h =
        let w = some_row n n t (omega arith) in
        let k = row_level n t w.0 w.1 in
        let e : k.0 ≡ o = one_level S one loosest n t k.0 o k.1 h in
        subst (Row n t) (sym k.2 ∙ ap end_of e) w.1

  module _ (S_kept : (n : ℕ) (t : List ℕ) (o : Outcome) → S n t o → (v : List ℕ) → Firm v → Kept S n t v o) (S_ends : (n : ℕ) (t : List ℕ) (b : ℕ) → S n t (bad b) → b ≡ 0 → Plain t → Ends S n t)
      (S_zero : (n : ℕ) (z : List ℕ) → Follow z → S n (48 ∷ z) (done (value (48 ∷ [])) n z)) (S_leaves : (n m : ℕ) (t u : List ℕ) (x : Tree) → S n t (done x m u) → Suffix t u) where
    -- with more behind the text, a row ends before whatever may follow
    abbrev pub RowEnds : ℕ → List ℕ → Type 0
    RowEnds n t = (T : List ℕ → List ℕ) × Adds T × ((z : List ℕ) → Follow z → Firm (T z) × ((m : ℕ) × Row n (t ++ T z) (stops m z)))

    zero_row : (n : ℕ) (z : List ℕ) → Follow z → Row n (48 ∷ z) (stops n z)
    zero_row n z f = row_ends (value (48 ∷ [])) (S_zero n z f) (follow_operator n z f)

    half_by : (k h : ℕ) (r : List ℕ) (s : Bool) → (if s then length r else length (h ∷ r)) ≡ 0 → is_half h ≡ s → (r ≡ []) × (is_half h ≡ true)
    half_by k h [] true e q = (refl, q)
    half_by k h (b ∷ r) true e q = absurd (omega (arith, e))
    half_by k h r false e q = absurd (omega (arith, e))

    some_bytes : (b : ℕ) (u : List ℕ) → 0 < length (b ∷ u)
    some_bytes b u = omega arith

    row_end : (n m : ℕ) (t u : List ℕ) (x : Tree) → S n t (done x m u) → stuck m u ≡ 0 → RowEnds n t
    row_end n m t [] x h e = (λ z. z, λ z b. b, λ z f. (follow_firm z f, (m, row_ends x (S_kept n t (done x m []) h z (follow_firm z f) (inr f)) (follow_operator m z f))))
    row_end n zero t (b ∷ u) x h e = absurd (omega (arith, e))
    row_end n (suc m) t (b ∷ u) x h e =
        let s = half_by m b u (is_half b) e refl in
        let w = half_whole b s.1 in (
          λ z. w.0 ∷ 48 ∷ z,
          λ z b. rw (w.4) b,
          λ z f.
              let v : List ℕ = w.0 ∷ 48 ∷ z in
              let k = S_kept n t (done x (suc m) (b ∷ u)) h v w.3 (inl (some_bytes b u)) in
              (w.3, (m, row_goes x w.1 (subst (λ y. S n (t ++ v) (done x (suc m) (b ∷ y ++ v))) s.0 k) (w.2 m z) (zero_row m z f))),
        )

    row_more : (n m i : ℕ) (t u r : List ℕ) (x : Tree) (op : Op) → S n t (done x m u) → next_operator m u ≡ Some (op, i, r) → 0 < length u → RowEnds i r → RowEnds n t
    row_more n m i t u [] x op h q lt k =
        (λ z. 48 ∷ z, λ z b. b, λ z f. (refl, (i, row_goes x op (S_kept n t (done x m u) h (48 ∷ z) refl (inl lt)) (operator_zero m i u z op q) (zero_row i z f))))
    row_more n m i t u (b ∷ r) x op h q lt k =
        (k.0, k.1, λ z f. let y = k.2 z f in (y.0, (y.1.0, row_goes x op (S_kept n t (done x m u) h (k.0 z) y.0 (inl lt)) (operator_kept m i u (b ∷ r) (k.0 z) op y.0 (some_bytes b r) q) y.1.1)))

    begins : (m i : ℕ) (u r : List ℕ) (op : Op) → next_operator m u ≡ Some (op, i, r) → 0 < length u
    begins zero i u r op e = absurd (cc)
    begins (suc m) i [] r op e = absurd (cc)
    begins (suc m) i (b ∷ u) r op e = omega arith

    row_close : {n : ℕ} {t : List ℕ} {e : End} → Row n t e → outcome_end e → Plain t → RowEnds n t
    row_close {n} {t} (row_bad {b = b} h) q p =
        let k = S_ends n t b h q p in
        (k.0, k.1, λ z f. let y = k.2 z f in (y.0, (y.1.1, row_ends y.1.0 y.1.2 (follow_operator y.1.1 z f))))
    row_close {n} {t} (row_ends x {m = m} {u = u} h e) q p = row_end n m t u x h q
    row_close {n} {t} (row_goes x op {m = m} {i = i} {u = u} {r = r} h e w) q p =
        row_more n m i t u r x op h e (begins m i u r op e) (row_close w q (plain_end t r (suffix_trans t u r (S_leaves n m t u x h) (operator_leaves m i u r op e).0) p))

    done_of : (o : Outcome) (m : ℕ) (r : List ℕ) → end_of o ≡ stops m r → (x : Tree) × (o ≡ done x m r)
    done_of (bad b) m r e = absurd (cc)
    done_of (done x k u) m r e = let a : k ≡ m = cc in let c : u ≡ r = cc in (x, ap (λ y. done x y u) a ∙ ap (λ (y : List ℕ). done x m y) c)

    level_at : (n m : ℕ) (t z : List ℕ) → Row n t (stops m z) → (x : Tree) × LevelAt S loosest n t (done x m z)
    level_at n m t z w =
        let k = row_level n t (stops m z) w in
        let d = done_of k.0 m z k.2 in
        (d.0, subst (LevelAt S loosest n t) d.1 k.1)

    pub level_zero : (n : ℕ) (z : List ℕ) → Follow z → (x : Tree) × LevelAt S loosest n (48 ∷ z) (done x n z)
    level_zero n z f = level_at n n (48 ∷ z) z (zero_row n z f)

    ends_as : (o : Outcome) → IsEnd o → outcome_end (end_of o)
    ends_as (bad b) e = e
    ends_as (done x m r) e = e

    -- The levels, with more behind the text, end before whatever may follow.
    pub level_ends : IsTotal S → IsFit S → IsOne S → (n : ℕ) (t : List ℕ) (o : Outcome) → LevelAt S loosest n t o → IsEnd o → Plain t → Ends (LevelAt S loosest) n t
    level_ends some_s S_fits one n t o h e p =
        let k = row_close (level_row some_s S_fits one n t o h) (ends_as o e) p in
        (k.0, k.1, λ z f. let y = k.2 z f in let l = level_at n y.1.0 (t ++ k.0 z) z y.1.1 in (y.0, (l.0, y.1.0, l.1)))
