-- How the stack of operators goes on.
use Rattle.std.proofs.Common.{◌≡◌, ℕ, zero, suc, ◌+◌, ◌-◌, ◌<◌, ◌≤◌, List, [], ◌∷◌, ◌++◌, Option, None, Some, refl, ap, sym, ◌∙◌, subst, arith}
use Rattle.std.specs.Prelude.{◌==◌, if◌then◌else◌}
use Rattle.std.proofs.lemmas.Bool.Decides.{nat_tests}
use Rattle.tcl_expr.specs.declared.operator.Op.{Op}
use Rattle.tcl_expr.specs.Trees.{Tree, unary, binary}
use Rattle.tcl_expr.specs.Outcome.{Outcome, done, bad, signed}
use Rattle.tcl_expr.specs.Tokens.{level, loosest, next_operator}
use Rattle.tcl_expr.specs.Grammar.{of_level, ChainAt, chain_ends, chain_bad, chain_goes, Then, LevelAt}
use Rattle.tcl_expr.specs.Stack.{lower, limit, IsStack, AtLeast, Up, Joins, Rest, FromOperand, with_signs, signs_before}

-- the operator that comes next, if any, binds looser than a level
abbrev pub Above : ℕ → Option (Op × ℕ × List ℕ) → Type 0
Above m None = Unit {0}
Above m (Some x) = m < level x.0

by_test : (k l : ℕ) (x : Op × ℕ × List ℕ) → k < l → (if l == k then Some x else None) ≡ None
by_test k l x h = grind (arith, nat_tests)

by_same : (k l : ℕ) (x : Op × ℕ × List ℕ) → l ≡ k → (if l == k then Some x else None) ≡ Some x
by_same k l x h = grind (arith, nat_tests)

above_none : (m i : ℕ) (q : Option (Op × ℕ × List ℕ)) → Above m q → i ≤ m → of_level i q ≡ None
above_none m i None h le = refl
above_none m i (Some x) h le = by_test i (level x.0) x (omega arith)

above_less : (m i : ℕ) (q : Option (Op × ℕ × List ℕ)) → Above m q → i ≤ m → Above i q
above_less m i None h le = tt
above_less m i (Some x) h le = let r : i < level x.0 = omega arith in r

at_least : (p : Op × Tree) (l : ℕ) (q : Option (Op × ℕ × List ℕ)) → 1 ≤ level p.0 → level p.0 ≤ l → AtLeast l q → Above (lower p.0) q
at_least p l None one le a = tt
at_least p l (Some x) one le a = let r : lower p.0 < level x.0 = omega arith in r

-- what a chain gives, by whether an operator of its level comes next
abbrev OfChain : (k : ℕ) → (ℕ → List ℕ → Outcome → Type 0) → Tree → ℕ → List ℕ → Outcome → Option (Op × ℕ × List ℕ) → Type 0
OfChain k L x n t o None = o ≡ done x n t
OfChain k L x n t o (Some y) = Unit {0}

of_chain : (k : ℕ) (L : ℕ → List ℕ → Outcome → Type 0) {x : Tree} {n : ℕ} {t : List ℕ} {o : Outcome} → ChainAt k L x n t o → OfChain k L x n t o (of_level k (next_operator n t))
of_chain k L {x} {n} {t} (chain_ends e) = subst (OfChain k L x n t (done x n t)) (sym e) refl
of_chain k L {x} {n} {t} (chain_bad {b = b} e h) = subst (OfChain k L x n t (bad b)) (sym e) tt
of_chain k L {x} {n} {t} (chain_goes y {o = o} e h c) = subst (OfChain k L x n t o) (sym e) tt

ends_there : (k : ℕ) (L : ℕ → List ℕ → Outcome → Type 0) (x : Tree) (n : ℕ) (t : List ℕ) (o : Outcome) → of_level k (next_operator n t) ≡ None → ChainAt k L x n t o → o ≡ done x n t
ends_there k L x n t o e h = subst (OfChain k L x n t o) e (of_chain k L h)

pub with_push : (ops : List Op) (op : Op) (x : Tree) → with_signs (ops ++ op ∷ []) x ≡ with_signs ops (unary op x)
with_push [] op x = refl
with_push (o ∷ ops) op x = ap (unary o) (with_push ops op x)

signs_signed : (ops : List Op) (op : Op) (o : Outcome) → signs_before (ops ++ op ∷ []) o ≡ signs_before ops (signed op o)
signs_signed ops op (done x n t) = ap (λ y. done y n t) (with_push ops op x)
signs_signed ops op (bad b) = refl

pub signs_push : (ops ops' : List Op) (op : Op) (o : Outcome) → ops' ≡ ops ++ op ∷ [] → signs_before ops' o ≡ signs_before ops (signed op o)
signs_push ops ops' op o e = ap (λ z. signs_before z o) e ∙ signs_signed ops op o

module _ (S : ℕ → List ℕ → Outcome → Type 0) where
  -- levels at which no operator comes are passed over
  quiet : (a d j i e : ℕ) (x : Tree) (n : ℕ) (t : List ℕ) (w : Outcome) → a + j ≡ i → a + d ≡ e → Above i (next_operator n t) → Up S d i (done x n t) w → Up S e j (done x n t) w
  quiet zero d j i e x n t w p q h u =
      let p' : i ≡ j = omega (arith, p) in
      let q' : d ≡ e = omega (arith, q) in
      subst (λ k. Up S k j (done x n t) w) q' (subst (λ k. Up S d k (done x n t) w) p' u)
  quiet (suc a) d j i zero x n t w p q h u = absurd (omega (arith, q))
  quiet (suc a) d j i (suc e) x n t w p q h u =
      (done x n t, chain_ends (above_none i (suc j) (next_operator n t) h (omega (arith, p))), quiet a d (suc j) i e x n t w (omega (arith, p)) (omega (arith, q)) h u)

  fall : (a d j i e : ℕ) (x : Tree) (n : ℕ) (t : List ℕ) (w : Outcome) → a + j ≡ i → a + d ≡ e → Above i (next_operator n t) → Up S e j (done x n t) w → Up S d i (done x n t) w
  fall zero d j i e x n t w p q h u =
      let p' : j ≡ i = omega (arith, p) in
      let q' : e ≡ d = omega (arith, q) in
      subst (λ k. Up S d k (done x n t) w) p' (subst (λ k. Up S k j (done x n t) w) q' u)
  fall (suc a) d j i zero x n t w p q h u = absurd (omega (arith, q))
  fall (suc a) d j i (suc e) x n t w p q h u =
      let s : u.0 ≡ done x n t = ends_there (suc j) (LevelAt S j) x n t u.0 (above_none i (suc j) (next_operator n t) h (omega (arith, p))) u.1 in
      fall a d (suc j) i e x n t w (omega (arith, p)) (omega (arith, q)) h (subst (λ v. Up S e (suc j) v w) s u.2)

  rest_quiet : (ps : List (Op × Tree)) (a d j i e : ℕ) (x : Tree) (n : ℕ) (t : List ℕ) (o : Outcome) → a + j ≡ i → a + d ≡ e → Above i (next_operator n t) → Rest S ps d i (done x n t) o → Rest S ps e j (done x n t) o
  rest_quiet [] a d j i e x n t o p q h u = quiet a d j i e x n t o p q h u
  rest_quiet (y ∷ ps) a d j i e x n t o p q h u = (u.0, quiet a d j i e x n t u.0 p q h u.1, u.2)

  rest_fall : (ps : List (Op × Tree)) (a d j i e : ℕ) (x : Tree) (n : ℕ) (t : List ℕ) (o : Outcome) → a + j ≡ i → a + d ≡ e → Above i (next_operator n t) → Rest S ps e j (done x n t) o → Rest S ps d i (done x n t) o
  rest_fall [] a d j i e x n t o p q h u = fall a d j i e x n t o p q h u
  rest_fall (y ∷ ps) a d j i e x n t o p q h u = (u.0, fall a d j i e x n t u.0 p q h u.1, u.2)

  up_bad : (d j b : ℕ) → Up S d j (bad b) (bad b)
  up_bad zero j b = refl
  up_bad (suc d) j b = (bad b, refl, up_bad d (suc j) b)

  rest_bad : (ps : List (Op × Tree)) (d j b : ℕ) → IsStack ps → Rest S ps d j (bad b) (bad b)
  rest_bad [] d j b h = up_bad d j b
  rest_bad (p ∷ ps) d j b h =
      let e : (limit ps - level p.0) + suc (lower p.0) ≡ limit ps = omega (arith, h.0, h.1) in
      (bad b, up_bad d j b, (bad b, refl, (limit ps - level p.0, e, rest_bad ps (limit ps - level p.0) (suc (lower p.0)) b h.2)))

  pub operand_bad : (ps : List (Op × Tree)) (b : ℕ) → IsStack ps → FromOperand S ps (bad b) (bad b)
  operand_bad ps b h = rest_bad ps (limit ps) zero b h

  up_step : (ps : List (Op × Tree)) (e l : ℕ) (v c o : Outcome) → Then (ChainAt (suc l) (LevelAt S l)) v c → Rest S ps e (suc l) c o → Rest S ps (suc e) l v o
  up_step [] e l v c o h u = (c, h, u)
  up_step (p ∷ ps) e l v c o h u = (u.0, (c, h, u.1), u.2)

  step_up : (ps : List (Op × Tree)) (e l : ℕ) (v o : Outcome) → Rest S ps (suc e) l v o → (c : Outcome) × Then (ChainAt (suc l) (LevelAt S l)) v c × Rest S ps e (suc l) c o
  step_up [] e l v o u = u
  step_up (p ∷ ps) e l v o u = (u.1.0, u.1.1, (u.0, u.1.2, u.2))

  raise : (d j k n : ℕ) (t : List ℕ) (v w : Outcome) → d + j ≡ k → LevelAt S j n t v → Up S d j v w → LevelAt S k n t w
  unfolding LevelAt
  raise zero j k n t v w e h u =
      let e' : j ≡ k = omega (arith, e) in
      subst (λ z. LevelAt S z n t w) e' (subst (λ z. LevelAt S j n t z) u h)
  raise (suc d) j k n t v w e h u = raise d (suc j) k n t u.0 w (omega (arith, e)) (v, h, u.1) u.2

  zero_level : (n : ℕ) (t : List ℕ) (v : Outcome) → S n t v → LevelAt S zero n t v
  unfolding LevelAt
  zero_level n t v h = h

  -- the first operand of all
  pub from_first : (n : ℕ) (t : List ℕ) (v o : Outcome) → S n t v → FromOperand S [] v o → LevelAt S loosest n t o
  from_first n t v o h u = raise loosest zero loosest n t v o (omega arith) (zero_level n t v h) u

  -- the operator that waits innermost takes its right side
  pub popped : (p : Op × Tree) (ps : List (Op × Tree)) (x : Tree) (n l : ℕ) (t : List ℕ) (o : Outcome) → IsStack (p ∷ ps) → level p.0 ≤ l → AtLeast l (next_operator n t)
      → FromOperand S ps (done (binary p.0 p.1 x) n t) o → FromOperand S (p ∷ ps) (done x n t) o
  popped p ps x n l t o h le a u =
      let m = lower p.0 in
      let above : Above m (next_operator n t) = at_least p l (next_operator n t) h.0 le a in
      let e = limit ps - level p.0 in
      let down = rest_fall ps m (suc e) zero m (limit ps) (binary p.0 p.1 x) n t o (omega arith) (omega (arith, h.0, h.1)) above u in
      let c = step_up ps e m (done (binary p.0 p.1 x) n t) o down in
      (done x n t, quiet m zero zero m m x n t (done x n t) (omega arith) (omega arith) above refl, (c.0, c.1, (e, omega (arith, h.0, h.1), c.2)))

  -- an operator with its right side
  joins_chain : (x : Tree) (op : Op) (n m : ℕ) (t r : List ℕ) (w c : Outcome) → 1 ≤ level op → next_operator n t ≡ Some (op, m, r) → LevelAt S (lower op) m r w → Joins S (op, x) w c → ChainAt (suc (lower op)) (LevelAt S (lower op)) x n t c
  joins_chain x op n m t r (bad b) c le e h j =
      let q : of_level (suc (lower op)) (next_operator n t) ≡ Some (op, m, r) = ap (of_level (suc (lower op))) e ∙ by_same (suc (lower op)) (level op) (op, m, r) (omega (arith, le)) in
      subst (λ z. ChainAt (suc (lower op)) (LevelAt S (lower op)) x n t z) (sym j) (chain_bad q h)
  joins_chain x op n m t r (done y i u) c le e h j =
      let q : of_level (suc (lower op)) (next_operator n t) ≡ Some (op, m, r) = ap (of_level (suc (lower op))) e ∙ by_same (suc (lower op)) (level op) (op, m, r) (omega (arith, le)) in
      chain_goes y q h j

  pub pushed : (ps : List (Op × Tree)) (x : Tree) (op : Op) (n m : ℕ) (t r : List ℕ) (v o : Outcome) → 1 ≤ level op → level op ≤ limit ps → next_operator n t ≡ Some (op, m, r)
      → S m r v → FromOperand S ((op, x) ∷ ps) v o → FromOperand S ps (done x n t) o
  pushed ps x op n m t r v o one le e h u =
      let l = lower op in
      let right : LevelAt S l m r u.0 = raise l zero l m r v u.0 (omega arith) (zero_level m r v h) u.1 in
      let chain = joins_chain x op n m t r u.0 u.2.0 one e right u.2.1 in
      let at : Rest S ps (suc u.2.2.0) l (done x n t) o = up_step ps u.2.2.0 l (done x n t) u.2.0 o chain u.2.2.2 in
      let above : Above l (next_operator n t) = subst (Above l) (sym e) (let lt : l < level op = omega (arith, one) in lt) in
      rest_quiet ps l (suc u.2.2.0) zero l (limit ps) x n t o (omega arith) (omega (arith, u.2.2.1)) above at

  -- nothing waits, and no operator comes
  pub ended : (x : Tree) (n : ℕ) (t : List ℕ) → next_operator n t ≡ None → FromOperand S [] (done x n t) (done x n t)
  ended x n t e = quiet loosest zero zero loosest loosest x n t (done x n t) (omega arith) (omega arith) (subst (Above loosest) (sym e) tt) refl

  pub pops : (fs fs' : List (Op × Tree)) (p : Op × Tree) (x y : Tree) (n l : ℕ) (t : List ℕ) (o : Outcome) → fs ≡ p ∷ fs' → y ≡ binary p.0 p.1 x → IsStack fs → level p.0 ≤ l → AtLeast l (next_operator n t)
      → FromOperand S fs' (done y n t) o → FromOperand S fs (done x n t) o
  pops fs fs' p x y n l t o e q h le a u =
      subst (λ z. FromOperand S z (done x n t) o) (sym e) (popped p fs' x n l t o (subst IsStack e h) le a (subst (λ z. FromOperand S fs' (done z n t) o) q u))

pub stack_tail : (fs fs' : List (Op × Tree)) (p : Op × Tree) → fs ≡ p ∷ fs' → IsStack fs → IsStack fs'
stack_tail fs fs' p e h = (subst IsStack e h).2
