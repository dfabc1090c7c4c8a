-- What comes next in two texts that share a front: it is the same, as long as it stands in that front.
use Rattle.std.proofs.Common.{◌≡◌, ℕ, zero, suc, ◌+◌, ◌<◌, ◌≤◌, List, [], ◌∷◌, ◌++◌, length, Bool, true, false, Option, None, Some, refl, ap, subst, ◌⊎◌, inl, inr, arith}
use Rattle.std.specs.Prelude.{◌==◌, if◌then◌else◌}
use Rattle.std.specs.Option.{option_map}
use Rattle.std.proofs.Math.Nat.{eq-or-lt_of_le}
use Rattle.std.proofs.lemmas.Bool.{ne_eqb}
use Rattle.std.proofs.lemmas.Bool.Decides.{nat_tests}
use Rattle.txt_core.specs.Number.{is_space, trimmed_front}
use Rattle.tcl_expr.specs.declared.operator.Op.{Op}
use Rattle.tcl_expr.specs.declared.operator.Op.TheVariants.{Mul, Div, Rem, Add, Sub, Shl, Shr, Lt, Gt, Le, Ge, EqNumber, NeNumber, EqText, NeText, BitAnd, BitXor, BitOr, And, Or}
use Rattle.tcl_expr.specs.Tokens.{single, double, sign, level, Binds, before, either, behind, counted, next_operator, next_sign, next_question, next_colon, is_half, stuck}
use Rattle.tcl_expr.specs.Grammar.{of_level}
use Rattle.tcl_expr.specs.Laws.Fits.{NextFits, AskFits, LeavesAtMost, trimmed_within, operator_fits, sign_fits, colon_fits, question_fits}

none_if : {A : Type 0} (t : Bool) (x y : A) → (if t then Some x else None) ≡ None → (if t then Some y else None) ≡ None
none_if true x y e = absurd (cc)
none_if false x y e = refl

counted_none : (n : ℕ) → counted n None ≡ None
counted_none zero = refl
counted_none (suc n) = refl

-- no operator begins with this byte
pub double_none : (b c : ℕ) → single b ≡ None → is_half b ≡ false → double b c ≡ None
double_none b c s h =
    let s60 : (b == 60) ≡ false = ne_eqb b 60 (λ e. let z : single 60 ≡ None = subst (λ k. single k ≡ None) e s in cc) in
    let s62 : (b == 62) ≡ false = ne_eqb b 62 (λ e. let z : single 62 ≡ None = subst (λ k. single k ≡ None) e s in cc) in
    let s38 : (b == 38) ≡ false = ne_eqb b 38 (λ e. let z : single 38 ≡ None = subst (λ k. single k ≡ None) e s in cc) in
    let s124 : (b == 124) ≡ false = ne_eqb b 124 (λ e. let z : single 124 ≡ None = subst (λ k. single k ≡ None) e s in cc) in
    let h61 : (b == 61) ≡ false = ne_eqb b 61 (λ e. let z : is_half 61 ≡ false = subst (λ k. is_half k ≡ false) e h in cc) in
    let h33 : (b == 33) ≡ false = ne_eqb b 33 (λ e. let z : is_half 33 ≡ false = subst (λ k. is_half k ≡ false) e h in cc) in
    let h101 : (b == 101) ≡ false = ne_eqb b 101 (λ e. let z : is_half 101 ≡ false = subst (λ k. is_half k ≡ false) e h in cc) in
    let h110 : (b == 110) ≡ false = ne_eqb b 110 (λ e. let z : is_half 110 ≡ false = subst (λ k. is_half k ≡ false) e h in cc) in
    rw (s60, s62, s38, s124, h61, h33, h101, h110) refl

pub no_operator : (m b : ℕ) (t : List ℕ) → single b ≡ None → is_half b ≡ false → next_operator m (b ∷ t) ≡ None
no_operator m b [] s h = rw s (counted_none m)
no_operator m b (c ∷ t) s h = rw (double_none b c s h, s) (counted_none m)

-- where none comes next, none is of one byte
single_by : (n : ℕ) (d s : Option Op) (x y : List ℕ) → counted (suc n) (either (before d x) (before s y)) ≡ None → s ≡ None
single_by n (Some op) s x y e = absurd (cc)
single_by n None (Some op) x y e = absurd (cc)
single_by n None None x y e = refl

alone_by : (n : ℕ) (s : Option Op) (y : List ℕ) → counted (suc n) (before s y) ≡ None → s ≡ None
alone_by n (Some op) y e = absurd (cc)
alone_by n None y e = refl

pub single_none : (n b : ℕ) (t : List ℕ) → next_operator (suc n) (b ∷ t) ≡ None → single b ≡ None
single_none n b [] e = alone_by n (single b) [] e
single_none n b (c ∷ t) e = single_by n (double b c) (single b) t (c ∷ t) e

strict_by : (n l : ℕ) (d s : Option Op) (x y : List ℕ) → length x ≤ l → length y ≤ l → NextFits n l (counted n (either (before d x) (before s y)))
strict_by zero l d s x y h k = tt
strict_by (suc n) l (Some op) s x y h k = (omega arith, omega (arith, trimmed_within x, h))
strict_by (suc n) l None (Some op) x y h k = (omega arith, omega (arith, trimmed_within y, k))
strict_by (suc n) l None None x y h k = tt

strict_alone : (n l : ℕ) (s : Option Op) (y : List ℕ) → length y ≤ l → NextFits n l (counted n (before s y))
strict_alone zero l s y k = tt
strict_alone (suc n) l (Some op) y k = (omega arith, omega (arith, trimmed_within y, k))
strict_alone (suc n) l None y k = tt

-- an operator takes a byte
pub strict_next : (n b : ℕ) (t : List ℕ) → NextFits n (length t) (next_operator n (b ∷ t))
strict_next n b [] = strict_alone n 0 (single b) [] (omega arith)
strict_next n b (c ∷ t) = strict_by n (length (c ∷ t)) (double b c) (single b) t (c ∷ t) (omega arith) (omega arith)

abbrev BindsAny : Option Op → Type 0
BindsAny None = Unit {0}
BindsAny (Some op) = Binds op

-- the same, for one that tests choose
record Bound (q : Option Op) : Type 0 where
  binds : BindsAny q

binds_if : (t : Bool) (op : Op) (q : Option Op) → Binds op → Bound q → Bound (if t then Some op else q)
binds_if true op q h k = record { binds = h }
binds_if false op q h k = k

bound_none : Bound None
bound_none = record { binds = tt }

double_binds : (b c : ℕ) → Bound (double b c)
double_binds b c =
    binds_if _ Shl _ (omega arith, omega arith) (binds_if _ Shr _ (omega arith, omega arith) (binds_if _ Le _ (omega arith, omega arith) (binds_if _ Ge _ (omega arith, omega arith) (binds_if _ EqNumber _ (omega arith, omega arith)
    (binds_if _ NeNumber _ (omega arith, omega arith) (binds_if _ EqText _ (omega arith, omega arith) (binds_if _ NeText _ (omega arith, omega arith) (binds_if _ And _ (omega arith, omega arith) (binds_if _ Or None (omega arith, omega arith) bound_none)))))))))

single_binds : (b : ℕ) → Bound (single b)
single_binds b =
    binds_if _ Mul _ (omega arith, omega arith) (binds_if _ Div _ (omega arith, omega arith) (binds_if _ Rem _ (omega arith, omega arith) (binds_if _ Add _ (omega arith, omega arith) (binds_if _ Sub _ (omega arith, omega arith)
    (binds_if _ Lt _ (omega arith, omega arith) (binds_if _ Gt _ (omega arith, omega arith) (binds_if _ BitAnd _ (omega arith, omega arith) (binds_if _ BitXor _ (omega arith, omega arith) (binds_if _ BitOr None (omega arith, omega arith) bound_none)))))))))

abbrev pub NextBinds : Option (Op × ℕ × List ℕ) → Type 0
NextBinds None = Unit {0}
NextBinds (Some x) = Binds x.0

next_binds_by : (n : ℕ) (d s : Option Op) (x y : List ℕ) → BindsAny d → BindsAny s → NextBinds (counted n (either (before d x) (before s y)))
next_binds_by zero d s x y h k = tt
next_binds_by (suc n) (Some op) s x y h k = h
next_binds_by (suc n) None (Some op) x y h k = k
next_binds_by (suc n) None None x y h k = tt

pub next_binds : (n : ℕ) (t : List ℕ) → NextBinds (next_operator n t)
next_binds zero t = tt
next_binds (suc n) [] = tt
next_binds (suc n) (b ∷ []) = next_binds_by (suc n) None (single b) [] [] tt (single_binds b).binds
next_binds (suc n) (b ∷ c ∷ t) = next_binds_by (suc n) (double b c) (single b) t (c ∷ t) (double_binds b c).binds (single_binds b).binds

same_level : (k : ℕ) (x : Op × ℕ × List ℕ) → level x.0 ≡ k → of_level k (Some x) ≡ None → ⊥
same_level k x e h = same_test (level x.0) k x e h
  where
    same_test : (l k : ℕ) (x : Op × ℕ × List ℕ) → l ≡ k → (if l == k then Some x else None) ≡ None → ⊥
    same_test l k x e h = grind (arith, nat_tests)

all_by : (q : Option (Op × ℕ × List ℕ)) → NextBinds q → ((j : ℕ) → 1 ≤ j → j ≤ 11 → of_level j q ≡ None) → q ≡ None
all_by None b h = refl
all_by (Some x) b h = absurd (same_level (level x.0) x refl (h (level x.0) b.0 b.1))

-- none comes next where none of any level does
pub all_none : (n : ℕ) (t : List ℕ) → ((j : ℕ) → 1 ≤ j → j ≤ 11 → of_level j (next_operator n t) ≡ None) → next_operator n t ≡ None
all_none n t h = all_by (next_operator n t) (next_binds n t) h

-- a question mark's rest, with how many operators may come behind it
abbrev pub with_count : ℕ → Option (List ℕ) → Option (ℕ × List ℕ)
with_count n q = option_map (λ r. (n, r)) q

module _ (u v : List ℕ) (Fine : List ℕ → Type 0) (fine_tail : (b : ℕ) (g : List ℕ) → Fine (b ∷ g) → Fine g) where
  -- two texts with the same front before u and v
  abbrev pub Same : List ℕ → List ℕ → Type 0
  Same r s = (h : List ℕ) × (r ≡ h ++ u) × (s ≡ h ++ v) × Fine h

  trim_if : (t : Bool) (b : ℕ) (g : List ℕ) → Fine (b ∷ g) → (length u < length (trimmed_front (g ++ u)) → Same (trimmed_front (g ++ u)) (trimmed_front (g ++ v)))
      → length u < length (if t then trimmed_front (g ++ u) else b ∷ g ++ u) → Same (if t then trimmed_front (g ++ u) else b ∷ g ++ u) (if t then trimmed_front (g ++ v) else b ∷ g ++ v)
  trim_if true b g f go lt = go lt
  trim_if false b g f go lt = (b ∷ g, refl, refl, f)

  pub trim : (g : List ℕ) → Fine g → length u < length (trimmed_front (g ++ u)) → Same (trimmed_front (g ++ u)) (trimmed_front (g ++ v))
  trim [] f lt = absurd (omega (arith, lt, trimmed_within u))
  trim (b ∷ g) f lt = trim_if (is_space b) b g f (trim g (fine_tail b g f)) lt

  abbrev pub NextMoves : Option (Op × ℕ × List ℕ) → Option (Op × ℕ × List ℕ) → Type 0
  NextMoves None q = Unit {0}
  NextMoves (Some x) q = length u < length x.2 → (h : List ℕ) × (x.2 ≡ h ++ u) × Fine h × (q ≡ Some (x.0, x.1, h ++ v))

  never_next : (n l : ℕ) (q p : Option (Op × ℕ × List ℕ)) → l ≤ length u → NextFits n l q → NextMoves q p
  never_next n l None p le h = tt
  never_next n l (Some x) p le h = λ lt. absurd (omega (arith, h.1, lt, le))

  counted_moves : (n : ℕ) (op : Op) (g : List ℕ) → Fine g → NextMoves (counted n (Some (op, g ++ u))) (counted n (Some (op, g ++ v)))
  counted_moves zero op g f = tt
  counted_moves (suc n) op g f = λ lt. let s = trim g f lt in (s.0, s.1, s.3, ap (λ (z : List ℕ). Some (op, n, z)) s.2)

  moves_by : (n c : ℕ) (g : List ℕ) (d s : Option Op) → Fine (c ∷ g) → NextMoves (counted n (either (before d (g ++ u)) (before s (c ∷ g ++ u)))) (counted n (either (before d (g ++ v)) (before s (c ∷ g ++ v))))
  moves_by n c g (Some op) s f = counted_moves n op g (fine_tail c g f)
  moves_by n c g None (Some op) f = counted_moves n op (c ∷ g) f
  moves_by zero c g None None f = tt
  moves_by (suc n) c g None None f = tt

  pub operator_moves : (n : ℕ) (g : List ℕ) → Fine g → NextMoves (next_operator n (g ++ u)) (next_operator n (g ++ v))
  operator_moves n [] f = never_next n (length u) (next_operator n u) (next_operator n v) (omega arith) (operator_fits n u)
  operator_moves n (b ∷ []) f = never_next n (length u) (next_operator n (b ∷ u)) (next_operator n (b ∷ v)) (omega arith) (strict_next n b u)
  operator_moves n (b ∷ c ∷ g) f = moves_by n c g (double b c) (single b) (fine_tail b (c ∷ g) f)

  pick_moves : (t : Bool) (x : Op × ℕ × List ℕ) (q : Option (Op × ℕ × List ℕ)) → (length u < length x.2 → (h : List ℕ) × (x.2 ≡ h ++ u) × Fine h × (q ≡ (if t then Some (x.0, x.1, h ++ v) else None)))
      → NextMoves (if t then Some x else None) q
  pick_moves true x q f = f
  pick_moves false x q f = tt

  of_level_moves : (k : ℕ) (q p : Option (Op × ℕ × List ℕ)) → NextMoves q p → NextMoves (of_level k q) (of_level k p)
  of_level_moves k None p f = tt
  of_level_moves k (Some x) p f = pick_moves (level x.0 == k) x (of_level k p) (λ lt. let z = f lt in (z.0, z.1, z.2, ap (of_level k) z.3))

  pub level_moves : (k n : ℕ) (g : List ℕ) → Fine g → NextMoves (of_level k (next_operator n (g ++ u))) (of_level k (next_operator n (g ++ v)))
  level_moves k n g f = of_level_moves k (next_operator n (g ++ u)) (next_operator n (g ++ v)) (operator_moves n g f)

  sign_by : (n : ℕ) (g : List ℕ) (s : Option Op) → Fine g → NextMoves (counted n (before s (g ++ u))) (counted n (before s (g ++ v)))
  sign_by n g (Some op) f = counted_moves n op g f
  sign_by zero g None f = tt
  sign_by (suc n) g None f = tt

  pub sign_moves : (n : ℕ) (g : List ℕ) → Fine g → NextMoves (next_sign n (g ++ u)) (next_sign n (g ++ v))
  sign_moves n [] f = never_next n (length u) (next_sign n u) (next_sign n v) (omega arith) (sign_fits n u)
  sign_moves n (b ∷ g) f = sign_by n g (sign b) (fine_tail b g f)

  sign_none_by : (n : ℕ) (s : Option Op) (x y : List ℕ) → counted n (before s x) ≡ None → counted n (before s y) ≡ None
  sign_none_by zero s x y e = refl
  sign_none_by (suc n) (Some op) x y e = absurd (cc)
  sign_none_by (suc n) None x y e = refl

  pub sign_none : (n b : ℕ) (g : List ℕ) → next_sign n (b ∷ g ++ u) ≡ None → next_sign n (b ∷ g ++ v) ≡ None
  sign_none n b g e = sign_none_by n (sign b) (g ++ u) (g ++ v) e

  abbrev pub BehindMoves : Option (List ℕ) → Option (List ℕ) → Type 0
  BehindMoves None q = Unit {0}
  BehindMoves (Some r) q = length u < length r → (h : List ℕ) × (r ≡ h ++ u) × Fine h × (q ≡ Some (h ++ v))

  never_behind : (q p : Option (List ℕ)) → LeavesAtMost (length u) q → BehindMoves q p
  never_behind None p h = tt
  never_behind (Some r) p h = λ lt. absurd (omega (arith, h, lt))

  behind_by : (t : Bool) (g : List ℕ) → Fine g → BehindMoves (if t then Some (trimmed_front (g ++ u)) else None) (if t then Some (trimmed_front (g ++ v)) else None)
  behind_by true g f = λ lt. let s = trim g f lt in (s.0, s.1, s.3, ap (λ (z : List ℕ). Some z) s.2)
  behind_by false g f = tt

  pub colon_moves : (g : List ℕ) → Fine g → BehindMoves (next_colon (g ++ u)) (next_colon (g ++ v))
  colon_moves [] f = never_behind (next_colon u) (next_colon v) (colon_fits u)
  colon_moves (b ∷ g) f = behind_by (b == 58) g (fine_tail b g f)

  pub colon_none : (b : ℕ) (g : List ℕ) → next_colon (b ∷ g ++ u) ≡ None → next_colon (b ∷ g ++ v) ≡ None
  colon_none b g e = none_if (b == 58) (trimmed_front (g ++ u)) (trimmed_front (g ++ v)) e

  abbrev pub AskMoves : Option (ℕ × List ℕ) → Option (ℕ × List ℕ) → Type 0
  AskMoves None q = Unit {0}
  AskMoves (Some x) q = length u < length x.1 → (h : List ℕ) × (x.1 ≡ h ++ u) × Fine h × (q ≡ Some (x.0, h ++ v))

  never_ask : (n : ℕ) (q p : Option (ℕ × List ℕ)) → AskFits n (length u) q → AskMoves q p
  never_ask n None p h = tt
  never_ask n (Some x) p h = λ lt. absurd (omega (arith, h.1, lt))

  ask_by : (n : ℕ) (q p : Option (List ℕ)) → BehindMoves q p → AskMoves (option_map (λ r. (n, r)) q) (option_map (λ r. (n, r)) p)
  ask_by n None p f = tt
  ask_by n (Some r) p f = λ lt. let z = f lt in (z.0, z.1, z.2, ap (λ (q : Option (List ℕ)). option_map (λ r. (n, r)) q) z.3)

  pub question_moves : (n : ℕ) (g : List ℕ) → Fine g → AskMoves (next_question n (g ++ u)) (next_question n (g ++ v))
  question_moves n [] f = never_ask n (next_question n u) (next_question n v) (question_fits n u)
  question_moves zero (b ∷ g) f = tt
  question_moves (suc n) (b ∷ g) f = ask_by n (behind 63 (b ∷ g ++ u)) (behind 63 (b ∷ g ++ v)) (behind_by (b == 63) g (fine_tail b g f))

  question_none_by : (n : ℕ) (t : Bool) (x y : List ℕ) → with_count n (if t then Some x else None) ≡ None → with_count n (if t then Some y else None) ≡ None
  question_none_by n true x y e = absurd (cc)
  question_none_by n false x y e = refl

  pub question_none : (n b : ℕ) (g : List ℕ) → next_question n (b ∷ g ++ u) ≡ None → next_question n (b ∷ g ++ v) ≡ None
  question_none zero b g e = refl
  question_none (suc n) b g e = question_none_by n (b == 63) (trimmed_front (g ++ u)) (trimmed_front (g ++ v)) e

  -- where this is left, no operator that reaches past the front comes next
  abbrev pub Ends : ℕ → List ℕ → Type 0
  Ends zero t = Unit {0}
  Ends (suc m) [] = Unit {0}
  Ends (suc m) (b ∷ t) = (single b ≡ None) × (is_half b ≡ false)

  abbrev pub Settled : ℕ → List ℕ → Type 0
  Settled m r = (length u + 2 ≤ length r) ⊎ ((length u + 1 ≡ length r) × Ends m r)

  level_none_by : (k n : ℕ) (d s : Option Op) (x y z w : List ℕ) → of_level k (counted (suc n) (either (before d x) (before s y))) ≡ None → of_level k (counted (suc n) (either (before d z) (before s w))) ≡ None
  level_none_by k n (Some op) s x y z w e = none_if (level op == k) (op, n, trimmed_front x) (op, n, trimmed_front z) e
  level_none_by k n None (Some op) x y z w e = none_if (level op == k) (op, n, trimmed_front y) (op, n, trimmed_front w) e
  level_none_by k n None None x y z w e = refl

  pub level_none : (k n b : ℕ) (g : List ℕ) → Settled n (b ∷ g ++ u) → of_level k (next_operator n (b ∷ g ++ u)) ≡ None → of_level k (next_operator n (b ∷ g ++ v)) ≡ None
  level_none k zero b g s e = refl
  level_none k (suc n) b [] (inl le) e = absurd (omega (arith, le))
  level_none k (suc n) b [] (inr s) e = ap (of_level k) (no_operator (suc n) b v s.1.0 s.1.1)
  level_none k (suc n) b (c ∷ g) s e = level_none_by k n (double b c) (single b) (g ++ u) (c ∷ g ++ u) (g ++ v) (c ∷ g ++ v) e

  settled_alone : (n b : ℕ) (r : List ℕ) → Ends n (b ∷ r) → (length u ≡ length r) ⊎ (length u < length r) → Settled n (b ∷ r)
  settled_alone n b r e (inl q) = inr (omega (arith, q), e)
  settled_alone n b r e (inr lt) = inl (omega (arith, lt))

  pub settled_far : (n b : ℕ) (r : List ℕ) → length u < length r → Settled n (b ∷ r)
  settled_far n b r lt = inl (omega (arith, lt))

  stuck_by : (t : Bool) (b n : ℕ) (r : List ℕ) → is_half b ≡ t → single b ≡ None → length u < (if t then length r else length (b ∷ r)) → Settled (suc n) (b ∷ r)
  stuck_by true b n r e s lt = settled_far (suc n) b r lt
  stuck_by false b n r e s lt = settled_alone (suc n) b r (s, e) (eq-or-lt_of_le (omega (arith, lt)))

  -- Behind a bad place that stands in the front, what is left is settled.
  pub stuck_settled : (n b : ℕ) (r : List ℕ) → next_operator n (b ∷ r) ≡ None → length u < stuck n (b ∷ r) → Settled n (b ∷ r)
  stuck_settled zero b r e lt = settled_alone zero b r tt (eq-or-lt_of_le (omega (arith, lt)))
  stuck_settled (suc n) b r e lt = stuck_by (is_half b) b n r refl (single_none n b r e) lt
