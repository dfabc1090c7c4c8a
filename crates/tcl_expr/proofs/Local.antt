-- What is read of two texts that share a front is the same, as long as it ends, or is bad, in that front.
use Rattle.std.proofs.Common.{◌≡◌, ℕ, zero, suc, ◌+◌, ◌-◌, ◌<◌, ◌≤◌, List, [], ◌∷◌, ◌++◌, length, take, drop, Bool, true, false, cond, Option, None, Some, refl, ap, sym, ◌∙◌, subst, ◌⊎◌, inl, inr, arith}
use Rattle.std.specs.Prelude.{◌==◌, ◌&&◌, if◌then◌else◌}
use Rattle.std.specs.List.{list_all, prefix_len}
use Rattle.std.proofs.Math.Nat.{eq-or-lt_of_le}
use Rattle.std.proofs.Math.Seq.{take-append-add, drop-append-add}
use Rattle.std.proofs.lemmas.Bool.{ne_eqb}
use Rattle.std.proofs.lemmas.Bool.Decides.{nat_tests}
use Rattle.std.proofs.lemmas.List.{length-append, length-drop, take-append-le, drop-append-le}
use Rattle.std.proofs.lemmas.List.Folds.{prefix_len-append}
use Rattle.std.proofs.lemmas.List.Sums.{prefix_len-le-length}
use Rattle.txt_core.specs.Number.{trimmed_front}
use Rattle.tcl_parse.specs.Grammar.{by_brace, by_quote, bare}
use Rattle.tcl_expr.specs.declared.operator.Op.{Op}
use Rattle.tcl_expr.specs.Trees.{Tree, value, binary}
use Rattle.tcl_expr.specs.Outcome.{Outcome, done, bad, signed, chosen, bad_from}
use Rattle.tcl_expr.specs.Tokens.{is_half, loosest, next_operator, next_sign, next_question, next_colon, stuck}
use Rattle.tcl_expr.specs.Runs.{is_word, run_at, names_value, value_front}
use Rattle.tcl_expr.specs.Grammar.{run_operand, closed, Start, enclosed, substituted, run, parenthesis, nothing, start, start_by, OperandBy, SignedAt, no_sign, one_sign, of_level, ChainAt, chain_ends, chain_bad, chain_goes, Then, LevelAt, ChoiceAt, bad_test, no_choice, bad_middle, no_last, one_choice, ExpressionBy, InParens, most_operators, whole, Reads}
use Rattle.txt_core.specs.Limits.{most_nested}
use Rattle.tcl_expr.specs.Answers.{WordGives, PartGives}
use Rattle.tcl_expr.specs.Laws.Fits.{Fits, NextFits, trimmed_within, of_level_fits, signed_at_fits, chain_fits, level_fits, choice_fits, parens_fits, expression_fits}
use Rattle.tcl_expr.specs.Laws.Some.{IsFit}
use Rattle.tcl_expr.proofs.Tokens as tokens
use Rattle.tcl_expr.proofs.Fronts.{front_local, never_value}

abbrev pub by_run : ℕ → ℕ → List ℕ × List ℕ → Outcome
by_run n l x = if names_value x.0 then done (value x.0) n (trimmed_front x.1) else bad (l - value_front x.0)

same_cond : (n k a b : ℕ) → n ≡ k → cond (n == k) a b ≡ a
same_cond n k a b e = grind (arith, nat_tests)

pub run_short : (g w : List ℕ) → prefix_len is_word g < length g → run_at (g ++ w) ≡ (take (prefix_len is_word g) g, drop (prefix_len is_word g) g ++ w)
run_short g w lt =
    let j = prefix_len is_word g in
    let le : j ≤ length g = omega (arith, lt) in
    let ne : (j == length g) ≡ false = ne_eqb j (length g) (λ e. absurd (omega (arith, e, lt))) in
    let e : prefix_len is_word (g ++ w) ≡ j = prefix_len-append is_word g w ∙ ap (λ z. cond z (length g + prefix_len is_word w) j) ne in
    rw (e, take-append-le j g w le, drop-append-le j g w le) refl

pub run_long : (g w : List ℕ) → prefix_len is_word g ≡ length g → run_at (g ++ w) ≡ (g ++ (run_at w).0, (run_at w).1)
run_long g w q =
    let e : prefix_len is_word (g ++ w) ≡ length g + prefix_len is_word w = prefix_len-append is_word g w ∙ same_cond (prefix_len is_word g) (length g) (length g + prefix_len is_word w) (prefix_len is_word g) q in
    rw (e, take-append-add g w (prefix_len is_word w), drop-append-add g w (prefix_len is_word w)) refl

and_true : (a c : Bool) → a ≡ true → c ≡ true → (a && c) ≡ true
and_true true c e h = h
and_true false c e h = absurd (cc)

all_run_by : (b : ℕ) (t : List ℕ) (s : Bool) → is_word b ≡ s → list_all is_word (run_at t).0 ≡ true → list_all is_word (take (cond s (1 + prefix_len is_word t) 0) (b ∷ t)) ≡ true
all_run_by b t true e h =
    let n = prefix_len is_word t in
    let k : suc n ≡ 1 + n = omega arith in
    subst (λ z. list_all is_word (take z (b ∷ t)) ≡ true) k (and_true (is_word b) (list_all is_word (take n t)) e h)
all_run_by b t false e h = refl

pub all_run : (t : List ℕ) → list_all is_word (run_at t).0 ≡ true
all_run [] = refl
all_run (b ∷ t) = all_run_by b t (is_word b) refl (all_run t)

not_true : (b : Bool) → (b ≡ true → ⊥) → b ≡ false
not_true true h = absurd (h refl)
not_true false h = refl

pub start_same : (b : ℕ) (s t : List ℕ) → start (b ∷ s) ≡ start (b ∷ t)
start_same b s t = start_by_same (b == 123) (b == 34)
  where
    start_by_same : (p q : Bool) → start_by (if p then by_brace else if q then by_quote else bare) (b ∷ s) ≡ start_by (if p then by_brace else if q then by_quote else bare) (b ∷ t)
    start_by_same true q = refl
    start_by_same false true = refl
    start_by_same false false = refl

chain_takes : (k n m : ℕ) (t r : List ℕ) (op : Op) → of_level k (next_operator n t) ≡ Some (op, m, r) → length r + 1 ≤ length t
chain_takes k zero m t r op e = absurd (cc)
chain_takes k (suc n) m [] r op e = absurd (cc)
chain_takes k (suc n) m (b ∷ t) r op e =
    let f = subst (NextFits (suc n) (length t)) e (of_level_fits k (suc n) (length t) (next_operator (suc n) (b ∷ t)) (tokens.strict_next (suc n) b t)) in
    omega (arith, f.1)

some_is : (t : Bool) (x r : List ℕ) → (if t then Some x else None) ≡ Some r → x ≡ r
some_is true x r e = cc
some_is false x r e = absurd (cc)

colon_takes : (t r : List ℕ) → next_colon t ≡ Some r → length r + 1 ≤ length t
colon_takes [] r e = absurd (cc)
colon_takes (b ∷ t) r e =
    let q : trimmed_front t ≡ r = some_is (b == 58) (trimmed_front t) r e in
    omega (arith, ap length q, trimmed_within t)

abbrev rest_of : Option (ℕ × List ℕ) → List ℕ
rest_of None = []
rest_of (Some y) = y.1

pair_is : (n i : ℕ) (t : Bool) (x r : List ℕ) → tokens.with_count n (if t then Some x else None) ≡ Some (i, r) → x ≡ r
pair_is n i true x r e = ap rest_of e
pair_is n i false x r e = absurd (cc)

ask_takes : (m i : ℕ) (t r : List ℕ) → next_question m t ≡ Some (i, r) → length r + 1 ≤ length t
ask_takes zero i t r e = absurd (cc)
ask_takes (suc m) i [] r e = absurd (cc)
ask_takes (suc m) i (b ∷ t) r e =
    let q : trimmed_front t ≡ r = pair_is m i (b == 63) (trimmed_front t) r e in
    omega (arith, ap length q, trimmed_within t)

-- where reading is done, no operator comes next
abbrev pub EndedAt : Outcome → Type 0
EndedAt (done x m r) = next_operator m r ≡ None
EndedAt (bad b) = Unit {0}

chosen_ended : (x y : Tree) (o : Outcome) → EndedAt o → EndedAt (chosen x y o)
chosen_ended x y (done z m r) h = h
chosen_ended x y (bad b) h = tt

abbrev QuietAt : ℕ → Outcome → Type 0
QuietAt k (done x m r) = (j : ℕ) → 1 ≤ j → j ≤ k → of_level j (next_operator m r) ≡ None
QuietAt k (bad b) = Unit {0}

module _ (k : ℕ) (L : ℕ → List ℕ → Outcome → Type 0) (L_quiet : (n : ℕ) (t : List ℕ) (o : Outcome) → L n t o → QuietAt k o) where
  quiet_by : (j n : ℕ) (t : List ℕ) → of_level (suc k) (next_operator n t) ≡ None → (j ≤ k → of_level j (next_operator n t) ≡ None) → (j ≡ suc k) ⊎ (j < suc k) → of_level j (next_operator n t) ≡ None
  quiet_by j n t e q (inl s) = subst (λ z. of_level z (next_operator n t) ≡ None) (sym s) e
  quiet_by j n t e q (inr lt) = q (omega (arith, lt))

  chain_quiet : {x : Tree} {n : ℕ} {t : List ℕ} {o : Outcome} → ChainAt (suc k) L x n t o → QuietAt k (done x n t) → QuietAt (suc k) o
  chain_quiet {x} {n} {t} (chain_ends e) q = λ j one le. quiet_by j n t e (q j one) (eq-or-lt_of_le le)
  chain_quiet (chain_bad e h) q = tt
  chain_quiet (chain_goes y {m = m} {i = i} {r = r} {u = u} e h c) q = chain_quiet c (L_quiet m r (done y i u) h)

  then_quiet : (v o : Outcome) → QuietAt k v → Then (ChainAt (suc k) L) v o → QuietAt (suc k) o
  then_quiet (bad b) o q e = subst (QuietAt (suc k)) (sym e) tt
  then_quiet (done x n t) o q c = chain_quiet c q

module _ (S : ℕ → List ℕ → Outcome → Type 0) where
  no_level : (o : Outcome) → QuietAt zero o
  no_level (done x m r) = λ j one le. absurd (omega (arith, one, le))
  no_level (bad b) = tt

  level_quiet : (k n : ℕ) (t : List ℕ) (o : Outcome) → LevelAt S k n t o → QuietAt k o
  unfolding LevelAt
  level_quiet zero n t o h = no_level o
  level_quiet (suc k) n t o h = then_quiet k (LevelAt S k) (level_quiet k) h.0 o (level_quiet k n t h.0 h.1) h.2

  ended_from : (o : Outcome) → QuietAt loosest o → EndedAt o
  ended_from (done x m r) q = tokens.all_none m r q
  ended_from (bad b) q = tt

  pub level_ended : (n : ℕ) (t : List ℕ) (o : Outcome) → LevelAt S loosest n t o → EndedAt o
  level_ended n t o h = ended_from o (level_quiet loosest n t o h)

abbrev IsEnded : (ℕ → List ℕ → Outcome → Type 0) → Type 0
IsEnded R = (n : ℕ) (t : List ℕ) (o : Outcome) → R n t o → EndedAt o

choice_ended : (T : ℕ → List ℕ → Outcome → Type 0) → IsEnded T → {n : ℕ} {t : List ℕ} {o : Outcome} → ChoiceAt T n t o → EndedAt o
choice_ended T T_ended (bad_test h) = tt
choice_ended T T_ended {n} {t} (no_choice x {m = m} {u = u} h e) = T_ended n t (done x m u) h
choice_ended T T_ended (bad_middle x h e k) = tt
choice_ended T T_ended (no_last x y h e k c) = tt
choice_ended T T_ended (one_choice x y {o = o} h e k c l) = chosen_ended x y o (choice_ended T T_ended l)

pub expression_ended : (P : ℕ → List ℕ → Outcome → Type 0) → IsEnded (ExpressionBy P)
expression_ended P n t o h = choice_ended (LevelAt (SignedAt P) loosest) (level_ended (SignedAt P)) h

pub parens_ended : (room : ℕ) → IsEnded (InParens room)
unfolding InParens
parens_ended zero n t o h = subst EndedAt (sym h) tt
parens_ended (suc room) n t o h = expression_ended (InParens room) n (trimmed_front t) o h

module _ (u v : List ℕ) (Fine : List ℕ → Type 0) (fine_tail : (b : ℕ) (g : List ℕ) → Fine (b ∷ g) → Fine g) where
  abbrev pub Left : ℕ → List ℕ → Type 0
  Left m r = tokens.Settled u v Fine fine_tail m r

  -- it ends, or is bad, in the front
  abbrev pub Early : Outcome → Type 0
  Early (done x m r) = Left m r
  Early (bad b) = length u < b

  -- the same outcome for the other text is as Q says
  abbrev pub Moved : (Outcome → Type 0) → Outcome → Type 0
  Moved Q (done x m r) = (h : List ℕ) × (r ≡ h ++ u) × Fine h × Q (done x m (h ++ v))
  Moved Q (bad b) = (c : ℕ) × (b + length v ≡ c + length u) × Q (bad c)

  pub moved_map : (Q R : Outcome → Type 0) → ((o : Outcome) → Q o → R o) → (o : Outcome) → Moved Q o → Moved R o
  moved_map Q R f (done x m r) z = (z.0, z.1, z.2, f (done x m (z.0 ++ v)) z.3)
  moved_map Q R f (bad b) z = (z.0, z.1, f (bad z.0) z.2)

  moved_signed : (op : Op) (Q R : Outcome → Type 0) → ((o : Outcome) → Q o → R (signed op o)) → (o : Outcome) → Moved Q o → Moved R (signed op o)
  moved_signed op Q R f (done x m r) z = (z.0, z.1, z.2, f (done x m (z.0 ++ v)) z.3)
  moved_signed op Q R f (bad b) z = (z.0, z.1, f (bad z.0) z.2)

  moved_chosen : (x y : Tree) (Q R : Outcome → Type 0) → ((o : Outcome) → Q o → R (chosen x y o)) → (o : Outcome) → Moved Q o → Moved R (chosen x y o)
  moved_chosen x y Q R f (done z m r) w = (w.0, w.1, w.2, f (done z m (w.0 ++ v)) w.3)
  moved_chosen x y Q R f (bad b) w = (w.0, w.1, f (bad w.0) w.2)

  early_signed : (op : Op) (o : Outcome) → Early (signed op o) → Early o
  early_signed op (done x m r) e = e
  early_signed op (bad b) e = e

  early_chosen : (x y : Tree) (o : Outcome) → Early (chosen x y o) → Early o
  early_chosen x y (done z m r) e = e
  early_chosen x y (bad b) e = e

  pub left_more : (m : ℕ) (r : List ℕ) → Left m r → length u < length r
  left_more m r (inl h) = omega (arith, h)
  left_more m r (inr h) = omega (arith, h.0)

  pub late : (n l : ℕ) (o : Outcome) → Fits n l o → Early o → length u < l
  late n l (done x m r) f e = let lt = left_more m r e in omega (arith, f.1, lt)
  late n l (bad b) f e = omega (arith, f, e)

  abbrev pub IsLocal : (ℕ → List ℕ → Outcome → Type 0) → Type 0
  IsLocal R = (n : ℕ) (t : List ℕ) (o : Outcome) → R n t o → (g : List ℕ) → t ≡ g ++ u → Fine g → Early o → Moved (R n (g ++ v)) o

  fine_drop : (j : ℕ) (g : List ℕ) → Fine g → Fine (drop j g)
  fine_drop zero g f = f
  fine_drop (suc j) [] f = f
  fine_drop (suc j) (b ∷ g) f = fine_drop j g (fine_tail b g f)

  short_by : (t : Bool) (n : ℕ) (a h : List ℕ) (k f : ℕ) → Fine h → Early (if t then done (value a) n (trimmed_front (h ++ u)) else bad (k + length u - f))
      → Moved (λ w. w ≡ (if t then done (value a) n (trimmed_front (h ++ v)) else bad (k + length v - f))) (if t then done (value a) n (trimmed_front (h ++ u)) else bad (k + length u - f))
  short_by true n a h k f fine e =
      let s = tokens.trim u v Fine fine_tail h fine (left_more n (trimmed_front (h ++ u)) e) in
      (s.0, s.1, s.3, ap (λ (z : List ℕ). done (value a) n z) (sym s.2))
  short_by false n a h k f fine e = (k + length v - f, omega (arith, e), refl)

  long_by : (t s : Bool) (n : ℕ) (x y r z : List ℕ) (k f i : ℕ) → length r ≤ length u → (f < k → (s ≡ false) × (i ≡ f)) → Early (if t then done (value x) n (trimmed_front r) else bad (k + length u - f))
      → Moved (λ w. w ≡ (if s then done (value y) n (trimmed_front z) else bad (k + length v - i))) (if t then done (value x) n (trimmed_front r) else bad (k + length u - f))
  long_by true s n x y r z k f i le h e = absurd (omega (arith, left_more n (trimmed_front r) e, trimmed_within r, le))
  long_by false s n x y r z k f i le h e =
      let p = h (omega (arith, e)) in
      (k + length v - f, omega (arith, e), rw (p.0, p.1) refl)

  run_moves : (n : ℕ) (g : List ℕ) (o : Outcome) → Fine g → o ≡ run_operand n (g ++ u) → Early o → Moved (λ w. w ≡ run_operand n (g ++ v)) o
  run_moves n g o f q e = by_length (eq-or-lt_of_le (prefix_len-le-length is_word g))
    where
      at : (w : List ℕ) (x : List ℕ × List ℕ) → run_at (g ++ w) ≡ x → run_operand n (g ++ w) ≡ by_run n (length g + length w) x
      at w x s = ap (by_run n (length (g ++ w))) s ∙ ap (λ z. by_run n z x) (length-append g w)

      both_at : (x y : List ℕ × List ℕ) → run_at (g ++ u) ≡ x → run_at (g ++ v) ≡ y → (Early (by_run n (length g + length u) x) → Moved (λ w. w ≡ by_run n (length g + length v) y) (by_run n (length g + length u) x)) → Moved (λ w. w ≡ run_operand n (g ++ v)) o
      both_at x y s t go =
          let p = q ∙ at u x s in
          let m = go (subst Early p e) in
          subst (Moved (λ w. w ≡ run_operand n (g ++ v))) (sym p) (moved_map (λ w. w ≡ by_run n (length g + length v) y) (λ w. w ≡ run_operand n (g ++ v)) (λ w k. k ∙ sym (at v y t)) (by_run n (length g + length u) x) m)

      drop_less : (w : List ℕ) → length (run_at w).1 ≤ length w
      drop_less w = omega (arith, length-drop (prefix_len is_word w) w)

      by_length : (prefix_len is_word g ≡ length g) ⊎ (prefix_len is_word g < length g) → Moved (λ w. w ≡ run_operand n (g ++ v)) o
      by_length (inr lt) =
          both_at _ _ (run_short g u lt) (run_short g v lt)
          (short_by (names_value (take (prefix_len is_word g) g)) n (take (prefix_len is_word g) g) (drop (prefix_len is_word g) g) (length g) (value_front (take (prefix_len is_word g) g)) (fine_drop (prefix_len is_word g) g f))
      by_length (inl s) =
          let a = (run_at u).0 in
          let b = (run_at v).0 in
          let all : list_all is_word (g ++ b) ≡ true = subst (λ z. list_all is_word z.0 ≡ true) (run_long g v s) (all_run (g ++ v)) in
          both_at _ _ (run_long g u s) (run_long g v s)
          (long_by (names_value (g ++ a)) (names_value (g ++ b)) n (g ++ a) (g ++ b) (run_at u).1 (run_at v).1 (length g) (value_front (g ++ a)) (value_front (g ++ b)) (drop_less u)
          (λ lt. (not_true (names_value (g ++ b)) (never_value g a b lt all), front_local g a b lt)))

  stuck_same : (m b : ℕ) (h : List ℕ) → stuck m (b ∷ h ++ u) + length v ≡ stuck m (b ∷ h ++ v) + length u
  stuck_same zero b h = omega (arith, length-append h u, length-append h v)
  stuck_same (suc m) b h = half_by (is_half b)
    where
      half_by : (t : Bool) → (if t then length (h ++ u) else length (b ∷ h ++ u)) + length v ≡ (if t then length (h ++ v) else length (b ∷ h ++ v)) + length u
      half_by true = omega (arith, length-append h u, length-append h v)
      half_by false = omega (arith, length-append h u, length-append h v)

  closed_by : (t : Bool) (x : Tree) (m b : ℕ) (r : List ℕ) → next_operator m (b ∷ r) ≡ None → Early (if t then done x m (trimmed_front r) else bad (stuck m (b ∷ r))) → Left m (b ∷ r)
  closed_by true x m b r h e = tokens.settled_far u v Fine fine_tail m b r (omega (arith, left_more m (trimmed_front r) e, trimmed_within r))
  closed_by false x m b r h e = tokens.stuck_settled u v Fine fine_tail m b r h e

  closed_early : (o : Outcome) → EndedAt o → Early (closed o) → Early o
  closed_early (bad b) h e = e
  closed_early (done x m []) h e = absurd (omega (arith, e))
  closed_early (done x m (b ∷ r)) h e = closed_by (b == 41) x m b r h e

  closed_last : (t : Bool) (x : Tree) (m b : ℕ) (h : List ℕ) → Fine h → Early (if t then done x m (trimmed_front (h ++ u)) else bad (stuck m (b ∷ h ++ u)))
      → Moved (λ w. w ≡ (if t then done x m (trimmed_front (h ++ v)) else bad (stuck m (b ∷ h ++ v)))) (if t then done x m (trimmed_front (h ++ u)) else bad (stuck m (b ∷ h ++ u)))
  closed_last true x m b h f e =
      let s = tokens.trim u v Fine fine_tail h f (left_more m (trimmed_front (h ++ u)) e) in
      (s.0, s.1, s.3, ap (λ (z : List ℕ). done x m z) (sym s.2))
  closed_last false x m b h f e = (stuck m (b ∷ h ++ v), stuck_same m b h, refl)

  abbrev Closes : (Outcome → Type 0) → Outcome → Type 0
  Closes Q w = (y : Outcome) × Q y × (w ≡ closed y)

  closed_at : (Q : Outcome → Type 0) (x : Tree) (m : ℕ) (h : List ℕ) → Fine h → Q (done x m (h ++ v)) → Early (done x m (h ++ u)) → Early (closed (done x m (h ++ u))) → Moved (Closes Q) (closed (done x m (h ++ u)))
  closed_at Q x m [] f q l e = absurd (omega (arith, left_more m u l))
  closed_at Q x m (b ∷ h) f q l e =
      moved_map (λ w. w ≡ closed (done x m (b ∷ h ++ v))) (Closes Q) (λ w k. (done x m (b ∷ h ++ v), q, k)) (closed (done x m (b ∷ h ++ u))) (closed_last (b == 41) x m b h (fine_tail b h f) e)

  closed_moves : (Q : Outcome → Type 0) (o : Outcome) → Early o → Early (closed o) → Moved Q o → Moved (Closes Q) (closed o)
  closed_moves Q (bad b) l e z = (z.0, z.1, (bad z.0, z.2, refl))
  closed_moves Q (done x m r) l e z =
      let k : Early (done x m (z.0 ++ u)) → Early (closed (done x m (z.0 ++ u))) → Moved (Closes Q) (closed (done x m (z.0 ++ u))) = closed_at Q x m z.0 z.2 z.3 in
      subst (λ y. Early (done x m y) → Early (closed (done x m y)) → Moved (Closes Q) (closed (done x m y))) (sym z.1) k l e

  module _ (P : ℕ → List ℕ → Outcome → Type 0) (P_local : IsLocal P) (P_fits : (n : ℕ) (t : List ℕ) (o : Outcome) → P n t o → Fits n (length t + 1) o) (P_ended : IsEnded P)
      (word_moves : (n b : ℕ) (g : List ℕ) (o : Outcome) → Fine (b ∷ g) → WordGives n (b ∷ g ++ u) o → Early o → Moved (WordGives n (b ∷ g ++ v)) o)
      (part_moves : (n b : ℕ) (g : List ℕ) (o : Outcome) → Fine (b ∷ g) → PartGives n (b ∷ g ++ u) o → Early o → Moved (PartGives n (b ∷ g ++ v)) o) where
    start_moves : (s : Start) (n b : ℕ) (g : List ℕ) (o : Outcome) → Fine (b ∷ g) → OperandBy P s n (b ∷ g ++ u) o → Early o → Moved (OperandBy P s n (b ∷ g ++ v)) o
    start_moves enclosed n b g o f h e = word_moves n b g o f h e
    start_moves substituted n b g o f h e = part_moves n b g o f h e
    start_moves run n b g o f h e = run_moves n (b ∷ g) o f h e
    start_moves parenthesis n b g o f h e =
        let c = subst Early h.2 e in
        let l = closed_early h.0 (P_ended n (g ++ u) h.0 h.1) c in
        let m = P_local n (g ++ u) h.0 h.1 g refl (fine_tail b g f) l in
        subst (Moved (Closes (P n (g ++ v)))) (sym h.2) (closed_moves (P n (g ++ v)) h.0 l c m)
    start_moves nothing n b g o f h e =
        subst (Moved (λ w. w ≡ bad (length (b ∷ g ++ v)))) (sym h) (length (b ∷ g ++ v), omega (arith, length-append g u, length-append g v), refl)

    signed_local : {n : ℕ} {t : List ℕ} {o : Outcome} → SignedAt P n t o → (g : List ℕ) → t ≡ g ++ u → Fine g → Early o → Moved (SignedAt P n (g ++ v)) o
    signed_local {n} {t} {o} (no_sign s h) [] q f e =
        let lt = late n (length t) o (signed_at_fits P P_fits (no_sign s h)) e in
        absurd (omega (arith, lt, ap length q))
    signed_local {n} {t} {o} (no_sign s h) (b ∷ g) q f e =
        let k = subst (λ z. OperandBy P (start z) n z o) q h in
        let m = start_moves (start (b ∷ g ++ u)) n b g o f k e in
        let w = subst (λ z. Moved (OperandBy P z n (b ∷ g ++ v)) o) (start_same b (g ++ u) (g ++ v)) m in
        let none = tokens.sign_none u v Fine fine_tail n b g (subst (λ z. next_sign n z ≡ None) q s) in
        moved_map (OperandBy P (start (b ∷ g ++ v)) n (b ∷ g ++ v)) (SignedAt P n (b ∷ g ++ v)) (λ y k. no_sign none k) o w
    signed_local {n} {t} (one_sign {m = m} {r = r} {op = op} {o = o} s h) g q f e =
        let early = early_signed op o e in
        let lt = late m (length r) o (signed_at_fits P P_fits h) early in
        let some = subst (λ z. next_sign n z ≡ Some (op, m, r)) q s in
        let y = subst (λ z. tokens.NextMoves u v Fine fine_tail z (next_sign n (g ++ v))) some (tokens.sign_moves u v Fine fine_tail n g f) lt in
        moved_signed op (SignedAt P m (y.0 ++ v)) (SignedAt P n (g ++ v)) (λ w k. one_sign y.3 k) o (signed_local h y.0 y.1 y.2 early)

    pub signed_is_local : IsLocal (SignedAt P)
    signed_is_local n t o h g q f e = signed_local h g q f e

  module _ (k : ℕ) (L : ℕ → List ℕ → Outcome → Type 0) (L_local : IsLocal L) (L_fits : IsFit L) where
    chain_early : {x : Tree} {n : ℕ} {t : List ℕ} {o : Outcome} → ChainAt k L x n t o → Early o → Left n t
    chain_early (chain_ends s) e = e
    chain_early {x} {n} {t} (chain_bad {m = m} {b = b} {r = r} {op = op} s h) e =
        let lt = late m (length r) (bad b) (L_fits m r (bad b) h) e in
        inl (omega (arith, lt, chain_takes k n m t r op s))
    chain_early {x} {n} {t} (chain_goes y {m = m} {i = i} {r = r} {u = u1} {op = op} {o = o} s h c) e =
        let lt = late i (length u1) o (chain_fits k L L_fits c) e in
        let fit = L_fits m r (done y i u1) h in
        inl (omega (arith, lt, fit.1, chain_takes k n m t r op s))

    chain_local : {x : Tree} {n : ℕ} {t : List ℕ} {o : Outcome} → ChainAt k L x n t o → (g : List ℕ) → t ≡ g ++ u → Fine g → Early o → Moved (ChainAt k L x n (g ++ v)) o
    chain_local {x} {n} {t} (chain_ends s) [] q f e = absurd (omega (arith, left_more n t e, ap length q))
    chain_local {x} {n} {t} (chain_ends s) (b ∷ g) q f e =
        (b ∷ g, q, f, chain_ends (tokens.level_none u v Fine fine_tail k n b g (subst (Left n) q e) (subst (λ z. of_level k (next_operator n z) ≡ None) q s)))
    chain_local {x} {n} {t} (chain_bad {m = m} {b = b} {r = r} {op = op} s h) g q f e =
        let lt = late m (length r) (bad b) (L_fits m r (bad b) h) e in
        let some = subst (λ z. of_level k (next_operator n z) ≡ Some (op, m, r)) q s in
        let y = subst (λ z. tokens.NextMoves u v Fine fine_tail z (of_level k (next_operator n (g ++ v)))) some (tokens.level_moves u v Fine fine_tail k n g f) lt in
        let w = L_local m r (bad b) h y.0 y.1 y.2 e in
        (w.0, w.1, chain_bad y.3 w.2)
    chain_local {x} {n} {t} (chain_goes y {m = m} {i = i} {r = r} {u = u1} {op = op} {o = o} s h c) g q f e =
        let left = chain_early c e in
        let fit = L_fits m r (done y i u1) h in
        let lt : length u < length r = omega (arith, left_more i u1 left, fit.1) in
        let some = subst (λ z. of_level k (next_operator n z) ≡ Some (op, m, r)) q s in
        let z = subst (λ z. tokens.NextMoves u v Fine fine_tail z (of_level k (next_operator n (g ++ v)))) some (tokens.level_moves u v Fine fine_tail k n g f) lt in
        let w = L_local m r (done y i u1) h z.0 z.1 z.2 left in
        moved_map (ChainAt k L (binary op x y) i (w.0 ++ v)) (ChainAt k L x n (g ++ v)) (λ o p. chain_goes y z.3 w.3 p) o (chain_local c w.0 w.1 w.2 e)

    then_early : (y o : Outcome) → Then (ChainAt k L) y o → Early o → Early y
    then_early (bad b) o s e = subst Early s e
    then_early (done x n t) o c e = chain_early c e

    then_local : (y o : Outcome) (Q : Outcome → Type 0) → Then (ChainAt k L) y o → Early o → Moved Q y → Moved (λ w. (z : Outcome) × Q z × Then (ChainAt k L) z w) o
    then_local (bad b) o Q s e z = subst (Moved (λ w. (z : Outcome) × Q z × Then (ChainAt k L) z w)) (sym s) (z.0, z.1, (bad z.0, z.2, refl))
    then_local (done x m r) o Q c e z =
        moved_map (ChainAt k L x m (z.0 ++ v)) (λ w. (z : Outcome) × Q z × Then (ChainAt k L) z w) (λ w p. (done x m (z.0 ++ v), z.3, p)) o (chain_local c z.0 z.1 z.2 e)

  module _ (S : ℕ → List ℕ → Outcome → Type 0) (S_local : IsLocal S) (S_fits : IsFit S) where
    pub level_local : (k : ℕ) → IsLocal (LevelAt S k)
    unfolding LevelAt
    level_local zero n t o h g q f e = S_local n t o h g q f e
    level_local (suc k) n t o h g q f e =
        let y = then_early (suc k) (LevelAt S k) (level_local k) (level_fits S S_fits k) h.0 o h.2 e in
        then_local (suc k) (LevelAt S k) (level_local k) (level_fits S S_fits k) h.0 o (LevelAt S k n (g ++ v)) h.2 e (level_local k n t h.0 h.1 g q f y)

  none_question : (m : ℕ) (h r : List ℕ) → r ≡ h ++ u → length u < length r → next_question m r ≡ None → next_question m (h ++ v) ≡ None
  none_question m [] r q lt s = absurd (omega (arith, ap length q, lt))
  none_question m (b ∷ h) r q lt s = tokens.question_none u v Fine fine_tail m b h (subst (λ z. next_question m z ≡ None) q s)

  none_colon : (h r : List ℕ) → r ≡ h ++ u → length u < length r → next_colon r ≡ None → next_colon (h ++ v) ≡ None
  none_colon [] r q lt s = absurd (omega (arith, ap length q, lt))
  none_colon (b ∷ h) r q lt s = tokens.colon_none u v Fine fine_tail b h (subst (λ z. next_colon z ≡ None) q s)

  stuck_moves : (m : ℕ) (h r : List ℕ) → r ≡ h ++ u → length u < length r → stuck m r + length v ≡ stuck m (h ++ v) + length u
  stuck_moves m [] r q lt = absurd (omega (arith, ap length q, lt))
  stuck_moves m (b ∷ h) r q lt = subst (λ z. stuck m z + length v ≡ stuck m (b ∷ h ++ v) + length u) (sym q) (stuck_same m b h)

  pub stuck_left : (m : ℕ) (r : List ℕ) → next_operator m r ≡ None → length u < stuck m r → Left m r
  stuck_left m [] s lt = absurd (omega (arith, lt))
  stuck_left m (b ∷ r) s lt = tokens.stuck_settled u v Fine fine_tail m b r s lt

  module _ (T : ℕ → List ℕ → Outcome → Type 0) (T_local : IsLocal T) (T_fits : IsFit T) (T_ended : IsEnded T) where
    asked : (n m i : ℕ) (t u1 r g : List ℕ) (x : Tree) → T n t (done x m u1) → next_question m u1 ≡ Some (i, r) → length u < length r → t ≡ g ++ u → Fine g
        → (h : List ℕ) × T n (g ++ v) (done x m (h ++ v)) × ((w : List ℕ) × (r ≡ w ++ u) × Fine w × (next_question m (h ++ v) ≡ Some (i, w ++ v)))
    asked n m i t u1 r g x h s lt q f =
        let left : Left m u1 = inl (omega (arith, lt, ask_takes m i u1 r s)) in
        let w = T_local n t (done x m u1) h g q f left in
        let some = subst (λ z. next_question m z ≡ Some (i, r)) w.1 s in
        (w.0, w.3, subst (λ z. tokens.AskMoves u v Fine fine_tail z (next_question m (w.0 ++ v))) some (tokens.question_moves u v Fine fine_tail m w.0 w.2) lt)

    choice_local : {n : ℕ} {t : List ℕ} {o : Outcome} → ChoiceAt T n t o → (g : List ℕ) → t ≡ g ++ u → Fine g → Early o → Moved (ChoiceAt T n (g ++ v)) o
    choice_local {n} {t} (bad_test {b = b} h) g q f e =
        let w = T_local n t (bad b) h g q f e in
        (w.0, w.1, bad_test w.2)
    choice_local {n} {t} (no_choice x {m = m} {u = u1} h s) g q f e =
        let w = T_local n t (done x m u1) h g q f e in
        (w.0, w.1, w.2, no_choice x w.3 (none_question m w.0 u1 w.1 (left_more m u1 e) s))
    choice_local {n} {t} (bad_middle x {m = m} {i = i} {b = b} {u = u1} {r = r} h s k) g q f e =
        let lt = late i (length r) (bad b) (choice_fits T T_fits k) e in
        let a = asked n m i t u1 r g x h s lt q f in
        let w = choice_local k a.2.0 a.2.1 a.2.2 e in
        (w.0, w.1, bad_middle x a.1 a.2.3 w.2)
    choice_local {n} {t} (no_last x y {m = m} {i = i} {j = j} {u = u1} {r = r} {v = v1} h s k c) g q f e =
        let left = stuck_left j v1 (choice_ended T T_ended k) e in
        let more = left_more j v1 left in
        let fit = choice_fits T T_fits k in
        let lt : length u < length r = omega (arith, more, fit.1) in
        let a = asked n m i t u1 r g x h s lt q f in
        let w = choice_local k a.2.0 a.2.1 a.2.2 left in
        (stuck j (w.0 ++ v), stuck_moves j w.0 v1 w.1 more, no_last x y a.1 a.2.3 w.3 (none_colon w.0 v1 w.1 more c))
    choice_local {n} {t} (one_choice x y {m = m} {i = i} {j = j} {u = u1} {r = r} {v = v1} {s = s1} {o = o} h s k c l) g q f e =
        let early = early_chosen x y o e in
        let more = late j (length s1) o (choice_fits T T_fits l) early in
        let left : Left j v1 = inl (omega (arith, more, colon_takes v1 s1 c)) in
        let fit = choice_fits T T_fits k in
        let lt : length u < length r = omega (arith, left_more j v1 left, fit.1) in
        let a = asked n m i t u1 r g x h s lt q f in
        let w = choice_local k a.2.0 a.2.1 a.2.2 left in
        let some = subst (λ z. next_colon z ≡ Some s1) w.1 c in
        let d = subst (λ z. tokens.BehindMoves u v Fine fine_tail z (next_colon (w.0 ++ v))) some (tokens.colon_moves u v Fine fine_tail w.0 w.2) more in
        moved_chosen x y (ChoiceAt T j (d.0 ++ v)) (ChoiceAt T n (g ++ v)) (λ z p. one_choice x y a.1 a.2.3 w.3 d.3 p) o (choice_local l d.0 d.1 d.2 early)

    pub choice_is_local : IsLocal (ChoiceAt T)
    choice_is_local n t o h g q f e = choice_local h g q f e

  module _ (word_moves : (n b : ℕ) (g : List ℕ) (o : Outcome) → Fine (b ∷ g) → WordGives n (b ∷ g ++ u) o → Early o → Moved (WordGives n (b ∷ g ++ v)) o)
      (part_moves : (n b : ℕ) (g : List ℕ) (o : Outcome) → Fine (b ∷ g) → PartGives n (b ∷ g ++ u) o → Early o → Moved (PartGives n (b ∷ g ++ v)) o) where
    pub expression_local : (P : ℕ → List ℕ → Outcome → Type 0) → IsLocal P → ((n : ℕ) (t : List ℕ) (o : Outcome) → P n t o → Fits n (length t + 1) o) → IsEnded P → IsLocal (ExpressionBy P)
    expression_local P P_local P_fits P_ended =
        let S_fits : IsFit (SignedAt P) = λ m w p c. signed_at_fits P P_fits c in
        choice_is_local (LevelAt (SignedAt P) loosest) (level_local (SignedAt P) (signed_is_local P P_local P_fits P_ended word_moves part_moves) S_fits loosest) (level_fits (SignedAt P) S_fits loosest) (level_ended (SignedAt P))

    pub trimmed_local : (P : ℕ → List ℕ → Outcome → Type 0) → IsLocal P → IsFit P → (n : ℕ) (g : List ℕ) (o : Outcome) → P n (trimmed_front (g ++ u)) o → Fine g → Early o → Moved (P n (trimmed_front (g ++ v))) o
    trimmed_local P P_local P_fits n g o h f e =
        let lt = late n (length (trimmed_front (g ++ u))) o (P_fits n (trimmed_front (g ++ u)) o h) e in
        let s = tokens.trim u v Fine fine_tail g f lt in
        subst (λ z. Moved (P n z) o) (sym s.2) (P_local n (trimmed_front (g ++ u)) o h s.0 s.1 s.3 e)

    pub parens_local : (room : ℕ) → IsLocal (InParens room)
    unfolding InParens
    parens_local zero n t o h g q f e =
        subst (Moved (λ w. w ≡ bad (length (g ++ v) + 1))) (sym h) (length (g ++ v) + 1, omega (arith, ap length q, length-append g u, length-append g v), refl)
    parens_local (suc room) n t o h g q f e =
        trimmed_local (ExpressionBy (InParens room)) (expression_local (InParens room) (parens_local room) (parens_fits room) (parens_ended room)) (expression_fits (InParens room) (parens_fits room))
        n g o (subst (λ z. ExpressionBy (InParens room) n (trimmed_front z) o) q h) f e

    same_place : (a b : ℕ) → bad_from a ≡ bad_from b → a ≡ b
    same_place a b e = cc

    whole_early : (left : ℕ) (o : Outcome) → EndedAt o → length u < left → bad_from left ≡ whole o → Early o
    whole_early left (bad b) h lt q = omega (arith, lt, same_place left b q)
    whole_early left (done x m []) h lt q = absurd (cc)
    whole_early left (done x m (b ∷ r)) h lt q = tokens.stuck_settled u v Fine fine_tail m b r h (omega (arith, lt, same_place left (stuck m (b ∷ r)) q))

    abbrev IsWhole : ℕ → (Outcome → Type 0) → Type 0
    IsWhole left Q = (c : ℕ) × (left + length v ≡ c + length u) × ((w : Outcome) × Q w × (bad_from c ≡ whole w))

    whole_last : (Q : Outcome → Type 0) (x : Tree) (m : ℕ) (h r : List ℕ) → r ≡ h ++ u → length u < length r → Q (done x m (h ++ v)) → IsWhole (stuck m r) Q
    whole_last Q x m [] r q lt k = absurd (omega (arith, ap length q, lt))
    whole_last Q x m (b ∷ h) r q lt k = (stuck m (b ∷ h ++ v), stuck_moves m (b ∷ h) r q lt, (done x m (b ∷ h ++ v), k, refl))

    whole_moves : (left : ℕ) (Q : Outcome → Type 0) (o : Outcome) → bad_from left ≡ whole o → Early o → Moved Q o → IsWhole left Q
    whole_moves left Q (bad b) q e z = (z.0, omega (arith, same_place left b q, z.1), (bad z.0, z.2, refl))
    whole_moves left Q (done x m []) q e z = absurd (cc)
    whole_moves left Q (done x m (c ∷ r)) q e z = subst (λ l. IsWhole l Q) (sym (same_place left (stuck m (c ∷ r)) q)) (whole_last Q x m z.0 (c ∷ r) z.1 (left_more m (c ∷ r) e) z.3)

    -- a text that is bad in the front is bad at the same place with any other bytes behind the front
    pub bad_stays : (g : List ℕ) (left : ℕ) → Fine g → length u < left → Reads (g ++ u) (bad_from left) → (c : ℕ) × (left + length v ≡ c + length u) × Reads (g ++ v) (bad_from c)
    bad_stays g left f lt h =
        let P = InParens most_nested in
        let E = ExpressionBy P in
        let early = whole_early left h.0 (expression_ended P most_operators (trimmed_front (g ++ u)) h.0 h.1) lt h.2 in
        let m = trimmed_local E (expression_local P (parens_local most_nested) (parens_fits most_nested) (parens_ended most_nested)) (expression_fits P (parens_fits most_nested)) most_operators g h.0 h.1 f early in
        whole_moves left (E most_operators (trimmed_front (g ++ v))) h.0 h.2 early m
