-- Behind a reading no more operators may come than before it, and what is left, or is left at a bad place, is no longer than the text.
use Rattle.std.proofs.Common.{◌≡◌, ℕ, zero, suc, ◌+◌, ◌-◌, ◌<◌, ◌≤◌, [], ◌∷◌, length, drop, length-drop, Bool, true, false, Option, None, Some, sym, subst, inl, inr, arith}
use Rattle.std.specs.Prelude.{◌==◌, if◌then◌else◌}
use Rattle.std.specs.Option.{option_map}
use Rattle.std.specs.List.{prefix_len}
use Rattle.txt_core.specs.Names.{Bytes}
use Rattle.txt_core.specs.Number.{is_space, trimmed_front}
use Rattle.tcl_parse.specs.declared.fault.Kind.{Kind}
use Rattle.tcl_parse.specs.declared.fault.Kind.TheVariants.{Quote, Brace, Bracket, Variable, Extra, Deep}
use Rattle.tcl_parse.specs.Bytes.{backslash}
use Rattle.tcl_parse.specs.Tree.{Part, Word}
use Rattle.tcl_parse.specs.Outcome as script_outcome
use Rattle.tcl_parse.specs.Grammar.{InBracket, InIndex}
use Rattle.txt_core.specs.Limits.{most_nested}
use Rattle.txt_core.specs.Texts.{begins_with}
use Rattle.tcl_parse.specs.Laws.Within as script_within
use Rattle.tcl_expr.specs.declared.operator.Op.{Op}
use Rattle.tcl_expr.specs.Trees.{Tree, value}
use Rattle.tcl_expr.specs.Outcome.{Outcome, done, bad, signed, chosen}
use Rattle.tcl_expr.specs.Tokens.{single, double, sign, level, loosest, before, either, operator_at, sign_at, behind, counted, next_operator, next_sign, next_question, next_colon, is_half, stuck}
use Rattle.tcl_expr.specs.Runs.{is_word, run_at, names_value, value_front}
use Rattle.tcl_expr.specs.Grammar.{fault_place, behind_backslash, bad_place, word_operand, part_operand, run_operand, closed, Start, enclosed, substituted, run, parenthesis, nothing, start, Enclosed, Substituted, OperandBy, SignedAt, no_sign, one_sign, of_level, ChainAt, chain_ends, chain_bad, chain_goes, Then, LevelAt, ChoiceAt, bad_test, no_choice, bad_middle, no_last, one_choice, ExpressionBy, InParens}

-- at most n operators come, and at most l bytes are left
abbrev pub Fits : ℕ → ℕ → Outcome → Type 0
Fits n l (done x m t) = (m ≤ n) × (length t ≤ l)
Fits n l (bad b) = b ≤ l

-- the same of what comes next, which is one more operator
abbrev pub NextFits : ℕ → ℕ → Option (Op × ℕ × Bytes) → Type 0
NextFits n l None = Unit {0}
NextFits n l (Some x) = (x.1 < n) × (length x.2 ≤ l)

abbrev pub AskFits : ℕ → ℕ → Option (ℕ × Bytes) → Type 0
AskFits n l None = Unit {0}
AskFits n l (Some x) = (x.0 < n) × (length x.1 ≤ l)

abbrev pub LeavesAtMost : ℕ → Option Bytes → Type 0
LeavesAtMost l None = Unit {0}
LeavesAtMost l (Some t) = length t ≤ l

abbrev LeavesBehind : ℕ → Option (Op × Bytes) → Type 0
LeavesBehind l None = Unit {0}
LeavesBehind l (Some x) = length x.1 ≤ l

le_if : (b : Bool) (x y : Bytes) (n : ℕ) → length x ≤ n → length y ≤ n → length (if b then x else y) ≤ n
le_if true x y n h k = h
le_if false x y n h k = k

pub trimmed_within : (t : Bytes) → length (trimmed_front t) ≤ length t
trimmed_within [] = omega arith
trimmed_within (b ∷ t) =
    let h = trimmed_within t in
    le_if (is_space b) (trimmed_front t) (b ∷ t) (length (b ∷ t)) (omega (arith, h)) (omega arith)

before_leaves : (q : Option Op) (t : Bytes) (l : ℕ) → length t ≤ l → LeavesBehind l (before q t)
before_leaves None t l h = tt
before_leaves (Some op) t l h = h

either_leaves : (p q : Option (Op × Bytes)) (l : ℕ) → LeavesBehind l p → LeavesBehind l q → LeavesBehind l (either p q)
either_leaves None q l h k = k
either_leaves (Some x) q l h k = h

operator_leaves : (t : Bytes) → LeavesBehind (length t) (operator_at t)
operator_leaves [] = tt
operator_leaves (b ∷ []) = before_leaves (single b) [] (length (b ∷ [])) (omega arith)
operator_leaves (b ∷ c ∷ t) = either_leaves (before (double b c) t) (before (single b) (c ∷ t)) (length (b ∷ c ∷ t)) (before_leaves (double b c) t (length (b ∷ c ∷ t)) (omega arith)) (before_leaves (single b) (c ∷ t) (length (b ∷ c ∷ t)) (omega arith))

sign_leaves : (t : Bytes) → LeavesBehind (length t) (sign_at t)
sign_leaves [] = tt
sign_leaves (b ∷ t) = before_leaves (sign b) t (length (b ∷ t)) (omega arith)

counted_fits : (n l : ℕ) (q : Option (Op × Bytes)) → LeavesBehind l q → NextFits n l (counted n q)
counted_fits zero l q h = tt
counted_fits (suc n) l None h = tt
counted_fits (suc n) l (Some x) h = (omega arith, omega (arith, trimmed_within x.1, h))

pub operator_fits : (n : ℕ) (t : Bytes) → NextFits n (length t) (next_operator n t)
operator_fits n t = counted_fits n (length t) (operator_at t) (operator_leaves t)

pub sign_fits : (n : ℕ) (t : Bytes) → NextFits n (length t) (next_sign n t)
sign_fits n t = counted_fits n (length t) (sign_at t) (sign_leaves t)

leaves_if : (b : Bool) (t : Bytes) (l : ℕ) → length t ≤ l → LeavesAtMost l (if b then Some t else None)
leaves_if true t l h = h
leaves_if false t l h = tt

behind_leaves : (c : ℕ) (t : Bytes) → LeavesAtMost (length t) (behind c t)
behind_leaves c [] = tt
behind_leaves c (b ∷ t) = leaves_if (b == c) (trimmed_front t) (length (b ∷ t)) (omega (arith, trimmed_within t))

pub colon_fits : (t : Bytes) → LeavesAtMost (length t) (next_colon t)
colon_fits t = behind_leaves 58 t

asks_fits : (n l : ℕ) (q : Option Bytes) → LeavesAtMost l q → AskFits (suc n) l (option_map (λ r. (n, r)) q)
asks_fits n l None h = tt
asks_fits n l (Some r) h = (omega arith, h)

pub question_fits : (n : ℕ) (t : Bytes) → AskFits n (length t) (next_question n t)
question_fits zero t = tt
question_fits (suc n) t = asks_fits n (length t) (behind 63 t) (behind_leaves 63 t)

nat_if : (b : Bool) (x y n : ℕ) → x ≤ n → y ≤ n → (if b then x else y) ≤ n
nat_if true x y n h k = h
nat_if false x y n h k = k

pub stuck_within : (n : ℕ) (t : Bytes) → stuck n t ≤ length t
stuck_within zero [] = omega arith
stuck_within (suc n) [] = omega arith
stuck_within zero (b ∷ t) = omega arith
stuck_within (suc n) (b ∷ t) = nat_if (is_half b) (length t) (length (b ∷ t)) (length (b ∷ t)) (omega arith) (omega arith)

pub more : (o : Outcome) (n l m k : ℕ) → n ≤ m → l ≤ k → Fits n l o → Fits m k o
more (done x i t) n l m k a b h = (omega (arith, h.0, a), omega (arith, h.1, b))
more (bad c) n l m k a b h = omega (arith, h, b)

signed_fits : (op : Op) (o : Outcome) (n l : ℕ) → Fits n l o → Fits n l (signed op o)
signed_fits op (done x m t) n l h = h
signed_fits op (bad b) n l h = h

chosen_fits : (x y : Tree) (o : Outcome) (n l : ℕ) → Fits n l o → Fits n l (chosen x y o)
chosen_fits x y (done z m t) n l h = h
chosen_fits x y (bad b) n l h = h

pub fault_within : (k : Kind) (left : ℕ) → fault_place k left ≤ left
fault_within Quote left = omega arith
fault_within Brace left = omega arith
fault_within Bracket left = omega arith
fault_within Variable left = omega arith
fault_within Extra left = omega arith
fault_within Deep left = omega arith

less_if : (s : Bool) (n : ℕ) → (if s then n - 1 else n) ≤ n
less_if true n = omega arith
less_if false n = omega arith

-- the byte behind a backslash is no earlier
pub behind_within : (t : Bytes) (n : ℕ) → behind_backslash t n ≤ n
behind_within t n = less_if (begins_with backslash (drop (length t - n) t)) n

place_within : (t : Bytes) (k : Kind) (left l : ℕ) → left ≤ l → bad_place t k left ≤ l
place_within t k left l h = omega (arith, h, fault_within k left, behind_within t (fault_place k left))

word_fits : (n l : ℕ) (t : Bytes) (w : script_outcome.Outcome Word) → script_within.Within w l → Fits n l (word_operand n t w)
word_fits n l t (script_outcome.done w r) h = (omega arith, omega (arith, trimmed_within r, h))
word_fits n l t (script_outcome.fault k left) h = place_within t k left l h

part_fits : (n l : ℕ) (t : Bytes) (p : script_outcome.Outcome Part) → script_within.Within p l → Fits n l (part_operand n t p)
part_fits n l t (script_outcome.done w r) h = (omega arith, omega (arith, trimmed_within r, h))
part_fits n l t (script_outcome.fault k left) h = place_within t k left l h

enclosed_fits : (n : ℕ) (t : Bytes) (w : script_outcome.Outcome Word) → Enclosed t w → Fits n (length t) (word_operand n t w)
enclosed_fits n t w h = word_fits n (length t) t w (script_within.enclosed_within (InBracket most_nested) (InIndex most_nested) (script_within.bracket_within most_nested) (script_within.index_within most_nested) h)

substituted_fits : (n : ℕ) (t : Bytes) (p : script_outcome.Outcome Part) → Substituted t p → Fits n (length t) (part_operand n t p)
substituted_fits n t p h =
    let takes : script_within.TakesPart h.0 (length t) = subst (λ x. script_within.Takes x (length t)) h.1 (script_within.step_at_takes t) in
    part_fits n (length t) t p (script_within.part_within (InBracket most_nested) (InIndex most_nested) (script_within.bracket_within most_nested) (script_within.index_within most_nested) (length t) h.0 p takes h.2)

fits_if : (b : Bool) (o p : Outcome) (n l : ℕ) → Fits n l o → Fits n l p → Fits n l (if b then o else p)
fits_if true o p n l h k = h
fits_if false o p n l h k = k

run_fits : (n : ℕ) (t : Bytes) → Fits n (length t) (run_operand n t)
run_fits n t =
    let d : length (run_at t).1 ≤ length t = omega (arith, length-drop (prefix_len is_word t) t) in
    fits_if (names_value (run_at t).0) (done (value (run_at t).0) n (trimmed_front (run_at t).1)) (bad (length t - value_front (run_at t).0)) n (length t)
    (omega arith, omega (arith, trimmed_within (run_at t).1, d)) (omega arith)

closed_fits : (n l : ℕ) (o : Outcome) → Fits n l o → Fits n l (closed o)
closed_fits n l (bad b) h = h
closed_fits n l (done x m []) h = omega arith
closed_fits n l (done x m (b ∷ t)) h =
    let s = stuck_within m (b ∷ t) in
    fits_if (b == 41) (done x m (trimmed_front t)) (bad (stuck m (b ∷ t))) n l (h.0, omega (arith, trimmed_within t, h.1)) (omega (arith, s, h.1))

module _ (P : ℕ → Bytes → Outcome → Type 0) (P_fits : (n : ℕ) (t : Bytes) (o : Outcome) → P n t o → Fits n (length t + 1) o) where
  by_start : (s : Start) (n b : ℕ) (t : Bytes) (o : Outcome) → OperandBy P s n (b ∷ t) o → Fits n (length (b ∷ t)) o
  by_start enclosed n b t o h = subst (Fits n (length (b ∷ t))) (sym h.2) (enclosed_fits n (b ∷ t) h.0 h.1)
  by_start substituted n b t o (inl h) = subst (Fits n (length (b ∷ t))) (sym h.2) (substituted_fits n (b ∷ t) h.0 h.1)
  by_start substituted n b t o (inr h) = subst (Fits n (length (b ∷ t))) (sym h.1) (let le : length (b ∷ t) - 1 ≤ length (b ∷ t) = omega arith in le)
  by_start run n b t o h = subst (Fits n (length (b ∷ t))) (sym h) (run_fits n (b ∷ t))
  by_start parenthesis n b t o h = subst (Fits n (length (b ∷ t))) (sym h.2) (closed_fits n (length (b ∷ t)) h.0 (more h.0 n (length t + 1) n (length (b ∷ t)) (omega arith) (omega arith) (P_fits n t h.0 h.1)))
  by_start nothing n b t o h = subst (Fits n (length (b ∷ t))) (sym h) (let le : length (b ∷ t) ≤ length (b ∷ t) = omega arith in le)

  operand_fits : (n : ℕ) (t : Bytes) (o : Outcome) → OperandBy P (start t) n t o → Fits n (length t) o
  operand_fits n [] o h = subst (Fits n 0) (sym h) (let le : 0 ≤ 0 = omega arith in le)
  operand_fits n (b ∷ t) o h = by_start (start (b ∷ t)) n b t o h

  pub signed_at_fits : {n : ℕ} {t : Bytes} {o : Outcome} → SignedAt P n t o → Fits n (length t) o
  signed_at_fits {n} {t} {o} (no_sign e h) = operand_fits n t o h
  signed_at_fits {n} {t} (one_sign {m = m} {r = r} {op = op} {o = o} e h) =
      let f : (m < n) × (length r ≤ length t) = subst (NextFits n (length t)) e (sign_fits n t) in
      signed_fits op o n (length t) (more o m (length r) n (length t) (omega (arith, f.0)) f.1 (signed_at_fits h))

level_if : (b : Bool) (x : Op × ℕ × Bytes) (n l : ℕ) → NextFits n l (Some x) → NextFits n l (if b then Some x else None)
level_if true x n l h = h
level_if false x n l h = tt

-- an operator of this level fits as any does
pub of_level_fits : (k n l : ℕ) (q : Option (Op × ℕ × Bytes)) → NextFits n l q → NextFits n l (of_level k q)
of_level_fits k n l None h = tt
of_level_fits k n l (Some x) h = level_if (level x.0 == k) x n l h

pub chain_next : (k n m : ℕ) (t r : Bytes) (op : Op) → of_level k (next_operator n t) ≡ Some (op, m, r) → (m < n) × (length r ≤ length t)
chain_next k n m t r op e = subst (NextFits n (length t)) e (of_level_fits k n (length t) (next_operator n t) (operator_fits n t))

module _ (k : ℕ) (L : ℕ → Bytes → Outcome → Type 0) (L_fits : (n : ℕ) (t : Bytes) (o : Outcome) → L n t o → Fits n (length t) o) where
  pub chain_fits : {x : Tree} {n : ℕ} {t : Bytes} {o : Outcome} → ChainAt k L x n t o → Fits n (length t) o
  chain_fits (chain_ends e) = (omega arith, omega arith)
  chain_fits {x} {n} {t} (chain_bad {m = m} {b = b} {r = r} {op = op} e h) =
      let f = chain_next k n m t r op e in
      more (bad b) m (length r) n (length t) (omega (arith, f.0)) f.1 (L_fits m r (bad b) h)
  chain_fits {x} {n} {t} (chain_goes y {m = m} {i = i} {r = r} {u = u} {op = op} {o = o} e h c) =
      let f = chain_next k n m t r op e in
      let g = L_fits m r (done y i u) h in
      more o i (length u) n (length t) (omega (arith, f.0, g.0)) (omega (arith, f.1, g.1)) (chain_fits c)

then_fits : (C : Tree → ℕ → Bytes → Outcome → Type 0) → ((x : Tree) (n : ℕ) (t : Bytes) (o : Outcome) → C x n t o → Fits n (length t) o) → (v o : Outcome) (n l : ℕ) → Fits n l v → Then C v o → Fits n l o
then_fits C f (bad b) o n l h e = subst (Fits n l) (sym e) h
then_fits C f (done x m t) o n l h c = more o m (length t) n l h.0 h.1 (f x m t o c)

module _ (S : ℕ → Bytes → Outcome → Type 0) (S_fits : (n : ℕ) (t : Bytes) (o : Outcome) → S n t o → Fits n (length t) o) where
  pub level_fits : (k n : ℕ) (t : Bytes) (o : Outcome) → LevelAt S k n t o → Fits n (length t) o
  unfolding LevelAt
  level_fits zero n t o h = S_fits n t o h
  level_fits (suc k) n t o h = then_fits (ChainAt (suc k) (LevelAt S k)) (λ x m u p c. chain_fits (suc k) (LevelAt S k) (level_fits k) c) h.0 o n (length t) (level_fits k n t h.0 h.1) h.2

pub asks_next : (m i : ℕ) (u r : Bytes) → next_question m u ≡ Some (i, r) → (i < m) × (length r ≤ length u)
asks_next m i u r e = subst (AskFits m (length u)) e (question_fits m u)

pub colon_next : (v s : Bytes) → next_colon v ≡ Some s → length s ≤ length v
colon_next v s e = subst (LeavesAtMost (length v)) e (colon_fits v)

module _ (T : ℕ → Bytes → Outcome → Type 0) (T_fits : (n : ℕ) (t : Bytes) (o : Outcome) → T n t o → Fits n (length t) o) where
  pub choice_fits : {n : ℕ} {t : Bytes} {o : Outcome} → ChoiceAt T n t o → Fits n (length t) o
  choice_fits {n} {t} (bad_test {b = b} h) = T_fits n t (bad b) h
  choice_fits {n} {t} (no_choice x {m = m} {u = u} h e) = T_fits n t (done x m u) h
  choice_fits {n} {t} (bad_middle x {m = m} {i = i} {b = b} {u = u} {r = r} h e k) =
      let f = T_fits n t (done x m u) h in
      let g = asks_next m i u r e in
      more (bad b) i (length r) n (length t) (omega (arith, f.0, g.0)) (omega (arith, f.1, g.1)) (choice_fits k)
  choice_fits {n} {t} (no_last x y {m = m} {i = i} {j = j} {u = u} {r = r} {v = v} h e k c) =
      let f = T_fits n t (done x m u) h in
      let g = asks_next m i u r e in
      let w = choice_fits k in
      let s = stuck_within j v in
      omega (arith, f.1, g.1, w.1, s)
  choice_fits {n} {t} (one_choice x y {m = m} {i = i} {j = j} {u = u} {r = r} {v = v} {s = s} {o = o} h e k c q) =
      let f = T_fits n t (done x m u) h in
      let g = asks_next m i u r e in
      let w = choice_fits k in
      let d = colon_next v s c in
      chosen_fits x y o n (length t) (more o j (length s) n (length t) (omega (arith, f.0, g.0, w.0)) (omega (arith, f.1, g.1, w.1, d)) (choice_fits q))

pub expression_fits : (P : ℕ → Bytes → Outcome → Type 0) → ((n : ℕ) (t : Bytes) (o : Outcome) → P n t o → Fits n (length t + 1) o) → (n : ℕ) (t : Bytes) (o : Outcome) → ExpressionBy P n t o → Fits n (length t) o
expression_fits P f n t o h = choice_fits (LevelAt (SignedAt P) loosest) (level_fits (SignedAt P) (λ m u p c. signed_at_fits P f c) loosest) h

pub parens_fits : (room n : ℕ) (t : Bytes) (o : Outcome) → InParens room n t o → Fits n (length t + 1) o
unfolding InParens
parens_fits zero n t o h = subst (Fits n (length t + 1)) (sym h) (let le : length t + 1 ≤ length t + 1 = omega arith in le)
parens_fits (suc room) n t o h = more o n (length (trimmed_front t)) n (length t + 1) (omega arith) (omega (arith, trimmed_within t)) (expression_fits (InParens room) (parens_fits room) n (trimmed_front t) o h)
