-- The bad place of a text never stands between a backslash and a newline.
use Rattle.std.proofs.Common.{◌≡◌, ℕ, zero, suc, ◌+◌, ◌-◌, ◌<◌, ◌≤◌, List, [], ◌∷◌, ◌++◌, length, take, drop, Bool, true, false, Some, refl, ap, sym, ◌∙◌, subst, ◌⊎◌, inl, inr, arith, append_assoc}
use Rattle.std.specs.Prelude.{◌==◌, ◌||◌, if◌then◌else◌}
use Rattle.std.specs.List.{prefix_len}
use Rattle.std.proofs.Math.Nat.{eq-or-lt_of_le}
use Rattle.std.proofs.lemmas.Bool.{eqb-true}
use Rattle.std.proofs.lemmas.List.{length-append}
use Rattle.txt_core.specs.Number.{trimmed_front}
use Rattle.tcl_parse.specs.Bytes.{newline, backslash}
use Rattle.tcl_parse.specs.declared.fault.Kind.{Kind}
use Rattle.tcl_parse.specs.Tree.{Part, Word}
use Rattle.tcl_parse.specs.Outcome as script_outcome
use Rattle.tcl_parse.specs.Grammar.{Opening, by_brace, by_quote, bare, opening, InBracket, InIndex}
use Rattle.txt_core.specs.Limits.{most_nested}
use Rattle.txt_core.specs.Texts.{begins_with}
use Rattle.tcl_parse.specs.Laws.Within.{bracket_within, index_within}
use Rattle.tcl_expr.specs.declared.operator.Op.{Op}
use Rattle.tcl_expr.specs.Trees.{Tree, value}
use Rattle.tcl_expr.specs.Outcome.{Outcome, done, bad, signed, chosen, bad_from}
use Rattle.tcl_expr.specs.Tokens.{loosest, next_question, is_half, stuck}
use Rattle.tcl_expr.specs.Runs.{is_word, names_value, value_front}
use Rattle.tcl_expr.specs.Grammar.{fault_place, bad_place, word_operand, part_operand, closed, Start, enclosed, substituted, run, parenthesis, nothing, start, start_by, Enclosed, Substituted, OperandBy, SignedAt, no_sign, one_sign, LevelAt, ChoiceAt, bad_test, no_choice, bad_middle, no_last, one_choice, ExpressionBy, InParens, most_operators, whole, Reads}
use Rattle.tcl_expr.specs.Laws.Fits.{Fits, signed_at_fits, level_fits, choice_fits, expression_fits, parens_fits}
use Rattle.tcl_expr.specs.Laws.One.{IsOne, one_signed, one_parens}
use Rattle.tcl_expr.specs.Laws.Some.{IsTotal, IsFit, some_signed, some_parens}
use Rattle.tcl_expr.proofs.Behind.{Clean, Leaves, trim_clean, trim_suffix, trim_apart, cons_apart, sign_leaves, operator_leaves, question_leaves, colon_leaves}
use Rattle.tcl_expr.proofs.OpenOperands.{front_le}
use Rattle.tcl_expr.proofs.OpenLevels.{End, stops, breaks, end_of, Row, row_bad, row_ends, row_goes, row_level, level_row}
use Rattle.tcl_expr.proofs.Suffixes as suffixes
use Rattle.tcl_expr.proofs.Suffixes.{Suffix, suffix_all, suffix_trans, suffix_cons, suffix_drop, overlap, NotLine, Good}

-- where so much is left, no newline stands behind a backslash
abbrev pub NotPair : List ℕ → ℕ → Type 0
NotPair t n = (g u : List ℕ) → t ≡ g ++ 92 ∷ u → length u ≡ n → begins_with newline u ≡ false

-- what is left is an end of the text that begins with no newline, and a bad place is no such place
abbrev pub Apart : List ℕ → Outcome → Type 0
Apart t (done x m r) = Suffix t r × Clean r
Apart t (bad b) = NotPair t b

line_pair : (t : List ℕ) (n : ℕ) → NotLine t n → NotPair t n
line_pair t n h g u e l = suffixes.stands_line u (h (g ++ 92 ∷ []) u (e ∙ sym (append_assoc g (92 ∷ []) u)) l)

-- no newline stands behind the backslash at which a fault stands
behind_pair : (t : List ℕ) (n : ℕ) → NotLine t n → NotPair t (n - 1)
behind_pair t n h g [] e l = refl
behind_pair t n h g (c ∷ u) e l = suffixes.stands_slash (c ∷ u) (h g (92 ∷ c ∷ u) e (omega (arith, l)))

behind_if : (s : Bool) (t : List ℕ) (n : ℕ) → NotLine t n → NotPair t (if s then n - 1 else n)
behind_if true t n h = behind_pair t n h
behind_if false t n h = line_pair t n h

place_pair : (t : List ℕ) (k : Kind) (d : ℕ) → NotLine t (fault_place k d) → NotPair t (bad_place t k d)
place_pair t k d h = behind_if (begins_with backslash (drop (length t - fault_place k d) t)) t (fault_place k d) h

far_pair : (t : List ℕ) (n : ℕ) → length t ≤ n → NotPair t n
far_pair t n le g u e l = absurd (omega (arith, le, l, ap length e, length-append g (92 ∷ u)))

nil_front : (g u r : List ℕ) → r ≡ g ++ u → length u ≡ length r → r ≡ u
nil_front [] u r e l = e
nil_front (b ∷ g) u r e l = absurd (omega (arith, ap length e, length-append g u, l))

-- an end of a text by its length
same_end : (t r g u : List ℕ) → Suffix t r → t ≡ g ++ u → length u ≡ length r → r ≡ u
same_end t r g u h e l =
    let o = overlap h.0 r g u (sym h.1 ∙ e) (omega (arith, l)) in
    nil_front o.0 u r o.1 l

pair_by : (t r g u : List ℕ) (n : ℕ) → Suffix t r → Clean r → NotPair r n → t ≡ g ++ 92 ∷ u → length u ≡ n → (n ≡ length r) ⊎ (n < length r) → Clean u
pair_by t r g u n h c k e l (inl q) =
    subst Clean (same_end t r (g ++ 92 ∷ []) u h (e ∙ sym (append_assoc g (92 ∷ []) u)) (l ∙ q)) c
pair_by t r g u n h c k e l (inr lt) =
    let o = overlap h.0 r g (92 ∷ u) (sym h.1 ∙ e) (omega (arith, l, lt)) in
    k o.0 u o.1 l

pair_more : (t r : List ℕ) (n : ℕ) → Suffix t r → Clean r → n ≤ length r → NotPair r n → NotPair t n
pair_more t r n h c le k g u e l = pair_by t r g u n h c k e l (eq-or-lt_of_le le)

apart_more : (n : ℕ) (t r : List ℕ) (o : Outcome) → Suffix t r → Clean r → Fits n (length r) o → Apart r o → Apart t o
apart_more n t r (done x m s) h c f k = (suffix_trans t r s h k.0, k.1)
apart_more n t r (bad b) h c f k = pair_more t r b h c f k

-- behind a whole operand
half_by : (s : Bool) (t : List ℕ) (c : ℕ) (r : List ℕ) → is_half c ≡ s → Suffix t (c ∷ r) → Clean (c ∷ r) → NotPair t (if s then length r else length (c ∷ r))
half_by true t c r q h k g u e l =
    let w : c ∷ r ≡ 92 ∷ u = same_end t (c ∷ r) g (92 ∷ u) h e (omega (arith, l)) in
    let b : c ≡ 92 = cc in
    absurd (let z : is_half 92 ≡ true = subst (λ y. is_half y ≡ true) b q in cc)
half_by false t c r q h k g u e l = subst Clean (same_end t (c ∷ r) (g ++ 92 ∷ []) u h (e ∙ sym (append_assoc g (92 ∷ []) u)) l) k

stuck_pair : (m : ℕ) (t r : List ℕ) → Leaves t r → NotPair t (stuck m r)
stuck_pair zero t [] h = line_pair t 0 (suffixes.line_none t)
stuck_pair (suc m) t [] h = line_pair t 0 (suffixes.line_none t)
stuck_pair zero t (c ∷ r) h = λ g u e l. subst Clean (same_end t (c ∷ r) (g ++ 92 ∷ []) u h.0 (e ∙ sym (append_assoc g (92 ∷ []) u)) l) h.1
stuck_pair (suc m) t (c ∷ r) h = half_by (is_half c) t c r refl h.0 h.1

-- ---- operands

word_apart : (n : ℕ) (t : List ℕ) (w : script_outcome.Outcome Word) → Good t w → Apart t (word_operand n t w)
word_apart n t (script_outcome.done y r) h = trim_apart t r h
word_apart n t (script_outcome.fault k d) h = place_pair t k d h

part_apart : (n : ℕ) (t : List ℕ) (w : script_outcome.Outcome Part) → Good t w → Apart t (part_operand n t w)
part_apart n t (script_outcome.done y r) h = trim_apart t r h
part_apart n t (script_outcome.fault k d) h = place_pair t k d h

pub enclosed_good : (t : List ℕ) (w : script_outcome.Outcome Word) → Enclosed t w → Good t w
enclosed_good t w h = suffixes.enclosed_good (InBracket most_nested) (InIndex most_nested) (bracket_within most_nested) (index_within most_nested) (suffixes.bracket_good most_nested) (suffixes.index_good most_nested) h

pub substituted_good : (t : List ℕ) (w : script_outcome.Outcome Part) → Substituted t w → Good t w
substituted_good t w h =
    suffixes.part_good (InBracket most_nested) (InIndex most_nested) (bracket_within most_nested) (index_within most_nested) (suffixes.bracket_good most_nested) (suffixes.index_good most_nested)
    h.0 (length t) t w (suffixes.step_ends t _ h.1) h.2

run_byte : (g : List ℕ) (c : ℕ) (u : List ℕ) → length g < prefix_len is_word (g ++ c ∷ u) → is_word c ≡ true
run_byte [] c u lt = by_test (is_word c) (prefix_len is_word u) refl lt
  where
    by_test : (s : Bool) (n : ℕ) → is_word c ≡ s → 0 < (if s then 1 + n else 0) → is_word c ≡ true
    by_test true n e lt = e
    by_test false n e lt = absurd (omega (arith, lt))
run_byte (b ∷ g) c u lt = by_test (is_word b) (prefix_len is_word (g ++ c ∷ u)) lt (run_byte g c u)
  where
    by_test : (s : Bool) (n : ℕ) → length (b ∷ g) < (if s then 1 + n else 0) → (length g < n → is_word c ≡ true) → is_word c ≡ true
    by_test true n lt go = go (omega (arith, lt))
    by_test false n lt go = absurd (omega (arith, lt))

taken_le : (j : ℕ) (t : List ℕ) → length (take j t) ≤ j
taken_le zero t = omega arith
taken_le (suc j) [] = omega arith
taken_le (suc j) (b ∷ t) = omega (arith, taken_le j t)

run_pair : (t : List ℕ) → NotPair t (length t - value_front (take (prefix_len is_word t) t))
run_pair t g u e l =
    let j = prefix_len is_word t in
    let low = front_le (take j t) in
    let tl = taken_le j t in
    let n : length t ≡ length g + suc (length u) = ap length e ∙ length-append g (92 ∷ u) in
    let lt : length g < j = omega (arith, l, n, low, tl) in
    let w : is_word 92 ≡ true = run_byte g 92 u (subst (λ y. length g < prefix_len is_word y) e lt) in
    absurd (cc)

run_by : (n : ℕ) (t : List ℕ) (s : Bool) → Apart t (if s then done (value (take (prefix_len is_word t) t)) n (trimmed_front (drop (prefix_len is_word t) t)) else bad (length t - value_front (take (prefix_len is_word t) t)))
run_by n t true = trim_apart t (drop (prefix_len is_word t) t) (suffix_drop (prefix_len is_word t) t)
run_by n t false = run_pair t

slash_never : (c : ℕ) (g : List ℕ) → start (c ∷ g) ≡ substituted → c ≡ 92 → ⊥
slash_never c g e q = let w : start (92 ∷ g) ≡ substituted = subst (λ y. start (y ∷ g) ≡ substituted) q e in let z : nothing ≡ substituted = w in absurd (cc)

never_parens : (q : Opening) (b : ℕ) (g : List ℕ) (p d s : Bool) → start_by q (b ∷ g) ≡ parenthesis → ((b == 36) || (b == 91)) ≡ d → (b == 40) ≡ p → is_word b ≡ s → b ≡ 40
never_parens by_brace b g p d s e u v w = absurd (cc)
never_parens by_quote b g p d s e u v w = absurd (cc)
never_parens bare b g true d s e u v w = eqb-true b 40 v
never_parens bare b g false true s e u v w = let k : substituted ≡ parenthesis = rw u at e in absurd (cc)
never_parens bare b g false false true e u v w = let k : run ≡ parenthesis = rw (u, v, w) at e in absurd (cc)
never_parens bare b g false false false e u v w = let k : nothing ≡ parenthesis = rw (u, v, w) at e in absurd (cc)

module _ (P : ℕ → List ℕ → Outcome → Type 0) (P_fits : (n : ℕ) (t : List ℕ) (o : Outcome) → P n t o → Fits n (length t + 1) o) (P_apart : (n : ℕ) (t : List ℕ) (o : Outcome) → P n t o → Apart (40 ∷ t) o) (some_p : IsTotal P) (one_p : IsOne P) where
  closed_if : (s : Bool) (t : List ℕ) (x : Tree) (m c : ℕ) (r : List ℕ) → Leaves t (c ∷ r) → Apart t (if s then done x m (trimmed_front r) else bad (stuck m (c ∷ r)))
  closed_if true t x m c r h = trim_apart t r (suffix_trans t (c ∷ r) r h.0 (suffix_cons c r r (suffix_all r)))
  closed_if false t x m c r h = stuck_pair m t (c ∷ r) h

  closed_apart : (t : List ℕ) (w : Outcome) → Apart t w → Apart t (closed w)
  closed_apart t (bad b) h = h
  closed_apart t (done x m []) h = line_pair t 0 (suffixes.line_none t)
  closed_apart t (done x m (c ∷ r)) h = closed_if (c == 41) t x m c r h

  dollar_pair : (c : ℕ) (g : List ℕ) → start (c ∷ g) ≡ substituted → NotPair (c ∷ g) (length (c ∷ g) - 1)
  dollar_pair c g s [] u e l = let q : c ≡ 92 = cc in absurd (slash_never c g s q)
  dollar_pair c g s (b ∷ h) u e l = absurd (omega (arith, ap length e, length-append h (92 ∷ u), l))

  operand_apart : (s : Start) (n c : ℕ) (g : List ℕ) (o : Outcome) → start (c ∷ g) ≡ s → OperandBy P s n (c ∷ g) o → Apart (c ∷ g) o
  operand_apart enclosed n c g o e h = subst (Apart (c ∷ g)) (sym h.2) (word_apart n (c ∷ g) h.0 (enclosed_good (c ∷ g) h.0 h.1))
  operand_apart substituted n c g o e (inl h) = subst (Apart (c ∷ g)) (sym h.2) (part_apart n (c ∷ g) h.0 (substituted_good (c ∷ g) h.0 h.1))
  operand_apart substituted n c g o e (inr h) = subst (Apart (c ∷ g)) (sym h.1) (dollar_pair c g e)
  operand_apart run n c g o e h = subst (Apart (c ∷ g)) (sym h) (run_by n (c ∷ g) (names_value (take (prefix_len is_word (c ∷ g)) (c ∷ g))))
  operand_apart parenthesis n c g o e h =
      let b : 40 ≡ c = sym (never_parens (opening (c ∷ g)) c g (c == 40) ((c == 36) || (c == 91)) (is_word c) e refl refl refl) in
      let k : Apart (40 ∷ g) (closed h.0) = closed_apart (40 ∷ g) h.0 (P_apart n g h.0 h.1) in
      subst (Apart (c ∷ g)) (sym h.2) (subst (λ y. Apart (y ∷ g) (closed h.0)) b k)
  operand_apart nothing n c g o e h = subst (Apart (c ∷ g)) (sym h) (far_pair (c ∷ g) (length (c ∷ g)) (omega arith))

  plain_apart : (n : ℕ) (t : List ℕ) (o : Outcome) → OperandBy P (start t) n t o → Apart t o
  plain_apart n [] o h = subst (Apart []) (sym h) (far_pair [] 0 (omega arith))
  plain_apart n (c ∷ g) o h = operand_apart (start (c ∷ g)) n c g o refl h

  signed_as : (t : List ℕ) (op : Op) (o : Outcome) → Apart t o → Apart t (signed op o)
  signed_as t op (done x m r) h = h
  signed_as t op (bad b) h = h

  pub signed_apart : {n : ℕ} {t : List ℕ} {o : Outcome} → SignedAt P n t o → Apart t o
  signed_apart {n} {t} {o} (no_sign e h) = plain_apart n t o h
  signed_apart {n} {t} (one_sign {m = m} {r = r} {op = op} {o = o} e h) =
      let s = sign_leaves n m t r op e in
      signed_as t op o (apart_more m t r o s.0 s.1 (signed_at_fits P P_fits h) (signed_apart h))

  -- ---- levels

  abbrev EndApart : List ℕ → End → Type 0
  EndApart t (stops m r) = Leaves t r
  EndApart t (breaks b) = NotPair t b

  S_fits : IsFit (SignedAt P)
  S_fits n t o h = signed_at_fits P P_fits h

  broken_of : (o : Outcome) (b n l : ℕ) → end_of o ≡ breaks b → Fits n l o → b ≤ l
  broken_of (done x m r) b n l e f = absurd (cc)
  broken_of (bad d) b n l e f = let q : d ≡ b = cc in omega (arith, q, f)

  row_more : (n : ℕ) (t r : List ℕ) (e : End) → Leaves t r → Row (SignedAt P) n r e → EndApart r e → EndApart t e
  row_more n t r (stops m s) h w k = (suffix_trans t r s h.0 k.0, k.1)
  row_more n t r (breaks b) h w k =
      let l = row_level (SignedAt P) n r (breaks b) w in
      pair_more t r b h.0 h.1 (broken_of l.0 b n (length r) l.2 (level_fits (SignedAt P) S_fits loosest n r l.0 l.1)) k

  row_apart : {n : ℕ} {t : List ℕ} {e : End} → Row (SignedAt P) n t e → EndApart t e
  row_apart (row_bad h) = signed_apart h
  row_apart (row_ends x h e) = signed_apart h
  row_apart {n} {t} (row_goes x op {m = m} {i = i} {u = u} {r = r} {e = e} h q w) =
      let a = signed_apart h in
      let s = operator_leaves m i u r op q in
      row_more i t r e (suffix_trans t u r a.0 s.0, s.1) w (row_apart w)

  end_apart : (t : List ℕ) (o : Outcome) → EndApart t (end_of o) → Apart t o
  end_apart t (done x m r) h = h
  end_apart t (bad b) h = h

  T_fits : IsFit (LevelAt (SignedAt P) loosest)
  T_fits = level_fits (SignedAt P) S_fits loosest

  pub level_apart : (n : ℕ) (t : List ℕ) (o : Outcome) → LevelAt (SignedAt P) loosest n t o → Apart t o
  level_apart n t o h = end_apart t o (row_apart (level_row (SignedAt P) (some_signed P some_p) S_fits (one_signed P one_p) n t o h))

  -- ---- choices

  chosen_as : (t : List ℕ) (x y : Tree) (o : Outcome) → Apart t o → Apart t (chosen x y o)
  chosen_as t x y (done z m r) h = h
  chosen_as t x y (bad b) h = h

  asked_leaves : (n m i : ℕ) (t u r : List ℕ) (x : Tree) → LevelAt (SignedAt P) loosest n t (done x m u) → next_question m u ≡ Some (i, r) → Leaves t r
  asked_leaves n m i t u r x h q =
      let a = level_apart n t (done x m u) h in
      let s = question_leaves m i u r q in
      (suffix_trans t u r a.0 s.0, s.1)

  pub choice_apart : {n : ℕ} {t : List ℕ} {o : Outcome} → ChoiceAt (LevelAt (SignedAt P) loosest) n t o → Apart t o
  choice_apart {n} {t} (bad_test {b = b} h) = level_apart n t (bad b) h
  choice_apart {n} {t} (no_choice x {m = m} {u = u} h q) = level_apart n t (done x m u) h
  choice_apart {n} {t} (bad_middle x {m = m} {i = i} {b = b} {u = u} {r = r} h q k) =
      let s = asked_leaves n m i t u r x h q in
      apart_more i t r (bad b) s.0 s.1 (choice_fits (LevelAt (SignedAt P) loosest) T_fits k) (choice_apart k)
  choice_apart {n} {t} (no_last x y {m = m} {i = i} {j = j} {u = u} {r = r} {v = v} h q k c) =
      let s = asked_leaves n m i t u r x h q in
      let a = choice_apart k in
      stuck_pair j t v (suffix_trans t r v s.0 a.0, a.1)
  choice_apart {n} {t} (one_choice x y {m = m} {i = i} {j = j} {u = u} {r = r} {v = v} {s = w} {o = o} h q k c l) =
      let s = asked_leaves n m i t u r x h q in
      let a = choice_apart k in
      let d = colon_leaves v w c in
      let f : Suffix t w = suffix_trans t r w s.0 (suffix_trans r v w a.0 d.0) in
      chosen_as t x y o (apart_more j t w o f d.1 (choice_fits (LevelAt (SignedAt P) loosest) T_fits l) (choice_apart l))

  pub expression_apart : (n : ℕ) (t : List ℕ) (o : Outcome) → ExpressionBy P n t o → Apart t o
  expression_apart n t o h = choice_apart h

pub parens_apart : (room n : ℕ) (t : List ℕ) (o : Outcome) → InParens room n t o → Apart (40 ∷ t) o
unfolding InParens
parens_apart zero n t o h = subst (Apart (40 ∷ t)) (sym h) (far_pair (40 ∷ t) (length t + 1) (omega arith))
parens_apart (suc room) n t o h =
    let s = cons_apart 40 t in
    apart_more n (40 ∷ t) (trimmed_front t) o s.0 s.1 (expression_fits (InParens room) (parens_fits room) n (trimmed_front t) o h)
    (expression_apart (InParens room) (parens_fits room) (parens_apart room) (some_parens room) (one_parens room) n (trimmed_front t) o h)

same_left : (a b : ℕ) → bad_from a ≡ bad_from b → a ≡ b
same_left a b e = cc

whole_pair : (t : List ℕ) (left : ℕ) (o : Outcome) → Apart t o → bad_from left ≡ whole o → NotPair t left
whole_pair t left (bad b) h e = subst (NotPair t) (sym (same_left left b e)) h
whole_pair t left (done x m []) h e = absurd (cc)
whole_pair t left (done x m (c ∷ r)) h e = subst (NotPair t) (sym (same_left left (stuck m (c ∷ r)) e)) (stuck_pair m t (c ∷ r) h)

-- The bad place of a text never stands between a backslash and a newline.
pub never_between : (t : List ℕ) (left : ℕ) → Reads t (bad_from left) → NotPair t left
never_between t left h =
    let P = InParens most_nested in
    let a = expression_apart P (parens_fits most_nested) (parens_apart most_nested) (some_parens most_nested) (one_parens most_nested) most_operators (trimmed_front t) h.0 h.1 in
    let f = expression_fits P (parens_fits most_nested) most_operators (trimmed_front t) h.0 h.1 in
    whole_pair t left h.0 (apart_more most_operators t (trimmed_front t) h.0 (trim_suffix t) (trim_clean t) f a) h.2
