-- An operand with its unary operators stays one with more behind it, and one that is open at the end of a text can be closed.
use Rattle.std.proofs.Common.{◌≡◌, ℕ, zero, suc, ◌-◌, ◌<◌, ◌≤◌, List, [], ◌∷◌, ◌++◌, length, take, drop, Bool, true, false, Option, None, Some, refl, ap, sym, ◌∙◌, subst, ◌⊎◌, inl, inr, arith, append-nil, append_assoc}
use Rattle.std.specs.Prelude.{◌==◌, ◌&&◌, ◌||◌, max, codes, nat_le, nat_lt, if◌then◌else◌}
use Rattle.std.specs.List.{list_all, prefix_len}
use Rattle.std.proofs.Math.Nat.{eq-or-lt_of_le}
use Rattle.std.proofs.lemmas.Bool.{eqb-true}
use Rattle.std.proofs.lemmas.Bool.Decides.{nat_tests}
use Rattle.std.proofs.lemmas.List.{length-drop, take_all, take-append-drop}
use Rattle.std.proofs.lemmas.List.Folds.{list_all-append}
use Rattle.std.proofs.lemmas.List.Sums.{prefix_len-le-length}
use Rattle.txt_core.specs.Number.{is_space, trimmed_front, number}
use Rattle.txt_core.specs.Texts.{begins_with}
use Rattle.tcl_parse.specs.Bytes.{backslash}
use Rattle.tcl_parse.specs.Tree.{Part, Word}
use Rattle.tcl_parse.specs.Outcome as script_outcome
use Rattle.tcl_parse.specs.Steps as steps
use Rattle.tcl_parse.specs.Grammar.{opening, Opening, by_brace, by_quote, bare}
use Rattle.tcl_parse.specs.Names.{named_part}
use Rattle.tcl_expr.specs.declared.operator.Op.{Op}
use Rattle.tcl_expr.specs.Trees.{Tree, value, word, unary}
use Rattle.tcl_expr.specs.Outcome.{Outcome, done, bad, signed}
use Rattle.tcl_expr.specs.Tokens.{next_sign, stuck}
use Rattle.tcl_expr.specs.Runs.{is_word, run_at, names_value, next_value, one_more, digits_front, shared, word_front, zero_front, value_front}
use Rattle.tcl_expr.specs.Grammar.{fault_place, behind_backslash, bad_place, word_operand, part_operand, run_operand, closed, Start, enclosed, substituted, run, parenthesis, nothing, start, start_by, Enclosed, Substituted, OperandBy, SignedAt, no_sign, one_sign}
use Rattle.tcl_expr.specs.Laws.Fits.{trimmed_within}
use Rattle.tcl_expr.proofs.Words as words
use Rattle.tcl_expr.proofs.Fronts.{both}
use Rattle.tcl_expr.proofs.Local as local
use Rattle.tcl_expr.proofs.Suffixes.{Suffix, suffix_all, suffix_cons}
use Rattle.tcl_expr.proofs.Behind.{sign_leaves}
use Rattle.tcl_expr.proofs.OpenRuns.{run_makes}
use Rattle.tcl_expr.proofs.OpenWords.{all_bytes, Adds}
use Rattle.tcl_expr.proofs.OpenParts.{Follow, Firm, follow_firm, firm_trim, trim_firm, sign_kept, sign_none, substituted_stays, substituted_open, word_opens, word_stays}

-- it is bad at the end of the text, or what is left can go on there
abbrev pub IsEnd : Outcome → Type 0
IsEnd (bad b) = b ≡ 0
IsEnd (done x m r) = stuck m r ≡ 0

-- With more behind the text it ends before whatever may follow.
abbrev pub Ends : (ℕ → List ℕ → Outcome → Type 0) → ℕ → List ℕ → Type 0
Ends R n t = (T : List ℕ → List ℕ) × Adds T × ((z : List ℕ) → Follow z → Firm (T z) × ((x : Tree) × (m : ℕ) × R n (t ++ T z) (done x m z)))

-- it doesn't end in a backslash
abbrev pub Plain : List ℕ → Type 0
Plain t = (g : List ℕ) → t ≡ g ++ 92 ∷ [] → ⊥

pub plain_end : (t r : List ℕ) → Suffix t r → Plain t → Plain r
plain_end t r h p g e = p (h.0 ++ g) (h.1 ∙ ap (λ y. h.0 ++ y) e ∙ sym (append_assoc h.0 g (92 ∷ [])))

one_slash : (r : List ℕ) → begins_with backslash r ≡ true → length r ≤ 1 → r ≡ 92 ∷ []
one_slash [] e le = absurd (cc)
one_slash (b ∷ []) e le = ap (λ x. x ∷ []) (eqb-true b 92 e)
one_slash (b ∷ c ∷ r) e le = absurd (omega (arith, le))

-- What is bad at the end of a text that ends in no backslash isn't closed there.
open_place : (t : List ℕ) (m : ℕ) → Plain t → behind_backslash t m ≡ 0 → m ≡ 0
open_place t m p e = by_test m (begins_with backslash (drop (length t - m) t)) refl e
  where
    by_test : (m : ℕ) (s : Bool) → begins_with backslash (drop (length t - m) t) ≡ s → (if s then m - 1 else m) ≡ 0 → m ≡ 0
    by_test m false q e = e
    by_test zero true q e = refl
    by_test (suc zero) true q e =
        let r = one_slash (drop (length t - 1) t) q (omega (arith, length-drop (length t - 1) t)) in
        absurd (p (take (length t - 1) t) (sym (take-append-drop (length t - 1) t) ∙ ap (λ y. take (length t - 1) t ++ y) r))
    by_test (suc (suc m)) true q e = absurd (omega (arith, e))

-- What is read stays so with this behind the text; where nothing is left, it is something that may follow.
abbrev pub Kept : (ℕ → List ℕ → Outcome → Type 0) → ℕ → List ℕ → List ℕ → Outcome → Type 0
Kept R n t v (bad b) = Unit {0}
Kept R n t v (done x m r) = (0 < length r) ⊎ Follow v → R n (t ++ v) (done x m (r ++ v))

kept_map : (R Q : ℕ → List ℕ → Outcome → Type 0) (n k : ℕ) (t s v : List ℕ) (o : Outcome) → ((p : Outcome) → R n (t ++ v) p → Q k (s ++ v) p) → Kept R n t v o → Kept Q k s v o
kept_map R Q n k t s v (bad b) f h = tt
kept_map R Q n k t s v (done x m r) f h = λ c. f (done x m (r ++ v)) (h c)

-- ---- runs

follow_run : (v : List ℕ) → Follow v → run_at v ≡ ([], v)
follow_run [] f = refl
follow_run (c ∷ z) (inl e) = subst (λ b. run_at (b ∷ z) ≡ ([], b ∷ z)) (sym e) refl
follow_run (c ∷ z) (inr e) = subst (λ b. run_at (b ∷ z) ≡ ([], b ∷ z)) (sym e) refl

nil_of : (t : List ℕ) → length t ≡ 0 → t ≡ []
nil_of [] e = refl
nil_of (b ∷ t) e = absurd (omega (arith, e))

all_taken : (j : ℕ) (t : List ℕ) → j ≡ length t → take j t ≡ t
all_taken j t q = take_all j t (omega (arith, q))

run_full : (t v : List ℕ) → Follow v → prefix_len is_word t ≡ length t → run_at (t ++ v) ≡ (t, v)
run_full t v f q =
    local.run_long t v q ∙ ap (λ (x : List ℕ × List ℕ). (t ++ x.0, x.1)) (follow_run v f) ∙ ap (λ (x : List ℕ). (x, v)) (append-nil t)

run_stays : (t v : List ℕ) → (0 < length (trimmed_front (drop (prefix_len is_word t) t))) ⊎ Follow v → run_at (t ++ v) ≡ (take (prefix_len is_word t) t, drop (prefix_len is_word t) t ++ v)
run_stays t v c = by_length c (eq-or-lt_of_le (prefix_len-le-length is_word t))
  where
    by_length : (0 < length (trimmed_front (drop (prefix_len is_word t) t))) ⊎ Follow v → (prefix_len is_word t ≡ length t) ⊎ (prefix_len is_word t < length t) → run_at (t ++ v) ≡ (take (prefix_len is_word t) t, drop (prefix_len is_word t) t ++ v)
    by_length c (inr lt) = local.run_short t v lt
    by_length (inl k) (inl q) = absurd (omega (arith, k, trimmed_within (drop (prefix_len is_word t) t), length-drop (prefix_len is_word t) t, q))
    by_length (inr f) (inl q) =
        let a = all_taken (prefix_len is_word t) t q in
        let d : drop (prefix_len is_word t) t ≡ [] = nil_of (drop (prefix_len is_word t) t) (omega (arith, length-drop (prefix_len is_word t) t, q)) in
        rw (a, d) (run_full t v f q)

run_done : (n k : ℕ) (a h t v : List ℕ) (s : Bool) → names_value a ≡ s → Firm v → ((0 < length (trimmed_front h)) ⊎ Follow v → run_at (t ++ v) ≡ (a, h ++ v)) → Kept (λ n t o. o ≡ run_operand n t) n t v (if s then done (value a) n (trimmed_front h) else bad k)
run_done n k a h t v true e f g = λ c.
    let p : run_operand n (t ++ v) ≡ local.by_run n (length (t ++ v)) (a, h ++ v) = ap (local.by_run n (length (t ++ v))) (g c) in
    let q : local.by_run n (length (t ++ v)) (a, h ++ v) ≡ done (value a) n (trimmed_front (h ++ v)) = rw e refl in
    sym (p ∙ q ∙ ap (λ (y : List ℕ). done (value a) n y) (trim_firm h v f))
run_done n k a h t v false e f g = tt

run_kept : (n : ℕ) (t v : List ℕ) (o : Outcome) → Firm v → o ≡ run_operand n t → Kept (λ n t o. o ≡ run_operand n t) n t v o
run_kept n t v o f e =
    let j = prefix_len is_word t in
    subst (Kept (λ n t o. o ≡ run_operand n t) n t v) (sym e) (run_done n (length t - value_front (take j t)) (take j t) (drop j t) t v (names_value (take j t)) refl f (run_stays t v))

more_le : (q : Option ℕ) (f : ℕ → ℕ) (n : ℕ) → ((m : ℕ) → f m ≤ n) → one_more q f ≤ suc n
more_le None f n h = omega arith
more_le (Some m) f n h = omega (arith, h m)

digits_le : (base n : ℕ) (t : List ℕ) → digits_front base n t ≤ length t
digits_le base n [] = omega arith
digits_le base n (b ∷ t) = more_le (next_value base n b) (λ m. digits_front base m t) (length t) (λ m. digits_le base m t)

if_le : (t : Bool) (x y n : ℕ) → x ≤ n → y ≤ n → (if t then x else y) ≤ n
if_le true x y n h k = h
if_le false x y n h k = k

shared_le : (w t : List ℕ) → shared w t ≤ length t
shared_le [] t = omega arith
shared_le (c ∷ w) [] = omega arith
shared_le (c ∷ w) (b ∷ t) = if_le (c == b) (suc (shared w t)) 0 (suc (length t)) (omega (arith, shared_le w t)) (omega arith)

max_le : (a b n : ℕ) → a ≤ n → b ≤ n → max a b ≤ n
max_le a b n h k = omega (arith, h, k)

word_le : (t : List ℕ) → word_front t ≤ length t
word_le t =
    let n = length t in
    max_le _ _ n (max_le _ _ n (max_le _ _ n (max_le _ _ n (max_le _ _ n (shared_le (codes "true") t) (shared_le (codes "yes") t)) (shared_le (codes "on") t)) (shared_le (codes "false") t)) (shared_le (codes "no") t)) (shared_le (codes "off") t)

zero_le : (t : List ℕ) → zero_front t ≤ length t
zero_le [] = omega arith
zero_le (b ∷ t) = if_le ((b == 120) || (b == 88)) (suc (digits_front 16 0 t)) (digits_front 8 0 (b ∷ t)) (suc (length t)) (omega (arith, digits_le 16 0 t)) (digits_le 8 0 (b ∷ t))

pub front_le : (t : List ℕ) → value_front t ≤ length t
front_le [] = omega arith
front_le (b ∷ t) =
    if_le (b == 48) (suc (zero_front t)) (if nat_le 49 b && nat_le b 57 then digits_front 10 0 (b ∷ t) else word_front (b ∷ t)) (suc (length t)) (omega (arith, zero_le t))
    (if_le (nat_le 49 b && nat_le b 57) (digits_front 10 0 (b ∷ t)) (word_front (b ∷ t)) (suc (length t)) (digits_le 10 0 (b ∷ t)) (word_le (b ∷ t)))

prefix_whole : (t : List ℕ) → list_all is_word t ≡ true → prefix_len is_word t ≡ length t
prefix_whole [] h = refl
prefix_whole (b ∷ t) h =
    let p = both (is_word b) (list_all is_word t) h in
    rw (p.0) (omega (arith, prefix_whole t p.1))

word_firm : (c : ℕ) → is_word c ≡ true → is_space c ≡ false
word_firm c h = grind (arith, nat_tests)

word_byte : (c : ℕ) → is_word c ≡ true → nat_lt c 256 ≡ true
word_byte c h = grind (arith, nat_tests)

run_bytes : (w z : List ℕ) → list_all is_word w ≡ true → all_bytes z ≡ true → all_bytes (w ++ z) ≡ true
run_bytes [] z h b = b
run_bytes (c ∷ w) z h b =
    let p = both (is_word c) (list_all is_word w) h in
    rw (word_byte c p.0) (run_bytes w z p.1 b)

firm_words : (t w z : List ℕ) → list_all is_word (t ++ w) ≡ true → Follow z → Firm (w ++ z)
firm_words t [] z h f = follow_firm z f
firm_words t (c ∷ w) z h f =
    let a : (list_all is_word t && list_all is_word (c ∷ w)) ≡ true = sym (list_all-append is_word t (c ∷ w)) ∙ h in
    word_firm c (both (is_word c) (list_all is_word w) (both (list_all is_word t) (list_all is_word (c ∷ w)) a).1).0

run_ends_by : (n : ℕ) (t : List ℕ) (b : ℕ) (s : Bool) → bad b ≡ (if s then done (value (take (prefix_len is_word t) t)) n (trimmed_front (drop (prefix_len is_word t) t)) else bad (length t - value_front (take (prefix_len is_word t) t))) → b ≡ 0
    → length t ≤ value_front (take (prefix_len is_word t) t)
run_ends_by n t b true e z = absurd (cc)
run_ends_by n t b false e z = let q : b ≡ length t - value_front (take (prefix_len is_word t) t) = cc in omega (arith, q, z)

run_ends : (n : ℕ) (t : List ℕ) (b : ℕ) → bad b ≡ run_operand n t → b ≡ 0 → Ends (λ n t o. o ≡ run_operand n t) n t
run_ends n t b e zero_b =
    let j = prefix_len is_word t in
    let le = run_ends_by n t b (names_value (take j t)) e zero_b in
    let low = front_le (take j t) in
    let jl = prefix_len-le-length is_word t in
    let tl : length (take j t) ≤ j = take_le j t in
    let q : j ≡ length t = omega (arith, le, low, tl, jl) in
    let a : take j t ≡ t = all_taken j t q in
    let all : list_all is_word t ≡ true = subst (λ y. list_all is_word y ≡ true) a (local.all_run t) in
    let front : value_front t ≡ length t = whole t (subst (λ y. length t ≤ value_front y) a le) in
    let w = run_makes t all front in (
      λ z. w.0 ++ z,
      λ z b. run_bytes w.0 z (both (list_all is_word t) (list_all is_word w.0) (sym (list_all-append is_word t w.0) ∙ w.1)).1 b,
      λ z f.
          let g = t ++ w.0 in
          let r : run_at (g ++ z) ≡ (g, z) = run_full g z f (prefix_whole g w.1) in
          let p : run_operand n (g ++ z) ≡ local.by_run n (length (g ++ z)) (g, z) = ap (local.by_run n (length (g ++ z))) r in
          let d : local.by_run n (length (g ++ z)) (g, z) ≡ done (value g) n (trimmed_front z) = rw (w.2) refl in
          let k : done (value g) n z ≡ run_operand n (g ++ z) = sym (p ∙ d ∙ ap (λ (y : List ℕ). done (value g) n y) (firm_trim z (follow_firm z f))) in
          (firm_words t w.0 z w.1 f, (value g, n, subst (λ y. done (value g) n z ≡ run_operand n y) (append_assoc t w.0 z) k)),
    )
  where
    take_le : (j : ℕ) (t : List ℕ) → length (take j t) ≤ j
    take_le zero t = omega arith
    take_le (suc j) [] = omega arith
    take_le (suc j) (b ∷ t) = omega (arith, take_le j t)

    whole : (t : List ℕ) → length t ≤ value_front t → value_front t ≡ length t
    whole t h = omega (arith, h, front_le t)

-- ---- a dollar that ends the text

follow_name : (z : List ℕ) → Follow z → steps.step_at (36 ∷ 97 ∷ z) ≡ steps.substituted (steps.named (97 ∷ []) z)
follow_name [] f = refl
follow_name (c ∷ z) (inl e) = subst (λ b. steps.step_at (36 ∷ 97 ∷ b ∷ z) ≡ steps.substituted (steps.named (97 ∷ []) (b ∷ z))) (sym e) refl
follow_name (c ∷ z) (inr e) = subst (λ b. steps.step_at (36 ∷ 97 ∷ b ∷ z) ≡ steps.substituted (steps.named (97 ∷ []) (b ∷ z))) (sym e) refl

never_start : (q : Opening) (b : ℕ) (p s : Bool) → start_by q (b ∷ []) ≡ substituted → (b == 36) ≡ false → (b == 91) ≡ false → (b == 40) ≡ p → is_word b ≡ s → ⊥
never_start by_brace b p s e x y u w = absurd (cc)
never_start by_quote b p s e x y u w = absurd (cc)
never_start bare b true s e x y u w = let k : parenthesis ≡ substituted = rw (x, y, u) at e in absurd (cc)
never_start bare b false true e x y u w = let k : run ≡ substituted = rw (x, y, u, w) at e in absurd (cc)
never_start bare b false false e x y u w = let k : nothing ≡ substituted = rw (x, y, u, w) at e in absurd (cc)

is_dollar : (b : ℕ) (p q : Bool) → (b == 36) ≡ p → (b == 91) ≡ q → start (b ∷ []) ≡ substituted → ((o : script_outcome.Outcome Part) → Substituted (b ∷ []) o → ⊥) → b ≡ 36
is_dollar b true q x y e none = eqb-true b 36 x
is_dollar b false true x y e none =
    let k : 91 ≡ b = sym (eqb-true b 91 y) in
    let one : List ℕ = 91 ∷ [] in
    let w = words.part_total (length one) (steps.opened []) in
    absurd (subst (λ c. ((o : script_outcome.Outcome Part) → Substituted (c ∷ []) o → ⊥)) (sym k) none w.0 (steps.opened [], refl, w.1))
is_dollar b false false x y e none = absurd (never_start (opening (b ∷ [])) b (b == 40) (is_word b) e x y refl refl)

module _ (P : ℕ → List ℕ → Outcome → Type 0) (P_kept : (n m : ℕ) (t r v : List ℕ) (x : Tree) → Firm v → P n t (done x m (41 ∷ r)) → P n (t ++ v) (done x m (41 ∷ r ++ v)))
    (P_ends : (n : ℕ) (t : List ℕ) (o : Outcome) → P n t o → IsEnd o → Plain t → Ends P n t) where
  -- ---- operands

  word_kept : (n : ℕ) (t v : List ℕ) (w : script_outcome.Outcome Word) → Firm v → Enclosed t w → Kept (OperandBy P enclosed) n t v (word_operand n t w)
  word_kept n t v (script_outcome.done y r) f h = λ c. (script_outcome.done y (r ++ v), word_stays t v y r f h, ap (λ (q : List ℕ). done (word y) n q) (sym (trim_firm r v f)))
  word_kept n t v (script_outcome.fault k d) f h = tt

  rest_some : (r v : List ℕ) → (0 < length (trimmed_front r)) ⊎ Follow v → (0 < length r) ⊎ Follow v
  rest_some r v (inl lt) = inl (omega (arith, lt, trimmed_within r))
  rest_some r v (inr f) = inr f

  part_kept : (n : ℕ) (t v : List ℕ) (w : script_outcome.Outcome Part) → Firm v → Substituted t w → Kept (OperandBy P substituted) n t v (part_operand n t w)
  part_kept n t v (script_outcome.done y r) f h = λ c. inl (script_outcome.done y (r ++ v), substituted_stays t v y r f (rest_some r v c) h, ap (λ (q : List ℕ). done (word (y ∷ [])) n q) (sym (trim_firm r v f)))
  part_kept n t v (script_outcome.fault k d) f h = tt

  closed_by : (n m b c : ℕ) (g r v : List ℕ) (x : Tree) (s : Bool) → (b == 41) ≡ s → Firm v → P n g (done x m (b ∷ r)) → Kept (OperandBy P parenthesis) n (c ∷ g) v (if s then done x m (trimmed_front r) else bad (stuck m (b ∷ r)))
  closed_by n m b c g r v x true e f h = λ w.
      let q = eqb-true b 41 e in
      (done x m (41 ∷ r ++ v), P_kept n m g r v x f (subst (λ y. P n g (done x m (y ∷ r))) q h), ap (λ (y : List ℕ). done x m y) (sym (trim_firm r v f)))
  closed_by n m b c g r v x false e f h = tt

  closed_kept : (n c : ℕ) (g v : List ℕ) (w : Outcome) → Firm v → P n g w → Kept (OperandBy P parenthesis) n (c ∷ g) v (closed w)
  closed_kept n c g v (bad b) f h = tt
  closed_kept n c g v (done x m []) f h = tt
  closed_kept n c g v (done x m (b ∷ r)) f h = closed_by n m b c g r v x (b == 41) refl f h

  operand_kept : (s : Start) (n c : ℕ) (g v : List ℕ) (o : Outcome) → Firm v → OperandBy P s n (c ∷ g) o → Kept (OperandBy P s) n (c ∷ g) v o
  operand_kept enclosed n c g v o f h = subst (Kept (OperandBy P enclosed) n (c ∷ g) v) (sym h.2) (word_kept n (c ∷ g) v h.0 f h.1)
  operand_kept substituted n c g v o f (inl h) = subst (Kept (OperandBy P substituted) n (c ∷ g) v) (sym h.2) (part_kept n (c ∷ g) v h.0 f h.1)
  operand_kept substituted n c g v o f (inr h) = subst (Kept (OperandBy P substituted) n (c ∷ g) v) (sym h.1) tt
  operand_kept run n c g v o f h = run_kept n (c ∷ g) v o f h
  operand_kept parenthesis n c g v o f h = subst (Kept (OperandBy P parenthesis) n (c ∷ g) v) (sym h.2) (closed_kept n c g v h.0 f h.1)
  operand_kept nothing n c g v o f h = subst (Kept (OperandBy P nothing) n (c ∷ g) v) (sym h) tt

  word_ends : (n : ℕ) (t : List ℕ) (w : script_outcome.Outcome Word) (b : ℕ) → Plain t → Enclosed t w → bad b ≡ word_operand n t w → b ≡ 0 → Ends (OperandBy P enclosed) n t
  word_ends n t (script_outcome.done y r) b p h e q = absurd (cc)
  word_ends n t (script_outcome.fault k d) b p h e q =
      let w : b ≡ bad_place t k d = cc in
      let c = word_opens t k d h (open_place t (fault_place k d) p (sym w ∙ q)) in
      (λ z. 59 ∷ c.0 z, λ z b. c.1 z b, λ z f. let y = c.2 z in (refl, (word y.0, n, (script_outcome.done y.0 z, y.1, ap (λ (q : List ℕ). done (word y.0) n q) (sym (firm_trim z (follow_firm z f)))))))

  part_ends : (n : ℕ) (t : List ℕ) (w : script_outcome.Outcome Part) (b : ℕ) → Plain t → Substituted t w → bad b ≡ part_operand n t w → b ≡ 0 → Ends (OperandBy P substituted) n t
  part_ends n t (script_outcome.done y r) b p h e q = absurd (cc)
  part_ends n t (script_outcome.fault k d) b p h e q =
      let w : b ≡ bad_place t k d = cc in
      let c = substituted_open t k d h (open_place t (fault_place k d) p (sym w ∙ q)) in
      (λ z. 59 ∷ c.0 z, λ z b. c.1 z b, λ z f. let y = c.2 z in (refl, (word (y.0 ∷ []), n, inl (script_outcome.done y.0 z, y.1, ap (λ (q : List ℕ). done (word (y.0 ∷ [])) n q) (sym (firm_trim z (follow_firm z f)))))))

  dollar_ends : (n c : ℕ) (g : List ℕ) → start (c ∷ g) ≡ substituted → ((o : script_outcome.Outcome Part) → Substituted (c ∷ g) o → ⊥) → length (c ∷ g) - 1 ≡ 0 → Ends (OperandBy P substituted) n (c ∷ g)
  dollar_ends n c (d ∷ g) e none q = absurd (omega (arith, q))
  dollar_ends n c [] e none q =
      let k : 36 ≡ c = sym (is_dollar c (c == 36) (c == 91) refl refl e none) in
      subst (λ y. Ends (OperandBy P substituted) n (y ∷ [])) k (
        λ z. 97 ∷ z,
        λ z b. b,
        λ z f.
            let p = named_part (97 ∷ []) in
            (refl, (word (p ∷ []), n, inl (script_outcome.done p z, (steps.named (97 ∷ []) z, follow_name z f, refl), ap (λ (q : List ℕ). done (word (p ∷ [])) n q) (sym (firm_trim z (follow_firm z f)))))),
      )

  shut_end : (w : Outcome) (b : ℕ) → bad b ≡ closed w → b ≡ 0 → IsEnd w
  shut_end (bad d) b e q = let p : b ≡ d = cc in sym p ∙ q
  shut_end (done x m []) b e q = end_nil m
    where
      end_nil : (m : ℕ) → stuck m [] ≡ 0
      end_nil zero = refl
      end_nil (suc m) = refl
  shut_end (done x m (c ∷ r)) b e q = by_test (c == 41) e
    where
      by_test : (s : Bool) → bad b ≡ (if s then done x m (trimmed_front r) else bad (stuck m (c ∷ r))) → stuck m (c ∷ r) ≡ 0
      by_test true e = absurd (cc)
      by_test false e = let p : b ≡ stuck m (c ∷ r) = cc in sym p ∙ q

  operand_ends : (s : Start) (n c : ℕ) (g : List ℕ) (b : ℕ) → start (c ∷ g) ≡ s → OperandBy P s n (c ∷ g) (bad b) → b ≡ 0 → Plain (c ∷ g) → Ends (OperandBy P s) n (c ∷ g)
  operand_ends enclosed n c g b e h q l = word_ends n (c ∷ g) h.0 b l h.1 h.2 q
  operand_ends substituted n c g b e (inl h) q l = part_ends n (c ∷ g) h.0 b l h.1 h.2 q
  operand_ends substituted n c g b e (inr h) q l = let p : b ≡ length (c ∷ g) - 1 = cc in dollar_ends n c g e h.0 (sym p ∙ q)
  operand_ends run n c g b e h q l = run_ends n (c ∷ g) b h q
  operand_ends parenthesis n c g b e h q l =
      let k = P_ends n g h.0 h.1 (shut_end h.0 b h.2 q) (plain_end (c ∷ g) g (suffix_cons c g g (suffix_all g)) l) in (
        λ z. k.0 (41 ∷ z),
        λ z b. k.1 (41 ∷ z) b,
        λ z f.
            let y = k.2 (41 ∷ z) (inl refl) in
            (y.0, (y.1.0, y.1.1, (done y.1.0 y.1.1 (41 ∷ z), y.1.2, ap (λ (q : List ℕ). done y.1.0 y.1.1 q) (sym (firm_trim z (follow_firm z f)))))),
      )
  operand_ends nothing n c g b e h q l = absurd (let p : b ≡ length (c ∷ g) = cc in omega (arith, p, q))

  -- ---- unary operators

  signed_by : (n m : ℕ) (t r v : List ℕ) (op : Op) (o : Outcome) → Firm v → next_sign n t ≡ Some (op, m, r) → Kept (SignedAt P) m r v o → Kept (SignedAt P) n t v (signed op o)
  signed_by n m t r v op (bad b) f e h = tt
  signed_by n m t r v op (done x i y) f e h = λ c. one_sign (sign_kept n m t r v op f e) (h c)

  plain_kept : (n : ℕ) (t v : List ℕ) (o : Outcome) → Firm v → next_sign n t ≡ None → OperandBy P (start t) n t o → Kept (SignedAt P) n t v o
  plain_kept n [] v o f e h = subst (Kept (SignedAt P) n [] v) (sym h) tt
  plain_kept n (c ∷ g) v o f e h =
      kept_map (OperandBy P (start (c ∷ g))) (SignedAt P) n n (c ∷ g) (c ∷ g) v o
      (λ p k. no_sign (sign_none n c g v e) (subst (λ s. OperandBy P s n (c ∷ g ++ v) p) (local.start_same c g (g ++ v)) k)) (operand_kept (start (c ∷ g)) n c g v o f h)

  pub signed_kept : {n : ℕ} {t : List ℕ} {o : Outcome} → SignedAt P n t o → (v : List ℕ) → Firm v → Kept (SignedAt P) n t v o
  signed_kept {n} {t} {o} (no_sign e h) v f = plain_kept n t v o f e h
  signed_kept {n} {t} (one_sign {m = m} {r = r} {op = op} {o = o} e h) v f = signed_by n m t r v op o f e (signed_kept h v f)

  zero_run : (n : ℕ) (z : List ℕ) → Follow z → done (value (48 ∷ [])) n z ≡ run_operand n (48 ∷ z)
  unfolding number
  zero_run n z f =
      let r : run_at (48 ∷ z) ≡ (48 ∷ [], z) = run_full (48 ∷ []) z f refl in
      let p : run_operand n (48 ∷ z) ≡ local.by_run n (length (48 ∷ z)) (48 ∷ [], z) = ap (local.by_run n (length (48 ∷ z))) r in
      sym (p ∙ ap (λ (y : List ℕ). done (value (48 ∷ [])) n y) (firm_trim z (follow_firm z f)))

  -- a 0 is an operand
  pub signed_zero : (n : ℕ) (z : List ℕ) → Follow z → SignedAt P n (48 ∷ z) (done (value (48 ∷ [])) n z)
  signed_zero zero z f = no_sign refl (zero_run zero z f)
  signed_zero (suc n) z f = no_sign refl (zero_run (suc n) z f)

  plain_ends : (n : ℕ) (t : List ℕ) (b : ℕ) → next_sign n t ≡ None → OperandBy P (start t) n t (bad b) → b ≡ 0 → Plain t → Ends (SignedAt P) n t
  plain_ends n [] b e h q l = (λ z. 48 ∷ z, λ z b. b, λ z f. (refl, (value (48 ∷ []), n, signed_zero n z f)))
  plain_ends n (c ∷ g) b e h q l =
      let k = operand_ends (start (c ∷ g)) n c g b refl h q l in (
        k.0,
        k.1,
        λ z f.
            let y = k.2 z f in
            (y.0, (y.1.0, y.1.1, no_sign (sign_none n c g (k.0 z) e) (subst (λ s. OperandBy P s n (c ∷ g ++ k.0 z) (done y.1.0 y.1.1 z)) (local.start_same c g (g ++ k.0 z)) y.1.2))),
      )

  bad_signed : (op : Op) (o : Outcome) (b : ℕ) → signed op o ≡ bad b → o ≡ bad b
  bad_signed op (done x m r) b e = absurd (cc)
  bad_signed op (bad d) b e = e

  pub signed_ends : {n : ℕ} {t : List ℕ} {o : Outcome} → SignedAt P n t o → (b : ℕ) → o ≡ bad b → b ≡ 0 → Plain t → Ends (SignedAt P) n t
  signed_ends {n} {t} {o} (no_sign e h) b p q l = plain_ends n t b e (subst (OperandBy P (start t) n t) p h) q l
  signed_ends {n} {t} (one_sign {m = m} {r = r} {op = op} {o = o} e h) b p q l =
      let k = signed_ends h b (bad_signed op o b p) q (plain_end t r (sign_leaves n m t r op e).0 l) in
      (k.0, k.1, λ z f. let y = k.2 z f in (y.0, (unary op y.1.0, y.1.1, one_sign {o = done y.1.0 y.1.1 z} (sign_kept n m t r (k.0 z) op y.0 e) y.1.2)))
