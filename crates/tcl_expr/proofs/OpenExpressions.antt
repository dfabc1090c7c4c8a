-- An expression that is open at the end of a text can be closed.
use Rattle.std.proofs.Common.{◌≡◌, ℕ, zero, suc, ◌+◌, List, [], ◌∷◌, ◌++◌, length, true, false, None, Some, refl, sym, ◌∙◌, subst, inl, inr, arith, append-nil}
use Rattle.txt_core.specs.Number.{trimmed_front}
use Rattle.tcl_expr.specs.Trees.{Tree, choice}
use Rattle.tcl_expr.specs.Outcome.{Outcome, done, bad, chosen, bad_from}
use Rattle.tcl_expr.specs.Tokens.{loosest, single, is_half, next_question, next_colon, stuck}
use Rattle.tcl_expr.specs.Grammar.{SignedAt, LevelAt, ChoiceAt, bad_test, no_choice, bad_middle, no_last, one_choice, ExpressionBy, InParens, most_operators, whole, Reads}
use Rattle.txt_core.specs.Limits.{most_nested}
use Rattle.tcl_expr.specs.Laws.Fits.{Fits, signed_at_fits, level_fits, parens_fits}
use Rattle.tcl_expr.specs.Laws.One.{IsOne, one_signed, one_parens}
use Rattle.tcl_expr.specs.Laws.Some.{IsTotal, IsFit, some_signed, some_parens}
use Rattle.tcl_expr.specs.Reading.{IsTree}
use Rattle.tcl_expr.proofs.Tokens as tokens
use Rattle.tcl_expr.proofs.Words as words
use Rattle.tcl_expr.proofs.Local as local
use Rattle.tcl_expr.proofs.Least as least
use Rattle.tcl_expr.proofs.OpenWords.{all_bytes, fine_all}
use Rattle.tcl_expr.proofs.OpenParts.{Follow, Firm, firm_line, trim_firm, follow_question, colon_kept, question_kept, colon_is, question_is}
use Rattle.tcl_expr.proofs.OpenOperands.{IsEnd, Ends, Kept, Plain, plain_end, signed_kept, signed_ends, signed_zero}
use Rattle.tcl_expr.proofs.OpenLevels.{level_zero, level_ends}
use Rattle.tcl_expr.proofs.Suffixes.{Suffix, suffix_trans}
use Rattle.tcl_expr.proofs.Behind.{trim_suffix, question_leaves, colon_leaves}
use Rattle.tcl_expr.proofs.Pairs as pairs

abbrev IsLocal : List ℕ → (ℕ → List ℕ → Outcome → Type 0) → Type 0
IsLocal v R = local.IsLocal [] v (words.Fine [] v) (words.fine_tail [] v) R

settled_at : (v : List ℕ) (m b : ℕ) (g : List ℕ) → single b ≡ None → is_half b ≡ false → tokens.Settled [] v (words.Fine [] v) (words.fine_tail [] v) m (b ∷ g)
settled_at v zero b [] s h = inr (omega arith, tt)
settled_at v (suc m) b [] s h = inr (omega arith, (s, h))
settled_at v m b (c ∷ g) s h = inl (omega arith)

-- what is read before a byte that begins no operator stays so
kept_before : (R : ℕ → List ℕ → Outcome → Type 0) (v : List ℕ) → Firm v → IsLocal v R → (b : ℕ) → single b ≡ None → is_half b ≡ false → (n m : ℕ) (t g : List ℕ) (x : Tree) → R n t (done x m (b ∷ g)) → R n (t ++ v) (done x m (b ∷ g ++ v))
kept_before R v f l b s h n m t g x k =
    let z = l n t (done x m (b ∷ g)) k t (sym (append-nil t)) (fine_all v (firm_line v f) t) (settled_at v m b g s h) in
    let e : z.0 ≡ b ∷ g = sym (append-nil z.0) ∙ sym z.1 in
    subst (λ y. R n (t ++ v) (done x m (y ++ v))) e z.3

module _ (T : ℕ → List ℕ → Outcome → Type 0) (T_ends : (n : ℕ) (t : List ℕ) (o : Outcome) → T n t o → IsEnd o → Plain t → Ends T n t) (T_zero : (n : ℕ) (z : List ℕ) → Follow z → (x : Tree) × T n (48 ∷ z) (done x n z))
    (T_local : (v : List ℕ) → IsLocal v T) (C_local : (v : List ℕ) → IsLocal v (ChoiceAt T)) (T_leaves : (n m : ℕ) (t u : List ℕ) (x : Tree) → T n t (done x m u) → Suffix t u)
    (C_leaves : (n m : ℕ) (t u : List ℕ) (x : Tree) → ChoiceAt T n t (done x m u) → Suffix t u) where
  choice_zero : (n : ℕ) (z : List ℕ) → Follow z → (x : Tree) × ChoiceAt T n (48 ∷ z) (done x n z)
  choice_zero n z f = let k = T_zero n z f in (k.0, no_choice k.0 k.1 (follow_question n z f))

  test_ends : (n : ℕ) (t : List ℕ) (o : Outcome) → T n t o → IsEnd o → Plain t → Ends (ChoiceAt T) n t
  test_ends n t o h e p = let k = T_ends n t o h e p in (k.0, k.1, λ z f. let y = k.2 z f in (y.0, (y.1.0, y.1.1, no_choice y.1.0 y.1.2 (follow_question y.1.1 z f))))

  test_kept : (n m i : ℕ) (t u r v : List ℕ) (x : Tree) → Firm v → T n t (done x m u) → next_question m u ≡ Some (i, r) → T n (t ++ v) (done x m (u ++ v))
  test_kept n m i t u r v x f h q =
      let g = question_is m i u r q in
      let k = kept_before T v f (T_local v) 63 refl refl n m t g.0 x (subst (λ y. T n t (done x m y)) g.1 h) in
      subst (λ y. T n (t ++ v) (done x m (y ++ v))) (sym g.1) k

  middle_ends : (n m i : ℕ) (t u r : List ℕ) (x : Tree) → T n t (done x m u) → next_question m u ≡ Some (i, r) → Ends (ChoiceAt T) i r → Ends (ChoiceAt T) n t
  middle_ends n m i t u r x h q k = (
    λ z. k.0 (58 ∷ 48 ∷ z),
    λ z b. k.1 (58 ∷ 48 ∷ z) b,
    λ z f.
        let v = k.0 (58 ∷ 48 ∷ z) in
        let y = k.2 (58 ∷ 48 ∷ z) (inr refl) in
        let l = choice_zero y.1.1 z f in
        (y.0, (choice x y.1.0 l.0, y.1.1, one_choice x y.1.0 {m = m} {i = i} {j = y.1.1} {u = u ++ v} {r = r ++ v} {v = 58 ∷ 48 ∷ z} {s = 48 ∷ z} {o = done l.0 y.1.1 z} (test_kept n m i t u r v x y.0 h q) (question_kept m i u r v y.0 q) y.1.2 refl l.1)),
  )

  last_ends : (n m i j : ℕ) (t u r w s : List ℕ) (x y : Tree) → T n t (done x m u) → next_question m u ≡ Some (i, r) → ChoiceAt T i r (done y j w) → next_colon w ≡ Some s → Ends (ChoiceAt T) j s → Ends (ChoiceAt T) n t
  last_ends n m i j t u r w s x y h q c d k = (
    k.0,
    k.1,
    λ z f.
        let v = k.0 z in
        let l = k.2 z f in
        let g = colon_is w s d in
        let p = kept_before (ChoiceAt T) v l.0 (C_local v) 58 refl refl i j r g.0 y (subst (λ a. ChoiceAt T i r (done y j a)) g.1 c) in (
          l.0,
          (
            choice x y l.1.0,
            l.1.1,
            one_choice x y {m = m} {i = i} {j = j} {u = u ++ v} {r = r ++ v} {v = w ++ v} {s = s ++ v} {o = done l.1.0 l.1.1 z} (test_kept n m i t u r v x l.0 h q) (question_kept m i u r v l.0 q)
                (subst (λ a. ChoiceAt T i (r ++ v) (done y j (a ++ v))) (sym g.1) p) (colon_kept w s v l.0 d) l.1.2,
          ),
        ),
  )

  end_chosen : (x y : Tree) (o : Outcome) → IsEnd (chosen x y o) → IsEnd o
  end_chosen x y (done z m r) e = e
  end_chosen x y (bad b) e = e

  asked_plain : (n m i : ℕ) (t u r : List ℕ) (x : Tree) → T n t (done x m u) → next_question m u ≡ Some (i, r) → Plain t → Plain r
  asked_plain n m i t u r x h q p = plain_end t r (suffix_trans t u r (T_leaves n m t u x h) (question_leaves m i u r q).0) p

  pub choice_ends : {n : ℕ} {t : List ℕ} {o : Outcome} → ChoiceAt T n t o → IsEnd o → Plain t → Ends (ChoiceAt T) n t
  choice_ends {n} {t} (bad_test {b = b} h) e p = test_ends n t (bad b) h e p
  choice_ends {n} {t} (no_choice x {m = m} {u = u} h q) e p = test_ends n t (done x m u) h e p
  choice_ends {n} {t} (bad_middle x {m = m} {i = i} {u = u} {r = r} h q k) e p = middle_ends n m i t u r x h q (choice_ends k e (asked_plain n m i t u r x h q p))
  choice_ends {n} {t} (no_last x y {m = m} {i = i} {u = u} {r = r} h q k c) e p = middle_ends n m i t u r x h q (choice_ends k e (asked_plain n m i t u r x h q p))
  choice_ends {n} {t} (one_choice x y {m = m} {i = i} {j = j} {u = u} {r = r} {v = w} {s = s} {o = o} h q k c l) e p =
      let a = plain_end r s (suffix_trans r w s (C_leaves i j r w y k) (colon_leaves w s c).0) (asked_plain n m i t u r x h q p) in
      last_ends n m i j t u r w s x y h q k c (choice_ends l (end_chosen x y o e) a)

module _ (P : ℕ → List ℕ → Outcome → Type 0) (P_local : (v : List ℕ) → IsLocal v P) (P_fits : (n : ℕ) (t : List ℕ) (o : Outcome) → P n t o → Fits n (length t + 1) o) (P_ended : (n : ℕ) (t : List ℕ) (o : Outcome) → P n t o → local.EndedAt o)
    (some_p : IsTotal P) (one_p : IsOne P) (P_ends : (n : ℕ) (t : List ℕ) (o : Outcome) → P n t o → IsEnd o → Plain t → Ends P n t)
    (P_apart : (n : ℕ) (t : List ℕ) (o : Outcome) → P n t o → pairs.Apart (40 ∷ t) o) where
  P_kept : (n m : ℕ) (t r v : List ℕ) (x : Tree) → Firm v → P n t (done x m (41 ∷ r)) → P n (t ++ v) (done x m (41 ∷ r ++ v))
  P_kept n m t r v x f h = kept_before P v f (P_local v) 41 refl refl n m t r x h

  S_fits : IsFit (SignedAt P)
  S_fits n t o h = signed_at_fits P P_fits h

  S_local : (v : List ℕ) → IsLocal v (SignedAt P)
  S_local v = local.signed_is_local [] v (words.Fine [] v) (words.fine_tail [] v) P (P_local v) P_fits P_ended (least.word_moves [] v) (least.part_moves [] v)

  T_local : (v : List ℕ) → IsLocal v (LevelAt (SignedAt P) loosest)
  T_local v = local.level_local [] v (words.Fine [] v) (words.fine_tail [] v) (SignedAt P) (S_local v) S_fits loosest

  C_local : (v : List ℕ) → IsLocal v (ChoiceAt (LevelAt (SignedAt P) loosest))
  C_local v = local.choice_is_local [] v (words.Fine [] v) (words.fine_tail [] v) (LevelAt (SignedAt P) loosest) (T_local v) (level_fits (SignedAt P) S_fits loosest) (local.level_ended (SignedAt P))

  S_kept : (n : ℕ) (t : List ℕ) (o : Outcome) → SignedAt P n t o → (v : List ℕ) → Firm v → Kept (SignedAt P) n t v o
  S_kept n t o h v f = signed_kept P P_kept P_ends h v f

  S_ends : (n : ℕ) (t : List ℕ) (b : ℕ) → SignedAt P n t (bad b) → b ≡ 0 → Plain t → Ends (SignedAt P) n t
  S_ends n t b h e p = signed_ends P P_kept P_ends h b refl e p

  S_leaves : (n m : ℕ) (t u : List ℕ) (x : Tree) → SignedAt P n t (done x m u) → Suffix t u
  S_leaves n m t u x h = (pairs.signed_apart P P_fits P_apart some_p one_p h).0

  T_leaves : (n m : ℕ) (t u : List ℕ) (x : Tree) → LevelAt (SignedAt P) loosest n t (done x m u) → Suffix t u
  T_leaves n m t u x h = (pairs.level_apart P P_fits P_apart some_p one_p n t (done x m u) h).0

  C_leaves : (n m : ℕ) (t u : List ℕ) (x : Tree) → ChoiceAt (LevelAt (SignedAt P) loosest) n t (done x m u) → Suffix t u
  C_leaves n m t u x h = (pairs.choice_apart P P_fits P_apart some_p one_p h).0

  -- An expression that is open at the end can be closed.
  pub expression_ends : (n : ℕ) (t : List ℕ) (o : Outcome) → ExpressionBy P n t o → IsEnd o → Plain t → Ends (ExpressionBy P) n t
  expression_ends n t o h e p =
      choice_ends (LevelAt (SignedAt P) loosest) (level_ends (SignedAt P) S_kept S_ends (signed_zero P P_kept P_ends) S_leaves (some_signed P some_p) S_fits (one_signed P one_p)) (level_zero (SignedAt P) S_kept S_ends (signed_zero P P_kept P_ends) S_leaves) T_local C_local T_leaves C_leaves h e p

parens_at : (v : List ℕ) (room : ℕ) → IsLocal v (InParens room)
parens_at v room = local.parens_local [] v (words.Fine [] v) (words.fine_tail [] v) (least.word_moves [] v) (least.part_moves [] v) room

pub parens_ends : (room n : ℕ) (t : List ℕ) (o : Outcome) → InParens room n t o → IsEnd o → Plain t → Ends (InParens room) n t
unfolding InParens
parens_ends zero n t o h e p = absurd (let q : length t + 1 ≡ 0 = subst IsEnd h e in omega (arith, q))
parens_ends (suc room) n t o h e p =
    let k = expression_ends (InParens room) (λ v. parens_at v room) (parens_fits room) (local.parens_ended room) (some_parens room) (one_parens room) (parens_ends room) (pairs.parens_apart room) n (trimmed_front t) o h e (plain_end t (trimmed_front t) (trim_suffix t) p) in
    (k.0, k.1, λ z f. let y = k.2 z f in (y.0, (y.1.0, y.1.1, subst (λ u. ExpressionBy (InParens room) n u (done y.1.0 y.1.1 z)) (sym (trim_firm t (k.0 z) y.0)) y.1.2)))

stuck_nil : (m : ℕ) → stuck m [] ≡ 0
stuck_nil zero = refl
stuck_nil (suc m) = refl

whole_end : (o : Outcome) → bad_from 0 ≡ whole o → IsEnd o
whole_end (bad b) e = let q : 0 ≡ b = cc in sym q
whole_end (done x m []) e = stuck_nil m
whole_end (done x m (b ∷ r)) e = let q : 0 ≡ stuck m (b ∷ r) = cc in sym q

-- Some expression begins with a text that is bad at its end and ends in no backslash; what is added is bytes.
pub end_reached : (t : List ℕ) → Plain t → Reads t (bad_from 0) → (more : List ℕ) × (all_bytes more ≡ true) × (x : Tree) × IsTree x (t ++ more)
end_reached t p h =
    let P = InParens most_nested in
    let k = expression_ends P (λ v. parens_at v most_nested) (parens_fits most_nested) (local.parens_ended most_nested) (some_parens most_nested) (one_parens most_nested) (parens_ends most_nested) (pairs.parens_apart most_nested)
    most_operators (trimmed_front t) h.0 h.1 (whole_end h.0 h.2) (plain_end t (trimmed_front t) (trim_suffix t) p) in
    let y = k.2 [] tt in
    let v = k.0 [] in
    (v, k.1 [] refl, y.1.0, (done y.1.0 y.1.1 [], subst (λ u. ExpressionBy P most_operators u (done y.1.0 y.1.1 [])) (sym (trim_firm t v y.0)) y.1.2, refl))
