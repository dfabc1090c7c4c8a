-- With the byte at the bad place no expression can go on.
use Rattle.std.proofs.Common.{◌≡◌, ℕ, zero, suc, ◌+◌, ◌<◌, List, [], ◌∷◌, ◌++◌, length, drop, Bool, true, false, refl, ap, sym, ◌∙◌, subst, inl, inr, arith, append_assoc}
use Rattle.std.specs.Prelude.{◌-◌, if◌then◌else◌}
use Rattle.std.proofs.lemmas.Bool.{eqb-true}
use Rattle.std.proofs.lemmas.List.{length-append}
use Rattle.txt_core.specs.Number.{trimmed_front}
use Rattle.txt_core.specs.Texts.{begins_with}
use Rattle.tcl_parse.specs.Bytes.{newline, backslash}
use Rattle.tcl_parse.specs.declared.fault.Kind.{Kind}
use Rattle.tcl_parse.specs.declared.fault.Kind.TheVariants.{Quote, Brace, Bracket, Variable, Extra, Deep}
use Rattle.tcl_parse.specs.Tree.{Part, Word}
use Rattle.tcl_parse.specs.Outcome as script_outcome
use Rattle.tcl_expr.specs.Trees.{Tree, word}
use Rattle.tcl_expr.specs.Outcome.{Outcome, done, bad, tree, bad_from}
use Rattle.tcl_expr.specs.Grammar.{fault_place, bad_place, word_operand, part_operand, Enclosed, Substituted, Reads}
use Rattle.tcl_expr.specs.Answers.{WordGives, PartGives}
use Rattle.tcl_expr.specs.Reading.{IsTree, IsBad}
use Rattle.tcl_expr.specs.Laws.Fits.{trimmed_within, behind_within}
use Rattle.tcl_expr.proofs.Tokens as tokens
use Rattle.tcl_expr.proofs.Words as words
use Rattle.tcl_expr.proofs.Local as local
use Rattle.tcl_expr.specs.Laws.Answers.{one_answer}

-- the byte there is one of the front
same_first : (i : ℕ) (g w z : List ℕ) → i < length g → begins_with backslash (drop i (g ++ w)) ≡ begins_with backslash (drop i (g ++ z))
same_first i [] w z lt = absurd (omega (arith, lt))
same_first zero (b ∷ g) w z lt = refl
same_first (suc i) (b ∷ g) w z lt = same_first i g w z (omega (arith, lt))

module _ (u v : List ℕ) where
  abbrev Early : Outcome → Type 0
  Early o = local.Early u v (words.Fine u v) (words.fine_tail u v) o

  abbrev Moved : (Outcome → Type 0) → Outcome → Type 0
  Moved Q o = local.Moved u v (words.Fine u v) (words.fine_tail u v) Q o

  fault_moves : (k : Kind) (n c : ℕ) → length u < fault_place k n → n + length v ≡ c + length u → fault_place k n + length v ≡ fault_place k c + length u
  fault_moves Quote n c e q = absurd (omega (arith, e))
  fault_moves Brace n c e q = absurd (omega (arith, e))
  fault_moves Bracket n c e q = absurd (omega (arith, e))
  fault_moves Variable n c e q = absurd (omega (arith, e))
  fault_moves Extra n c e q = q
  fault_moves Deep n c e q = q

  behind_moves : (s r : Bool) (m d : ℕ) → s ≡ r → length u < m → m + length v ≡ d + length u → (if s then m - 1 else m) + length v ≡ (if r then d - 1 else d) + length u
  behind_moves true true m d e lt q = omega (arith, lt, q)
  behind_moves false false m d e lt q = q
  behind_moves true false m d e lt q = absurd (cc)
  behind_moves false true m d e lt q = absurd (cc)

  -- a fault in the front has its bad place at the same byte of both texts
  pub place_moves : (b : ℕ) (g : List ℕ) (k : Kind) (n c : ℕ) → length u < fault_place k n → n + length v ≡ c + length u → bad_place (b ∷ g ++ u) k n + length v ≡ bad_place (b ∷ g ++ v) k c + length u
  place_moves b g k n c lt q =
      let m = fault_place k n in
      let d = fault_place k c in
      let e : m + length v ≡ d + length u = fault_moves k n c lt q in
      let i : length (b ∷ g ++ u) - m ≡ length (b ∷ g ++ v) - d = omega (arith, e, lt, length-append g u, length-append g v) in
      let j : length (b ∷ g ++ u) - m < length (b ∷ g) = omega (arith, lt, length-append g u) in
      let s = same_first (length (b ∷ g ++ u) - m) (b ∷ g) u v j ∙ ap (λ x. begins_with backslash (drop x (b ∷ g ++ v))) i in
      behind_moves (begins_with backslash (drop (length (b ∷ g ++ u) - m) (b ∷ g ++ u))) (begins_with backslash (drop (length (b ∷ g ++ v) - d) (b ∷ g ++ v))) m d s lt e

  more : (n : ℕ) (r : List ℕ) → local.Left u v (words.Fine u v) (words.fine_tail u v) n (trimmed_front r) → length u < length (trimmed_front r)
  more n r e = local.left_more u v (words.Fine u v) (words.fine_tail u v) n (trimmed_front r) e

  word_early : (n : ℕ) (t : List ℕ) (w : script_outcome.Outcome Word) → Early (word_operand n t w) → words.Early u v w
  word_early n t (script_outcome.done x r) e = omega (arith, more n r e, trimmed_within r)
  word_early n t (script_outcome.fault k m) e = omega (arith, e, behind_within t (fault_place k m))

  part_early : (n : ℕ) (t : List ℕ) (w : script_outcome.Outcome Part) → Early (part_operand n t w) → words.Early u v w
  part_early n t (script_outcome.done x r) e = omega (arith, more n r e, trimmed_within r)
  part_early n t (script_outcome.fault k m) e = omega (arith, e, behind_within t (fault_place k m))

  trim_at : (r h : List ℕ) → r ≡ h ++ u → words.Fine u v h → length u < length (trimmed_front r) → tokens.Same u v (words.Fine u v) (words.fine_tail u v) (trimmed_front (h ++ u)) (trimmed_front (h ++ v))
  trim_at r h q f lt = tokens.trim u v (words.Fine u v) (words.fine_tail u v) h f (subst (λ z. length u < length (trimmed_front z)) q lt)

  word_by : (n b : ℕ) (g : List ℕ) (Q : script_outcome.Outcome Word → Type 0) (w : script_outcome.Outcome Word) → Early (word_operand n (b ∷ g ++ u) w) → words.Moved u v Q w
      → Moved (λ o. (i : script_outcome.Outcome Word) × Q i × (o ≡ word_operand n (b ∷ g ++ v) i)) (word_operand n (b ∷ g ++ u) w)
  word_by n b g Q (script_outcome.done x r) e z =
      let s = trim_at r z.0 z.1 z.2 (more n r e) in
      (s.0, ap trimmed_front z.1 ∙ s.1, s.3, (script_outcome.done x (z.0 ++ v), z.3, ap (λ (y : List ℕ). done (word x) n y) (sym s.2)))
  word_by n b g Q (script_outcome.fault k m) e z = (bad_place (b ∷ g ++ v) k z.0, place_moves b g k m z.0 (let lt : length u < fault_place k m = omega (arith, e, behind_within (b ∷ g ++ u) (fault_place k m)) in lt) z.1, (script_outcome.fault k z.0, z.2, refl))

  part_by : (n b : ℕ) (g : List ℕ) (Q : script_outcome.Outcome Part → Type 0) (w : script_outcome.Outcome Part) → Early (part_operand n (b ∷ g ++ u) w) → words.Moved u v Q w
      → Moved (λ o. (i : script_outcome.Outcome Part) × Q i × (o ≡ part_operand n (b ∷ g ++ v) i)) (part_operand n (b ∷ g ++ u) w)
  part_by n b g Q (script_outcome.done x r) e z =
      let s = trim_at r z.0 z.1 z.2 (more n r e) in
      (s.0, ap trimmed_front z.1 ∙ s.1, s.3, (script_outcome.done x (z.0 ++ v), z.3, ap (λ (y : List ℕ). done (word (x ∷ [])) n y) (sym s.2)))
  part_by n b g Q (script_outcome.fault k m) e z = (bad_place (b ∷ g ++ v) k z.0, place_moves b g k m z.0 (let lt : length u < fault_place k m = omega (arith, e, behind_within (b ∷ g ++ u) (fault_place k m)) in lt) z.1, (script_outcome.fault k z.0, z.2, refl))

  pub word_moves : (n b : ℕ) (g : List ℕ) (o : Outcome) → words.Fine u v (b ∷ g) → WordGives n (b ∷ g ++ u) o → Early o → Moved (WordGives n (b ∷ g ++ v)) o
  word_moves n b g o f h e =
      let c = subst Early h.2 e in
      let m = words.enclosed_is_local u v b g h.0 f h.1 (word_early n (b ∷ g ++ u) h.0 c) in
      subst (Moved (WordGives n (b ∷ g ++ v))) (sym h.2) (word_by n b g (Enclosed (b ∷ g ++ v)) h.0 c m)

  part_none : (n b : ℕ) (g : List ℕ) → ((p : script_outcome.Outcome Part) → Substituted (b ∷ g ++ u) p → ⊥) → length u < length (b ∷ g ++ u) - 1 → Moved (PartGives n (b ∷ g ++ v)) (bad (length (b ∷ g ++ u) - 1))
  part_none n b [] none lt = absurd (omega (arith, lt))
  part_none n b (c ∷ g) none lt = (length (b ∷ c ∷ g ++ v) - 1, omega (arith, length-append g u, length-append g v), inr (words.none_moves b c (g ++ u) (g ++ v) none, refl))

  pub part_moves : (n b : ℕ) (g : List ℕ) (o : Outcome) → words.Fine u v (b ∷ g) → PartGives n (b ∷ g ++ u) o → Early o → Moved (PartGives n (b ∷ g ++ v)) o
  part_moves n b g o f (inl h) e =
      let c = subst Early h.2 e in
      let m = words.substituted_is_local u v b g h.0 f h.1 (part_early n (b ∷ g ++ u) h.0 c) in
      let z = part_by n b g (Substituted (b ∷ g ++ v)) h.0 c m in
      subst (Moved (PartGives n (b ∷ g ++ v))) (sym h.2)
      (local.moved_map u v (words.Fine u v) (words.fine_tail u v) (λ o. (i : script_outcome.Outcome Part) × Substituted (b ∷ g ++ v) i × (o ≡ part_operand n (b ∷ g ++ v) i)) (PartGives n (b ∷ g ++ v)) (λ o k. inl k) (part_operand n (b ∷ g ++ u) h.0) z)
  part_moves n b g o f (inr h) e = subst (Moved (PartGives n (b ∷ g ++ v))) (sym h.1) (part_none n b g h.0 (subst Early h.1 e))

  pub stays : (g : List ℕ) (left : ℕ) → words.Fine u v g → length u < left → Reads (g ++ u) (bad_from left) → (c : ℕ) × (left + length v ≡ c + length u) × Reads (g ++ v) (bad_from c)
  stays g left f lt h = local.bad_stays u v (words.Fine u v) (words.fine_tail u v) word_moves part_moves g left f lt h

  fine_last : (front : List ℕ) (b : ℕ) → (b ≡ 92 → begins_with newline u ≡ begins_with newline v) → words.Fine u v (front ++ b ∷ [])
  unfolding words.Fine
  fine_last [] b h = λ e. h (eqb-true b 92 e)
  fine_last (a ∷ []) b h = fine_last [] b h
  fine_last (a ∷ c ∷ front) b h = fine_last (c ∷ front) b h

two : (c : ℕ) (x : Tree) → bad_from c ≡ tree x → ⊥
two c x e = cc

apart : (c : ℕ) (x : Tree) (t : List ℕ) → Reads t (bad_from c) → IsTree x t → ⊥
apart c x t h k = two c x (one_answer t (bad_from c) (tree x) h k)

-- A text that is bad at a place can't go on with the byte there, where a newline stands behind a backslash in both texts or in neither.
pub none_past : (place : ℕ) (t : List ℕ) → IsBad place t → (front : List ℕ) (b : ℕ) (rest other : List ℕ) (x : Tree) → t ≡ front ++ b ∷ rest → length front ≡ place → (b ≡ 92 → begins_with newline rest ≡ begins_with newline other) → IsTree x (front ++ b ∷ other) → ⊥
none_past place t h front b rest other x q n told k =
    let f : words.Fine rest other (front ++ b ∷ []) = fine_last rest other front b told in
    let e : t ≡ (front ++ b ∷ []) ++ rest = q ∙ sym (append_assoc front (b ∷ []) rest) in
    let l : length t ≡ length front + length (b ∷ rest) = ap length q ∙ length-append front (b ∷ rest) in
    let lt : length rest < h.0 = omega (arith, h.1, n, l) in
    let w = stays rest other (front ++ b ∷ []) h.0 f lt (subst (λ z. Reads z (bad_from h.0)) e h.2) in
    apart w.0 x (front ++ b ∷ other) (subst (λ z. Reads z (bad_from w.0)) (append_assoc front (b ∷ []) other) w.2) k
