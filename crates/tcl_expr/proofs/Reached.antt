-- Some expression begins with the bytes before the bad place of a text.
use Rattle.std.proofs.Common.{◌≡◌, ℕ, zero, suc, ◌+◌, ◌<◌, List, [], ◌∷◌, ◌++◌, length, Bool, true, false, refl, ap, sym, subst, ◌⊎◌, inl, inr, arith, append-nil, append_assoc, ◌∙◌}
use Rattle.std.specs.Prelude.{◌==◌, ◌^◌, nat_lt}
use Rattle.std.specs.List.{All}
use Rattle.std.proofs.lemmas.Bool.{eqb-true}
use Rattle.std.proofs.lemmas.Bool.Decides.{nat_tests}
use Rattle.std.proofs.lemmas.List.{length-append}
use Rattle.std.proofs.lemmas.List.Elements.{All-nil, All-cons}
use Rattle.txt_core.specs.Texts.{begins_with}
use Rattle.tcl_parse.specs.Bytes.{newline}
use Rattle.tcl_expr.specs.Trees.{Tree}
use Rattle.tcl_expr.specs.Outcome.{Answer, tree, bad_from}
use Rattle.tcl_expr.specs.Grammar.{Reads}
use Rattle.tcl_expr.specs.Reading.{IsTree, IsBad}
use Rattle.tcl_expr.specs.Laws.Answers.{some_answer, one_answer}
use Rattle.tcl_expr.specs.Places.{SomeReaches}
use Rattle.tcl_expr.proofs.Words as words
use Rattle.tcl_expr.proofs.Least as least
use Rattle.tcl_expr.proofs.Fronts.{both}
use Rattle.tcl_expr.proofs.OpenWords.{all_bytes}
use Rattle.tcl_expr.proofs.OpenOperands.{Plain}
use Rattle.tcl_expr.proofs.OpenExpressions.{end_reached}
use Rattle.tcl_expr.proofs.Suffixes.{overlap, tail_same}
use Rattle.tcl_expr.proofs.Pairs.{never_between}
use Rattle.tcl_expr.proofs.Slashes.{slash_stays}

-- no backslash is cut from a newline behind it
abbrev CutsNoLine : List ℕ → List ℕ → Type 0
CutsNoLine front rest = (before : List ℕ) → front ≡ before ++ 92 ∷ [] → begins_with newline rest ≡ false

fine_cut : (front rest : List ℕ) → CutsNoLine front rest → words.Fine [] rest front
unfolding words.Fine
fine_cut [] rest h = tt
fine_cut (b ∷ []) rest h = λ e. sym (h [] (ap (λ x. x ∷ []) (eqb-true b 92 e)))
fine_cut (b ∷ c ∷ front) rest h = fine_cut (c ∷ front) rest (λ before e. h (b ∷ before) (ap (λ (y : List ℕ). b ∷ y) e))

same_left : (a b : ℕ) → bad_from a ≡ bad_from b → a ≡ b
same_left a b e = cc

-- a front that is bad before its end is bad there with the rest too
never_before : (front rest : List ℕ) (l left : ℕ) → CutsNoLine front rest → Reads front (bad_from (suc l)) → length front + left ≡ length (front ++ rest) → Reads (front ++ rest) (bad_from left) → ⊥
never_before front rest l left c h e k =
    let lt : 0 < suc l = omega arith in
    let w = least.stays [] rest front (suc l) (fine_cut front rest c) lt (subst (λ y. Reads y (bad_from (suc l))) (sym (append-nil front)) h) in
    let q : left ≡ w.0 = same_left left w.0 (one_answer (front ++ rest) (bad_from left) (bad_from w.0) k w.2) in
    omega (arith, q, w.1, e, length-append front rest)

-- some expression begins with these bytes
abbrev Reaches : List ℕ → Type 0
Reaches front = (more : List ℕ) × All (λ b. b < 2 ^ 8) more × (x : Tree) × IsTree x (front ++ more)

byte_is : (b : ℕ) → nat_lt b 256 ≡ true → b < 2 ^ 8
byte_is b e = grind (arith, nat_tests)

bytes_are : (z : List ℕ) → all_bytes z ≡ true → All (λ b. b < 2 ^ 8) z
bytes_are [] e = All-nil (λ b. b < 2 ^ 8)
bytes_are (b ∷ z) e =
    let p = both (nat_lt b 256) (all_bytes z) e in
    All-cons (λ b. b < 2 ^ 8) b z (byte_is b p.0) (bytes_are z p.1)

-- ---- a front that ends in a backslash

abbrev InSlash : List ℕ → Type 0
InSlash t = (g : List ℕ) × (t ≡ g ++ 92 ∷ [])

one_end : (b : ℕ) (s : Bool) → (b == 92) ≡ s → InSlash (b ∷ []) ⊎ Plain (b ∷ [])
one_end b true q = inl ([], ap (λ x. x ∷ []) (eqb-true b 92 q))
one_end b false q = inr never
  where
    never : (g : List ℕ) → b ∷ [] ≡ g ++ 92 ∷ [] → ⊥
    never [] e = let k : b ≡ 92 = cc in let w : (92 == 92) ≡ false = subst (λ y. (y == 92) ≡ false) k q in cc
    never (c ∷ g) e = absurd (omega (arith, ap length e, length-append g (92 ∷ [])))

more_end : (b c : ℕ) (t : List ℕ) → InSlash (c ∷ t) ⊎ Plain (c ∷ t) → InSlash (b ∷ c ∷ t) ⊎ Plain (b ∷ c ∷ t)
more_end b c t (inl k) = inl (b ∷ k.0, ap (λ (y : List ℕ). b ∷ y) k.1)
more_end b c t (inr p) = inr never
  where
    never : (g : List ℕ) → b ∷ c ∷ t ≡ g ++ 92 ∷ [] → ⊥
    never [] e = absurd (omega (arith, ap length e))
    never (d ∷ g) e = p g (tail_same b d (c ∷ t) (g ++ 92 ∷ []) e)

last_byte : (t : List ℕ) → InSlash t ⊎ Plain t
last_byte [] = inr (λ g e. absurd (omega (arith, ap length e, length-append g (92 ∷ []))))
last_byte (b ∷ []) = one_end b (b == 92) refl
last_byte (b ∷ c ∷ t) = more_end b c t (last_byte (c ∷ t))

line_last : (k : List ℕ) → 10 ∷ [] ≡ k ++ 92 ∷ [] → ⊥
line_last [] e =
    let last : ℕ = 10 in
    let w : last ≡ 92 = cc in
    absurd (omega (arith, w))
line_last (b ∷ k) e = absurd (omega (arith, ap length e, length-append k (92 ∷ [])))

line_plain : (g : List ℕ) → Plain (g ++ 92 ∷ 10 ∷ [])
line_plain g h e =
    let one : List ℕ = 10 ∷ [] in
    let o = overlap (g ++ 92 ∷ []) one h (92 ∷ []) (append_assoc g (92 ∷ []) one ∙ e) (omega arith) in
    line_last o.0 o.1

-- with a newline behind the backslash it isn't bad before its end
line_reached : (g : List ℕ) → Reads (g ++ 92 ∷ []) (bad_from 0) → (a : Answer) → Reads (g ++ 92 ∷ 10 ∷ []) a → Reaches (g ++ 92 ∷ [])
line_reached g k (tree x) h = (10 ∷ [], bytes_are (10 ∷ []) refl, x, subst (λ y. Reads y (tree x)) (sym (append_assoc g (92 ∷ []) (10 ∷ []))) h)
line_reached g k (bad_from zero) h =
    let m = end_reached (g ++ 92 ∷ 10 ∷ []) (line_plain g) h in
    (10 ∷ m.0, bytes_are (10 ∷ m.0) m.1, m.2, subst (IsTree m.2) (append_assoc g (92 ∷ 10 ∷ []) m.0 ∙ sym (append_assoc g (92 ∷ []) (10 ∷ m.0))) m.3)
line_reached g k (bad_from (suc zero)) h = absurd (let w : (10 == 10) ≡ false = never_between (g ++ 92 ∷ 10 ∷ []) 1 h g (10 ∷ []) refl refl in cc)
line_reached g k (bad_from (suc (suc l))) h =
    let w = slash_stays (10 ∷ []) [] g (suc (suc l)) (omega arith) h in
    let q : w.0 ≡ 0 = same_left w.0 0 (one_answer (g ++ 92 ∷ []) (bad_from w.0) (bad_from 0) w.2 k) in
    absurd (omega (arith, q, w.1))

last_reached : (front : List ℕ) → Reads front (bad_from 0) → InSlash front ⊎ Plain front → Reaches front
last_reached front h (inl s) =
    let a = some_answer (s.0 ++ 92 ∷ 10 ∷ []) in
    subst Reaches (sym s.1) (line_reached s.0 (subst (λ y. Reads y (bad_from 0)) s.1 h) a.0 a.1)
last_reached front h (inr p) = let m = end_reached front p h in (m.0, bytes_are m.0 m.1, m.2, m.3)

reached_by : (front rest : List ℕ) (left : ℕ) → CutsNoLine front rest → length front + left ≡ length (front ++ rest) → Reads (front ++ rest) (bad_from left) → (a : Answer) → Reads front a → Reaches front
reached_by front rest left c e k (tree x) h = ([], All-nil (λ b. b < 2 ^ 8), x, subst (λ y. Reads y (tree x)) (sym (append-nil front)) h)
reached_by front rest left c e k (bad_from zero) h = last_reached front h (last_byte front)
reached_by front rest left c e k (bad_from (suc l)) h = absurd (never_before front rest l left c h e k)

-- the bad place cuts none
cuts_none : (front rest : List ℕ) (left : ℕ) → length front + left ≡ length (front ++ rest) → Reads (front ++ rest) (bad_from left) → CutsNoLine front rest
cuts_none front rest left e h before q =
    let s : front ++ rest ≡ before ++ 92 ∷ rest = ap (λ y. y ++ rest) q ∙ append_assoc before (92 ∷ []) rest in
    never_between (front ++ rest) left h before rest s (omega (arith, e, length-append front rest))

-- Some expression begins with the bytes before the bad place.
pub some_reaches : (place : ℕ) (t : List ℕ) → IsBad place t → SomeReaches place t
some_reaches place t h front rest q n =
    let e : length front + h.0 ≡ length (front ++ rest) = omega (arith, h.1, n, ap length q) in
    let k : Reads (front ++ rest) (bad_from h.0) = subst (λ y. Reads y (bad_from h.0)) q h.2 in
    let a = some_answer front in
    reached_by front rest h.0 (cuts_none front rest h.0 e k) e k a.0 a.1
