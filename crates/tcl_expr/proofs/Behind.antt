-- What is left behind an operator, a question mark, a colon or blanks is an end of the text, and begins with no newline.
use Rattle.std.proofs.Common.{◌≡◌, ℕ, zero, suc, List, [], ◌∷◌, Bool, true, false, Option, None, Some, refl, ap, subst}
use Rattle.std.specs.Prelude.{◌==◌, if◌then◌else◌}
use Rattle.std.proofs.lemmas.Bool.{ne_eqb}
use Rattle.txt_core.specs.Number.{is_space, trimmed_front}
use Rattle.txt_core.specs.Texts.{begins_with}
use Rattle.tcl_parse.specs.Bytes.{newline}
use Rattle.tcl_expr.specs.declared.operator.Op.{Op}
use Rattle.tcl_expr.specs.Tokens.{single, double, sign, before, either, counted, next_operator, next_sign, next_question, next_colon}
use Rattle.tcl_expr.proofs.Tokens.{with_count}
use Rattle.tcl_expr.proofs.Suffixes.{Suffix, suffix_all, suffix_trans, suffix_cons, suffix_if}

abbrev pub Clean : List ℕ → Type 0
Clean r = begins_with newline r ≡ false

clean_if : (s : Bool) (b : ℕ) (x t : List ℕ) → is_space b ≡ s → Clean x → Clean (if s then x else b ∷ t)
clean_if true b x t e c = c
clean_if false b x t e c = ne_eqb b 10 (λ q. let w : is_space 10 ≡ false = subst (λ y. is_space y ≡ false) q e in cc)

pub trim_clean : (t : List ℕ) → Clean (trimmed_front t)
trim_clean [] = refl
trim_clean (b ∷ t) = clean_if (is_space b) b (trimmed_front t) t refl (trim_clean t)

pub trim_suffix : (t : List ℕ) → Suffix t (trimmed_front t)
trim_suffix [] = suffix_all []
trim_suffix (b ∷ t) = suffix_if (is_space b) (b ∷ t) (trimmed_front t) (b ∷ t) (suffix_cons b t (trimmed_front t) (trim_suffix t)) (suffix_all (b ∷ t))

pub trim_apart : (t r : List ℕ) → Suffix t r → Suffix t (trimmed_front r) × Clean (trimmed_front r)
trim_apart t r h = (suffix_trans t r (trimmed_front r) h (trim_suffix r), trim_clean r)

pub cons_apart : (b : ℕ) (t : List ℕ) → Suffix (b ∷ t) (trimmed_front t) × Clean (trimmed_front t)
cons_apart b t = trim_apart (b ∷ t) t (suffix_cons b t t (suffix_all t))

-- ---- what comes next

abbrev pub Leaves : List ℕ → List ℕ → Type 0
Leaves t r = Suffix t r × Clean r

abbrev rest_of : Option (Op × ℕ × List ℕ) → List ℕ
rest_of None = []
rest_of (Some x) = x.2

abbrev ask_of : Option (ℕ × List ℕ) → List ℕ
ask_of None = []
ask_of (Some x) = x.1

abbrev colon_of : Option (List ℕ) → List ℕ
colon_of None = []
colon_of (Some x) = x

taken : (n m : ℕ) (o op : Op) (t g r : List ℕ) → Suffix t g → counted (suc n) (Some (o, g)) ≡ Some (op, m, r) → Leaves t r
taken n m o op t g r h e = subst (Leaves t) (ap rest_of e) (trim_apart t g h)

sign_by : (n m b : ℕ) (s : Option Op) (op : Op) (g r : List ℕ) → counted (suc n) (before s g) ≡ Some (op, m, r) → Leaves (b ∷ g) r
sign_by n m b None op g r e = absurd (cc)
sign_by n m b (Some o) op g r e = taken n m o op (b ∷ g) g r (suffix_cons b g g (suffix_all g)) e

pub sign_leaves : (n m : ℕ) (t r : List ℕ) (op : Op) → next_sign n t ≡ Some (op, m, r) → Leaves t r
sign_leaves zero m t r op e = absurd (cc)
sign_leaves (suc n) m [] r op e = absurd (cc)
sign_leaves (suc n) m (b ∷ g) r op e = sign_by n m b (sign b) op g r e

two_by : (n m b c : ℕ) (d s : Option Op) (op : Op) (g r : List ℕ) → counted (suc n) (either (before d g) (before s (c ∷ g))) ≡ Some (op, m, r) → Leaves (b ∷ c ∷ g) r
two_by n m b c (Some o) s op g r e = taken n m o op (b ∷ c ∷ g) g r (b ∷ c ∷ [], refl) e
two_by n m b c None (Some o) op g r e = taken n m o op (b ∷ c ∷ g) (c ∷ g) r (b ∷ [], refl) e
two_by n m b c None None op g r e = absurd (cc)

pub operator_leaves : (n m : ℕ) (t r : List ℕ) (op : Op) → next_operator n t ≡ Some (op, m, r) → Leaves t r
operator_leaves zero m t r op e = absurd (cc)
operator_leaves (suc n) m [] r op e = absurd (cc)
operator_leaves (suc n) m (b ∷ []) r op e = sign_by n m b (single b) op [] r e
operator_leaves (suc n) m (b ∷ c ∷ g) r op e = two_by n m b c (double b c) (single b) op g r e

colon_by : (s : Bool) (b : ℕ) (g r : List ℕ) → (if s then Some (trimmed_front g) else None) ≡ Some r → Leaves (b ∷ g) r
colon_by true b g r e = subst (Leaves (b ∷ g)) (ap colon_of e) (cons_apart b g)
colon_by false b g r e = absurd (cc)

pub colon_leaves : (t r : List ℕ) → next_colon t ≡ Some r → Leaves t r
colon_leaves [] r e = absurd (cc)
colon_leaves (b ∷ g) r e = colon_by (b == 58) b g r e

ask_by : (n i : ℕ) (s : Bool) (b : ℕ) (g r : List ℕ) → with_count n (if s then Some (trimmed_front g) else None) ≡ Some (i, r) → Leaves (b ∷ g) r
ask_by n i true b g r e = subst (Leaves (b ∷ g)) (ap ask_of e) (cons_apart b g)
ask_by n i false b g r e = absurd (cc)

pub question_leaves : (n i : ℕ) (t r : List ℕ) → next_question n t ≡ Some (i, r) → Leaves t r
question_leaves zero i t r e = absurd (cc)
question_leaves (suc n) i [] r e = absurd (cc)
question_leaves (suc n) i (b ∷ g) r e = ask_by n i (b == 63) b g r e
