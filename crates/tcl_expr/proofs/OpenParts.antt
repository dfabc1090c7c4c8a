-- Operators, variables and brackets before more bytes, and those that are open at the end of a text.
use Rattle.std.proofs.Common.{◌≡◌, ℕ, zero, suc, ◌+◌, ◌<◌, ◌≤◌, List, [], ◌∷◌, ◌++◌, length, take, drop, Bool, true, false, cond, Option, None, Some, refl, ap, sym, ◌∙◌, subst, ◌⊎◌, inl, inr, arith, append-nil}
use Rattle.std.specs.Prelude.{not, ◌==◌, ◌&&◌, ◌||◌, nat_lt, if◌then◌else◌}
use Rattle.std.specs.List.{prefix_len}
use Rattle.std.proofs.Math.Nat.{eq-or-lt_of_le}
use Rattle.std.proofs.lemmas.Bool.{ne_eqb, lt-ltb, eqb-true}
use Rattle.std.proofs.lemmas.Bool.Decides.{nat_tests}
use Rattle.std.proofs.lemmas.List.{length-append, take-append-le, drop-append-le}
use Rattle.std.proofs.lemmas.List.Sums.{prefix_len-le-length}
use Rattle.txt_core.specs.Escape.{escape_of}
use Rattle.txt_core.specs.Number.{is_space, trimmed_front}
use Rattle.tcl_parse.specs.declared.fault.Kind.{Kind}
use Rattle.tcl_parse.specs.Bytes.{newline, is_name}
use Rattle.tcl_parse.specs.Tree.{Part, Word}
use Rattle.tcl_parse.specs.Names.{name_at, up_to, named_part}
use Rattle.tcl_parse.specs.Outcome.{done, fault}
use Rattle.tcl_parse.specs.Steps.{Substitution, named, indexed, opened, unnamed, Step, ends, bytes, substituted, behind_dollar, between_braces, behind_name, by_name, step_at}
use Rattle.tcl_parse.specs.Grammar.{PartIs, InBracket, InIndex}
use Rattle.txt_core.specs.Limits.{most_nested}
use Rattle.txt_core.specs.Texts.{begins_with}
use Rattle.tcl_parse.specs.Laws.Within.{bracket_within, index_within}
use Rattle.tcl_expr.specs.declared.operator.Op.{Op}
use Rattle.tcl_expr.specs.declared.operator.Op.TheVariants.{EqNumber, NeNumber, EqText, NeText}
use Rattle.tcl_expr.specs.Tokens.{single, double, sign, before, either, counted, next_operator, next_sign, next_question, next_colon, is_half}
use Rattle.tcl_expr.specs.Grammar.{fault_place, Enclosed, Substituted}
use Rattle.tcl_expr.proofs.Words as words
use Rattle.tcl_expr.proofs.Tokens.{no_operator, with_count}
use Rattle.tcl_expr.proofs.Open.{append_if, Goes, IsLone, step_goes, prefix_near}
use Rattle.tcl_expr.proofs.OpenWords.{ClosesAll, kept_of, fine_all, index_kept, bracket_kept, enclosed_open, enclosed_stays, part_open, bracket_open, index_open}

-- What may follow an operand that is complete: nothing, a closing parenthesis or a colon.
abbrev pub Follow : List ℕ → Type 0
Follow [] = Unit {0}
Follow (c ∷ z) = (c ≡ 41) ⊎ (c ≡ 58)

-- it begins with no blank and no newline
abbrev pub Firm : List ℕ → Type 0
Firm [] = Unit {0}
Firm (c ∷ z) = is_space c ≡ false

pub follow_firm : (z : List ℕ) → Follow z → Firm z
follow_firm [] f = tt
follow_firm (c ∷ z) (inl e) = subst (λ b. is_space b ≡ false) (sym e) refl
follow_firm (c ∷ z) (inr e) = subst (λ b. is_space b ≡ false) (sym e) refl

pub firm_trim : (v : List ℕ) → Firm v → trimmed_front v ≡ v
firm_trim [] f = refl
firm_trim (c ∷ z) f = rw f refl

pub trim_firm : (g v : List ℕ) → Firm v → trimmed_front (g ++ v) ≡ trimmed_front g ++ v
trim_firm [] v f = firm_trim v f
trim_firm (b ∷ g) v f = append_if (is_space b) (trimmed_front g) (b ∷ g) (trimmed_front (g ++ v)) (b ∷ g ++ v) v (trim_firm g v f) refl

pub firm_line : (v : List ℕ) → Firm v → begins_with newline v ≡ false
firm_line [] f = refl
firm_line (c ∷ z) f = ne_eqb c 10 (λ e. let q : is_space 10 ≡ false = subst (λ b. is_space b ≡ false) e f in cc)

-- ---- what comes next

counted_none : (n : ℕ) → counted n None ≡ None
counted_none zero = refl
counted_none (suc n) = refl

pub follow_operator : (n : ℕ) (z : List ℕ) → Follow z → next_operator n z ≡ None
follow_operator n [] f = counted_none n
follow_operator n (c ∷ z) (inl e) = subst (λ b. next_operator n (b ∷ z) ≡ None) (sym e) (no_operator n 41 z refl refl)
follow_operator n (c ∷ z) (inr e) = subst (λ b. next_operator n (b ∷ z) ≡ None) (sym e) (no_operator n 58 z refl refl)

pub follow_question : (n : ℕ) (z : List ℕ) → Follow z → next_question n z ≡ None
follow_question zero z f = refl
follow_question (suc n) [] f = refl
follow_question (suc n) (c ∷ z) (inl e) = subst (λ b. next_question (suc n) (b ∷ z) ≡ None) (sym e) refl
follow_question (suc n) (c ∷ z) (inr e) = subst (λ b. next_question (suc n) (b ∷ z) ≡ None) (sym e) refl

-- more behind what is left
abbrev more_next : List ℕ → Option (Op × ℕ × List ℕ) → Option (Op × ℕ × List ℕ)
more_next v None = None
more_next v (Some x) = Some (x.0, x.1, x.2 ++ v)

abbrev rest_of : Option (Op × ℕ × List ℕ) → List ℕ
rest_of None = []
rest_of (Some x) = x.2

taken_kept : (n m : ℕ) (o op : Op) (g r v : List ℕ) → Firm v → counted (suc n) (Some (o, g)) ≡ Some (op, m, r) → counted (suc n) (Some (o, g ++ v)) ≡ Some (op, m, r ++ v)
taken_kept n m o op g r v f e = ap (λ (q : List ℕ). Some (o, n, q)) (trim_firm g v f) ∙ ap (more_next v) e

sign_by : (n m : ℕ) (s : Option Op) (op : Op) (g r v : List ℕ) → Firm v → counted (suc n) (before s g) ≡ Some (op, m, r) → counted (suc n) (before s (g ++ v)) ≡ Some (op, m, r ++ v)
sign_by n m None op g r v f e = absurd (cc)
sign_by n m (Some o) op g r v f e = taken_kept n m o op g r v f e

pub sign_kept : (n m : ℕ) (t r v : List ℕ) (op : Op) → Firm v → next_sign n t ≡ Some (op, m, r) → next_sign n (t ++ v) ≡ Some (op, m, r ++ v)
sign_kept zero m t r v op f e = absurd (cc)
sign_kept (suc n) m [] r v op f e = absurd (cc)
sign_kept (suc n) m (b ∷ g) r v op f e = sign_by n m (sign b) op g r v f e

sign_none_by : (n : ℕ) (s : Option Op) (x y : List ℕ) → counted n (before s x) ≡ None → counted n (before s y) ≡ None
sign_none_by zero s x y e = refl
sign_none_by (suc n) (Some op) x y e = absurd (cc)
sign_none_by (suc n) None x y e = refl

pub sign_none : (n b : ℕ) (g v : List ℕ) → next_sign n (b ∷ g) ≡ None → next_sign n (b ∷ g ++ v) ≡ None
sign_none n b g v e = sign_none_by n (sign b) g (g ++ v) e

none_and : (t : Bool) (op : Op) (q : Option Op) → q ≡ None → (if t && false then Some op else q) ≡ None
none_and true op q e = e
none_and false op q e = e

-- no operator of two bytes ends in a 0
zero_double : (b : ℕ) → double b 48 ≡ None
zero_double b =
    none_and (b == 60) _ _ (none_and (b == 62) _ _ (none_and (b == 60) _ _ (none_and (b == 62) _ _ (none_and (b == 61) _ _ (none_and (b == 33) _ _ (none_and (b == 101) _ _ (none_and (b == 110) _ _ (none_and (b == 38) _ _ (none_and (b == 124) _ None refl)))))))))

two_kept : (n m c : ℕ) (d s : Option Op) (op : Op) (g r v : List ℕ) → Firm v → counted (suc n) (either (before d g) (before s (c ∷ g))) ≡ Some (op, m, r) → counted (suc n) (either (before d (g ++ v)) (before s (c ∷ g ++ v))) ≡ Some (op, m, r ++ v)
two_kept n m c (Some o) s op g r v f e = taken_kept n m o op g r v f e
two_kept n m c None (Some o) op g r v f e = taken_kept n m o op (c ∷ g) r v f e
two_kept n m c None None op g r v f e = absurd (cc)

-- an operator with something behind it stays
pub operator_kept : (n m : ℕ) (t r v : List ℕ) (op : Op) → Firm v → 0 < length r → next_operator n t ≡ Some (op, m, r) → next_operator n (t ++ v) ≡ Some (op, m, r ++ v)
operator_kept zero m t r v op f lt e = absurd (cc)
operator_kept (suc n) m [] r v op f lt e = absurd (cc)
operator_kept (suc n) m (b ∷ []) r v op f lt e = absurd (alone (single b) e)
  where
    alone : (s : Option Op) → counted (suc n) (before s []) ≡ Some (op, m, r) → ⊥
    alone None e = absurd (cc)
    alone (Some o) e = let q : [] ≡ r = ap rest_of e in omega (arith, ap length q, lt)
operator_kept (suc n) m (b ∷ c ∷ g) r v op f lt e = two_kept n m c (double b c) (single b) op g r v f e

-- one that ends the text goes before a 0
pub operator_zero : (n m : ℕ) (t z : List ℕ) (op : Op) → next_operator n t ≡ Some (op, m, []) → next_operator n (t ++ 48 ∷ z) ≡ Some (op, m, 48 ∷ z)
operator_zero zero m t z op e = absurd (cc)
operator_zero (suc n) m [] z op e = absurd (cc)
operator_zero (suc n) m (b ∷ []) z op e = rw (zero_double b) (sign_by n m (single b) op [] [] (48 ∷ z) refl e)
operator_zero (suc n) m (b ∷ c ∷ g) z op e = two_kept n m c (double b c) (single b) op g [] (48 ∷ z) refl e

-- half of an operator can be made one, with an operand
abbrev pub HalfWhole : ℕ → Type 0
HalfWhole h = (c : ℕ) × (op : Op) × ((m : ℕ) (z : List ℕ) → next_operator (suc m) (h ∷ c ∷ 48 ∷ z) ≡ Some (op, m, 48 ∷ z)) × (is_space c ≡ false) × (nat_lt c 256 ≡ true)

pub half_whole : (h : ℕ) → is_half h ≡ true → HalfWhole h
half_whole h e = by_test (h == 61) (h == 33) (h == 101) (h == 110) refl refl refl refl e
  where
    by_test : (p q r s : Bool) → (h == 61) ≡ p → (h == 33) ≡ q → (h == 101) ≡ r → (h == 110) ≡ s → (p || q || r || s) ≡ true → HalfWhole h
    by_test true q r s a b c d e = subst HalfWhole (sym (eqb-true h 61 a)) (61, EqNumber, (λ m z. refl), refl, refl)
    by_test false true r s a b c d e = subst HalfWhole (sym (eqb-true h 33 b)) (61, NeNumber, (λ m z. refl), refl, refl)
    by_test false false true s a b c d e = subst HalfWhole (sym (eqb-true h 101 c)) (113, EqText, (λ m z. refl), refl, refl)
    by_test false false false true a b c d e = subst HalfWhole (sym (eqb-true h 110 d)) (101, NeText, (λ m z. refl), refl, refl)
    by_test false false false false a b c d e = absurd (cc)

abbrev more_rest : List ℕ → Option (List ℕ) → Option (List ℕ)
more_rest v None = None
more_rest v (Some r) = Some (r ++ v)

behind_kept : (t : Bool) (g s v : List ℕ) → Firm v → (if t then Some (trimmed_front g) else None) ≡ Some s → (if t then Some (trimmed_front (g ++ v)) else None) ≡ Some (s ++ v)
behind_kept true g s v f e = ap (λ (q : List ℕ). Some q) (trim_firm g v f) ∙ ap (more_rest v) e
behind_kept false g s v f e = absurd (cc)

pub colon_kept : (t s v : List ℕ) → Firm v → next_colon t ≡ Some s → next_colon (t ++ v) ≡ Some (s ++ v)
colon_kept [] s v f e = absurd (cc)
colon_kept (b ∷ g) s v f e = behind_kept (b == 58) g s v f e

abbrev more_ask : List ℕ → Option (ℕ × List ℕ) → Option (ℕ × List ℕ)
more_ask v None = None
more_ask v (Some x) = Some (x.0, x.1 ++ v)

asked_kept : (n i : ℕ) (t : Bool) (g r v : List ℕ) → Firm v → with_count n (if t then Some (trimmed_front g) else None) ≡ Some (i, r) → with_count n (if t then Some (trimmed_front (g ++ v)) else None) ≡ Some (i, r ++ v)
asked_kept n i true g r v f e = ap (λ (q : List ℕ). Some (n, q)) (trim_firm g v f) ∙ ap (more_ask v) e
asked_kept n i false g r v f e = absurd (cc)

pub question_kept : (n i : ℕ) (t r v : List ℕ) → Firm v → next_question n t ≡ Some (i, r) → next_question n (t ++ v) ≡ Some (i, r ++ v)
question_kept zero i t r v f e = absurd (cc)
question_kept (suc n) i [] r v f e = absurd (cc)
question_kept (suc n) i (b ∷ g) r v f e = asked_kept n i (b == 63) g r v f e

-- the byte that was there
byte_by : (t : Bool) (b c : ℕ) (g s : List ℕ) → (b == c) ≡ t → (if t then Some (trimmed_front g) else None) ≡ Some s → b ∷ g ≡ c ∷ g
byte_by true b c g s q e = ap (λ x. x ∷ g) (eqb-true b c q)
byte_by false b c g s q e = absurd (cc)

pub colon_is : (t s : List ℕ) → next_colon t ≡ Some s → (g : List ℕ) × (t ≡ 58 ∷ g)
colon_is [] s e = absurd (cc)
colon_is (b ∷ g) s e = (g, byte_by (b == 58) b 58 g s refl e)

ask_by : (n i : ℕ) (t : Bool) (b : ℕ) (g r : List ℕ) → (b == 63) ≡ t → with_count n (if t then Some (trimmed_front g) else None) ≡ Some (i, r) → b ∷ g ≡ 63 ∷ g
ask_by n i true b g r q e = ap (λ x. x ∷ g) (eqb-true b 63 q)
ask_by n i false b g r q e = absurd (cc)

pub question_is : (n i : ℕ) (t r : List ℕ) → next_question n t ≡ Some (i, r) → (g : List ℕ) × (t ≡ 63 ∷ g)
question_is zero i t r e = absurd (cc)
question_is (suc n) i [] r e = absurd (cc)
question_is (suc n) i (b ∷ g) r e = (g, ask_by n i (b == 63) b g r refl e)

-- ---- a name that ends the text

prefix_until : (p : ℕ → Bool) (g : List ℕ) (c : ℕ) (z : List ℕ) → p c ≡ false → prefix_len p (g ++ c ∷ z) ≡ prefix_len p g
prefix_until p [] c z h = ap (λ s. cond s (1 + prefix_len p z) 0) h
prefix_until p (b ∷ g) c z h = ap (λ n. cond (p b) (1 + n) 0) (prefix_until p g c z h)

pub name_until : (g : List ℕ) (c : ℕ) (z : List ℕ) → is_name c ≡ false → name_at (g ++ c ∷ z) ≡ ((name_at g).0, (name_at g).1 ++ c ∷ z)
name_until g c z h =
    let j = prefix_len is_name g in
    let le = prefix_len-le-length is_name g in
    rw (prefix_until is_name g c z h, take-append-le j g (c ∷ z) le, drop-append-le j g (c ∷ z) le) refl

-- more behind a variable
abbrev more_step : List ℕ → Step → Step
more_step v ends = ends
more_step v (bytes bs r) = bytes bs r
more_step v (substituted (named x r)) = substituted (named x (r ++ v))
more_step v (substituted (indexed x r)) = substituted (indexed x r)
more_step v (substituted (opened r)) = substituted (opened r)
more_step v (substituted unnamed) = substituted unnamed

record Bordered (s q : Step) (v : List ℕ) : Type 0 where
  borders : (x : List ℕ) → s ≡ substituted (named x []) → q ≡ substituted (named x v)

border_if : (t : Bool) (s r q p : Step) (v : List ℕ) → Bordered s q v → Bordered r p v → Bordered (if t then s else r) (if t then q else p) v
border_if true s r q p v h k = h
border_if false s r q p v h k = k

border_bytes : (bs r : List ℕ) (q : Step) (v : List ℕ) → Bordered (bytes bs r) q v
border_bytes bs r q v = record { borders = λ x e. absurd (cc) }

border_braces : (g v : List ℕ) → (prefix_len (λ b. not (b == 125)) g ≡ length g) ⊎ (prefix_len (λ b. not (b == 125)) g < length g) → Bordered (between_braces (up_to 125 g)) (between_braces (up_to 125 (g ++ v))) v
border_braces g v (inl q) =
    let none : nat_lt (prefix_len (λ b. not (b == 125)) g) (length g) ≡ false = grind (arith, nat_tests, q) in
    let e : up_to 125 g ≡ None = rw none refl in
    subst (λ y. Bordered (between_braces y) (between_braces (up_to 125 (g ++ v))) v) (sym e) (record { borders = λ x w. absurd (cc) })
border_braces g v (inr lt) =
    let j = prefix_len (λ b. not (b == 125)) g in
    let le : j ≤ length g = omega (arith, lt) in
    let le1 : j + 1 ≤ length g = omega (arith, lt) in
    let some : nat_lt j (length g) ≡ true = lt-ltb j (length g) lt in
    let e : up_to 125 g ≡ Some (take j g, drop (j + 1) g) = rw some refl in
    let p = prefix_near (λ b. not (b == 125)) g v lt in
    let l : nat_lt j (length (g ++ v)) ≡ true = lt-ltb j (length (g ++ v)) (omega (arith, lt, length-append g v)) in
    let k : up_to 125 (g ++ v) ≡ Some (take j g, drop (j + 1) g ++ v) = rw (p, l) (rw (take-append-le j g v le, drop-append-le (j + 1) g v le1) refl) in
    subst (λ y. Bordered (between_braces y) (between_braces (up_to 125 (g ++ v))) v) (sym e)
    (subst (λ y. Bordered (substituted (named (take j g) (drop (j + 1) g))) (between_braces y) v) (sym k) (record { borders = λ x w. ap (more_step v) w }))

border_name : (x r : List ℕ) (c : ℕ) (z : List ℕ) → (c == 40) ≡ false → Bordered (by_name x r) (by_name x (r ++ c ∷ z)) (c ∷ z)
border_name [] r c z h = border_bytes (36 ∷ []) r (by_name [] (r ++ c ∷ z)) (c ∷ z)
border_name (b ∷ x) [] c z h =
    let e : behind_name (b ∷ x) (c ∷ z) ≡ substituted (named (b ∷ x) (c ∷ z)) = rw h refl in
    record { borders = λ y w. e ∙ ap (more_step (c ∷ z)) w }
border_name (b ∷ x) (d ∷ r) c z h =
    border_if (d == 40) (substituted (indexed (b ∷ x) r)) (substituted (named (b ∷ x) (d ∷ r))) (substituted (indexed (b ∷ x) (r ++ c ∷ z))) (substituted (named (b ∷ x) (d ∷ r ++ c ∷ z))) (c ∷ z)
    (record { borders = λ y w. absurd (cc) }) (record { borders = λ y w. ap (more_step (c ∷ z)) w })

border_dollar : (g : List ℕ) (c : ℕ) (z : List ℕ) → is_name c ≡ false → (c == 40) ≡ false → Bordered (behind_dollar g) (behind_dollar (g ++ c ∷ z)) (c ∷ z)
border_dollar [] c z n h = border_bytes (36 ∷ []) [] (behind_dollar (c ∷ z)) (c ∷ z)
border_dollar (b ∷ g) c z n h =
    border_if (b == 123) (between_braces (up_to 125 g)) (by_name (name_at (b ∷ g)).0 (name_at (b ∷ g)).1) (between_braces (up_to 125 (g ++ c ∷ z))) (by_name (name_at (b ∷ g ++ c ∷ z)).0 (name_at (b ∷ g ++ c ∷ z)).1) (c ∷ z)
    (border_braces g (c ∷ z) (eq-or-lt_of_le (prefix_len-le-length (λ b. not (b == 125)) g)))
    (subst (λ (y : List ℕ × List ℕ). Bordered (by_name (name_at (b ∷ g)).0 (name_at (b ∷ g)).1) (by_name y.0 y.1) (c ∷ z)) (sym (name_until (b ∷ g) c z n)) (border_name (name_at (b ∷ g)).0 (name_at (b ∷ g)).1 c z h))

border_step : (t : List ℕ) (x : List ℕ) (c : ℕ) (z : List ℕ) → is_name c ≡ false → (c == 40) ≡ false → step_at t ≡ substituted (named x []) → step_at (t ++ c ∷ z) ≡ substituted (named x (c ∷ z))
border_step [] x c z n h e = absurd (cc)
border_step (b ∷ g) x c z n h e =
    let v : List ℕ = c ∷ z in
    (border_if (b == 92) (bytes (escape_of g).0 (escape_of g).1) (if b == 36 then behind_dollar g else if b == 91 then substituted (opened g) else bytes (b ∷ []) g)
    (bytes (escape_of (g ++ v)).0 (escape_of (g ++ v)).1) (if b == 36 then behind_dollar (g ++ v) else if b == 91 then substituted (opened (g ++ v)) else bytes (b ∷ []) (g ++ v)) v
    (border_bytes (escape_of g).0 (escape_of g).1 (bytes (escape_of (g ++ v)).0 (escape_of (g ++ v)).1) v)
    (border_if (b == 36) (behind_dollar g) (if b == 91 then substituted (opened g) else bytes (b ∷ []) g) (behind_dollar (g ++ v)) (if b == 91 then substituted (opened (g ++ v)) else bytes (b ∷ []) (g ++ v)) v
    (border_dollar g c z n h)
    (border_if (b == 91) (substituted (opened g)) (bytes (b ∷ []) g) (substituted (opened (g ++ v))) (bytes (b ∷ []) (g ++ v)) v (record { borders = λ y w. absurd (cc) }) (border_bytes (b ∷ []) g (bytes (b ∷ []) (g ++ v)) v)))).borders x e

-- ---- variables, elements and brackets as operands

follow_bytes : (c : ℕ) → (c ≡ 41) ⊎ (c ≡ 58) → (is_name c ≡ false) × ((c == 40) ≡ false)
follow_bytes c (inl e) = subst (λ b. (is_name b ≡ false) × ((b == 40) ≡ false)) (sym e) (refl, refl)
follow_bytes c (inr e) = subst (λ b. (is_name b ≡ false) × ((b == 40) ≡ false)) (sym e) (refl, refl)

substituted_local : (v : List ℕ) → words.IsLocal [] v Substituted
substituted_local v t o k [] q f e = absurd (let w : step_at [] ≡ substituted k.0 = subst (λ y. step_at y ≡ substituted k.0) q k.1 in cc)
substituted_local v t o k (b ∷ g) q f e = words.substituted_is_local [] v b g o f (subst (λ y. Substituted y o) q k) e

-- a step into an index or a bracket, with more at the end
abbrev Into : List ℕ → Substitution → Step → Type 0
Into v (named x r) q = Unit {0}
Into v (indexed x r) q = q ≡ substituted (indexed x (r ++ v))
Into v (opened r) q = q ≡ substituted (opened (r ++ v))
Into v unnamed q = Unit {0}

into_by : (v : List ℕ) (s : Substitution) (q : Step) → words.SubMoves [] v s q → Into v s q
into_by v (named x r) q m = tt
into_by v (indexed x r) q m =
    let z = m (omega arith) in
    let e : z.0 ≡ r = sym (append-nil z.0) ∙ sym z.1 in
    z.2 ∙ ap (λ (y : List ℕ). substituted (indexed x (y ++ v))) e
into_by v (opened r) q m =
    let z = m (omega arith) in
    let e : z.0 ≡ r = sym (append-nil z.0) ∙ sym z.1 in
    z.2 ∙ ap (λ (y : List ℕ). substituted (opened (y ++ v))) e
into_by v unnamed q m = tt

into : (v t : List ℕ) (s : Substitution) → begins_with newline v ≡ false → step_at t ≡ substituted s → Into v s (step_at (t ++ v))
into v [] s n e = absurd (cc)
into v (b ∷ g) s n e =
    let m = (words.step_same [] v b g (fine_all v n (b ∷ g))).moves in
    let q : step_at (b ∷ g ++ []) ≡ substituted s = ap (λ (y : List ℕ). step_at (b ∷ y)) (append-nil g) ∙ e in
    into_by v s (step_at (b ∷ g ++ v)) (subst (λ y. words.StepMoves [] v y (step_at (b ∷ g ++ v))) q m)

named_stays : (t v x r : List ℕ) (p : Part) → Follow v → step_at t ≡ substituted (named x r) → done p [] ≡ done (named_part x) r → Substituted (t ++ v) (done p v)
named_stays t [] x r p f e h = subst (λ y. Substituted y (done p [])) (sym (append-nil t)) (named x r, e, h)
named_stays t (c ∷ z) x r p f e h =
    let nil : r ≡ [] = cc in
    let b = follow_bytes c f in
    let k : step_at t ≡ substituted (named x []) = e ∙ ap (λ (y : List ℕ). substituted (named x y)) nil in
    let same : done p (c ∷ z) ≡ done (named_part x) (c ∷ z) = let q : p ≡ named_part x = cc in ap (λ y. done y (c ∷ z)) q in
    (named x (c ∷ z), border_step t x c z b.0 b.1 k, same)

border_stays : (s : Substitution) (t v : List ℕ) (p : Part) → Firm v → Follow v → step_at t ≡ substituted s → PartIs (InBracket most_nested) (InIndex most_nested) (length t) s (done p []) → Substituted (t ++ v) (done p v)
border_stays (named x r) t v p n f e h = named_stays t v x r p f e h
border_stays unnamed t v p n f e h = absurd (cc)
border_stays (indexed x r) t v p n f e h =
    let l = firm_line v n in
    let k = index_kept (InBracket most_nested) (InIndex most_nested) (bracket_within most_nested) (index_within most_nested) (λ w. words.bracket_local [] w most_nested) (λ w. words.index_local [] w most_nested) (bracket_open most_nested) (index_open most_nested)
    v l (length t) (length (t ++ v)) x r p [] h.0 h.1 h.2 in
    (indexed x (r ++ v), into v t (indexed x r) l e, k)
border_stays (opened r) t v p n f e h =
    let l = firm_line v n in
    let k = bracket_kept (InBracket most_nested) (InIndex most_nested) (bracket_within most_nested) (index_within most_nested) (λ w. words.bracket_local [] w most_nested) (λ w. words.index_local [] w most_nested) (bracket_open most_nested) (index_open most_nested)
    v l (length r + 1) (length (r ++ v) + 1) r p [] h.0 h.1 h.2 in
    (opened (r ++ v), into v t (opened r) l e, k)

-- What is substituted stays so, with more behind it.
pub substituted_stays : (t v : List ℕ) (p : Part) (r : List ℕ) → Firm v → (0 < length r) ⊎ Follow v → Substituted t (done p r) → Substituted (t ++ v) (done p (r ++ v))
substituted_stays t v p [] n (inl lt) h = absurd (omega (arith, lt))
substituted_stays t v p [] n (inr f) h = border_stays h.0 t v p n f h.1 h.2
substituted_stays t v p (b ∷ r) n c h = kept_of Substituted v (firm_line v n) (substituted_local v) t p (b ∷ r) (omega arith) h

lone_by : (t : Bool) (b : ℕ) (g : List ℕ) (s : Substitution) → (b == 92) ≡ t → (if t then bytes (escape_of g).0 (escape_of g).1 else if b == 36 then behind_dollar g else if b == 91 then substituted (opened g) else bytes (b ∷ []) g) ≡ substituted s → IsLone b g → ⊥
lone_by true b g s q e l = absurd (cc)
lone_by false b g s q e l = absurd (let w : (92 == 92) ≡ false = subst (λ x. (x == 92) ≡ false) l.0 q in cc)

step_into : (t : List ℕ) (s : Substitution) → step_at t ≡ substituted s → Goes (substituted s) (λ z. step_at (t ++ 59 ∷ z))
step_into [] s e = absurd (cc)
step_into (b ∷ g) s e = subst (λ y. Goes y (λ z. step_at (b ∷ g ++ 59 ∷ z))) e (step_goes b g (lone_by (b == 92) b g s refl e)).goes

-- What is substituted and is open at the end of a text can be closed.
pub substituted_open : (t : List ℕ) (k : Kind) (n : ℕ) → Substituted t (fault k n) → fault_place k n ≡ 0 → ClosesAll Substituted t
substituted_open t k n h e =
    let c = part_open (InBracket most_nested) (InIndex most_nested) (bracket_within most_nested) (index_within most_nested) (λ w. words.bracket_local [] w most_nested) (λ w. words.index_local [] w most_nested) (bracket_open most_nested) (index_open most_nested)
    h.0 (λ z. step_at (t ++ 59 ∷ z)) (length t) k n (step_into t h.0 h.1) h.2 e in
    (c.0, c.1, λ z. let y = c.2 z in (y.1, (y.0, y.2, y.3 (length (t ++ 59 ∷ c.0 z)))))

-- The same of a word in braces or quotes.
pub word_opens : (t : List ℕ) (k : Kind) (n : ℕ) → Enclosed t (fault k n) → fault_place k n ≡ 0 → ClosesAll Enclosed t
word_opens t k n h e =
    enclosed_open (InBracket most_nested) (InIndex most_nested) (bracket_within most_nested) (index_within most_nested) (λ w. words.bracket_local [] w most_nested) (λ w. words.index_local [] w most_nested) (bracket_open most_nested) (index_open most_nested) h k n refl e

pub word_stays : (t v : List ℕ) (w : Word) (r : List ℕ) → Firm v → Enclosed t (done w r) → Enclosed (t ++ v) (done w (r ++ v))
word_stays t v w r f h =
    enclosed_stays (InBracket most_nested) (InIndex most_nested) (bracket_within most_nested) (index_within most_nested) (λ w. words.bracket_local [] w most_nested) (λ w. words.index_local [] w most_nested) (bracket_open most_nested) (index_open most_nested) t v w r (firm_line v f) h
