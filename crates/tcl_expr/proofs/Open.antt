-- A word, a bracket or a variable that is open at the end of a text can be closed, and closing it begins with a semicolon, which ends what stands before it and stands for itself elsewhere.
use Rattle.std.proofs.Common.{◌≡◌, ℕ, zero, suc, ◌+◌, ◌<◌, ◌≤◌, List, [], ◌∷◌, ◌++◌, length, take, drop, Bool, true, false, cond, Option, None, Some, refl, ap, sym, ◌∙◌, subst, ◌⊎◌, inl, inr, arith}
use Rattle.std.specs.Prelude.{not, ◌==◌, ◌&&◌, ◌||◌, nat_lt, if◌then◌else◌}
use Rattle.std.specs.List.{prefix_len, take_while}
use Rattle.std.proofs.Math.Nat.{eq-or-lt_of_le}
use Rattle.std.proofs.Math.Seq.{take-append-add, drop-append-add}
use Rattle.std.proofs.lemmas.Bool.{ne_eqb, lt-ltb, eqb-true}
use Rattle.std.proofs.lemmas.Bool.Decides.{nat_tests}
use Rattle.std.proofs.lemmas.List.{length-append, take-append-le, drop-append-le, take_all}
use Rattle.std.proofs.lemmas.List.Folds.{prefix_len-append}
use Rattle.std.proofs.lemmas.List.Sums.{prefix_len-le-length, take_while-cons}
use Rattle.txt_core.specs.Digits.{digit_of, is_digit, value_of, leading_digits}
use Rattle.txt_core.specs.Escape.{utf8, low_byte, letter_and_digits, byte_form, character_form, octal_form, skip_margin, letter_form, escape_of}
use Rattle.tcl_parse.specs.Bytes.{is_name, is_blank, ends_command, joins_lines}
use Rattle.tcl_parse.specs.Gaps.{skip, skip_blanks, between, joining, comment, escaped, Before, closes}
use Rattle.tcl_parse.specs.Names.{name_at, up_to}
use Rattle.tcl_parse.specs.Steps.{Mode, quotes, index, bare_word, named, indexed, opened, unnamed, Step, ends, bytes, substituted, behind_dollar, between_braces, behind_name, by_name, step_at, next, stops}

-- ---- what is passed over, before a semicolon

pub append_if : (t : Bool) (x y z w s : List ℕ) → z ≡ x ++ s → w ≡ y ++ s → (if t then z else w) ≡ (if t then x else y) ++ s
append_if true x y z w s h k = h
append_if false x y z w s h k = k

pub joins_before : (b : ℕ) (g z : List ℕ) → joins_lines b (g ++ 59 ∷ z) ≡ joins_lines b g
joins_before b [] z = refl
joins_before b (c ∷ g) z = refl

margin_before : (g z : List ℕ) → skip_margin (g ++ 59 ∷ z) ≡ skip_margin g ++ 59 ∷ z
unfolding skip_margin
margin_before [] z = refl
margin_before (b ∷ g) z = append_if ((b == 32) || (b == 9)) (skip_margin g) (b ∷ g) (skip_margin (g ++ 59 ∷ z)) (b ∷ g ++ 59 ∷ z) (59 ∷ z) (margin_before g z) refl

one_blank : (t s : Bool) (b : ℕ) (z x y : List ℕ) → (if t then 59 ∷ z else if s && false then x else b ∷ 59 ∷ z) ≡ (if t then [] else if s && false then y else b ∷ []) ++ 59 ∷ z
one_blank true s b z x y = refl
one_blank false true b z x y = refl
one_blank false false b z x y = refl

pub blanks_before : (g z : List ℕ) → skip_blanks false (g ++ 59 ∷ z) ≡ skip_blanks false g ++ 59 ∷ z
unfolding skip_blanks
blanks_before [] z = refl
blanks_before (b ∷ []) z = one_blank (is_blank b) (b == 92) b z (skip_blanks true (59 ∷ z)) (skip_blanks true [])
blanks_before (b ∷ c ∷ g) z =
    append_if (is_blank b) (skip_blanks false (c ∷ g)) (if joins_lines b (c ∷ g) then skip_blanks true (c ∷ g) else b ∷ c ∷ g) (skip_blanks false (c ∷ g ++ 59 ∷ z)) (if joins_lines b (c ∷ g) then skip_blanks true (c ∷ g ++ 59 ∷ z) else b ∷ c ∷ g ++ 59 ∷ z) (59 ∷ z)
    (blanks_before (c ∷ g) z)
    (append_if (joins_lines b (c ∷ g)) (skip_blanks true (c ∷ g)) (b ∷ c ∷ g) (skip_blanks true (c ∷ g ++ 59 ∷ z)) (b ∷ c ∷ g ++ 59 ∷ z) (59 ∷ z) (blanks_before g z) refl)

out_if : (t : Bool) (x y z w r : List ℕ) → (x ≡ [] → z ≡ r) → (y ≡ [] → w ≡ r) → (if t then x else y) ≡ [] → (if t then z else w) ≡ r
out_if true x y z w r h k e = h e
out_if false x y z w r h k e = k e

out_joins : (t s : Bool) (x y z w r : List ℕ) → s ≡ t → (x ≡ [] → z ≡ r) → (y ≡ [] → w ≡ r) → (if t then x else y) ≡ [] → (if s then z else w) ≡ r
out_joins t s x y z w r e h k n = subst (λ q. (if q then z else w) ≡ r) (sym e) (out_if t x y z w r h k n)

no_cons : {A : Type 0} (b : ℕ) (t : List ℕ) → b ∷ t ≡ [] → A
no_cons b t e = absurd (cc)

-- where nothing is left before a command, a semicolon and a newline end what is passed over
pub skip_out : (m : Before) (g z : List ℕ) → skip m g ≡ [] → skip m (g ++ 59 ∷ 10 ∷ 93 ∷ z) ≡ 93 ∷ z
unfolding skip
skip_out between [] z e = refl
skip_out joining [] z e = refl
skip_out comment [] z e = refl
skip_out escaped [] z e = refl
skip_out between (b ∷ g) z e =
    let v : List ℕ = 59 ∷ 10 ∷ 93 ∷ z in
    out_if (is_blank b || ends_command b) (skip between g) (if joins_lines b g then skip joining g else if b == 35 then skip comment g else b ∷ g)
    (skip between (g ++ v)) (if joins_lines b (g ++ v) then skip joining (g ++ v) else if b == 35 then skip comment (g ++ v) else b ∷ g ++ v) (93 ∷ z) (skip_out between g z)
    (out_joins (joins_lines b g) (joins_lines b (g ++ v)) (skip joining g) (if b == 35 then skip comment g else b ∷ g) (skip joining (g ++ v)) (if b == 35 then skip comment (g ++ v) else b ∷ g ++ v) (93 ∷ z) (joins_before b g (10 ∷ 93 ∷ z)) (skip_out joining g z)
    (out_if (b == 35) (skip comment g) (b ∷ g) (skip comment (g ++ v)) (b ∷ g ++ v) (93 ∷ z) (skip_out comment g z) (λ n. no_cons b g n))) e
skip_out joining (b ∷ g) z e = skip_out between g z e
skip_out comment (b ∷ g) z e =
    let v : List ℕ = 59 ∷ 10 ∷ 93 ∷ z in
    out_if (b == 10) (skip between g) (if b == 92 then skip escaped g else skip comment g) (skip between (g ++ v)) (if b == 92 then skip escaped (g ++ v) else skip comment (g ++ v)) (93 ∷ z) (skip_out between g z)
    (out_if (b == 92) (skip escaped g) (skip comment g) (skip escaped (g ++ v)) (skip comment (g ++ v)) (93 ∷ z) (skip_out escaped g z) (skip_out comment g z)) e
skip_out escaped (b ∷ g) z e = skip_out comment g z e

-- ---- backslash forms

leading_before : (p : ℕ → Bool) (m : ℕ) (g z : List ℕ) → p 59 ≡ false → take_while p (take m (g ++ 59 ∷ z)) ≡ take_while p (take m g)
leading_before p zero g z h = refl
leading_before p (suc m) [] z h = take_while-cons p 59 (take m z) ∙ ap (λ s. cond s (59 ∷ take_while p (take m z)) []) h
leading_before p (suc m) (b ∷ g) z h = take_while-cons p b (take m (g ++ 59 ∷ z)) ∙ ap (λ x. cond (p b) (b ∷ x) []) (leading_before p m g z h) ∙ sym (take_while-cons p b (take m g))

cond_le : (t : Bool) (b n : ℕ) (x : List ℕ) → length x ≤ n → length (cond t (b ∷ x) []) ≤ suc n
cond_le true b n x h = omega (arith, h)
cond_le false b n x h = omega arith

leading_le : (p : ℕ → Bool) (m : ℕ) (g : List ℕ) → length (take_while p (take m g)) ≤ length g
leading_le p zero g = omega arith
leading_le p (suc m) [] = omega arith
leading_le p (suc m) (b ∷ g) = subst (λ x. length x ≤ suc (length g)) (sym (take_while-cons p b (take m g))) (cond_le (p b) b (length g) (take_while p (take m g)) (leading_le p m g))

all_leading : (t : List ℕ) → leading_digits 16 (length t) t ≡ take_while (is_digit 16) t
all_leading t = ap (take_while (is_digit 16)) (take_all (length t) t (omega arith))

hex_before : (g z : List ℕ) → leading_digits 16 (length (g ++ 59 ∷ z)) (g ++ 59 ∷ z) ≡ leading_digits 16 (length g) g
hex_before g z =
    let m = length (g ++ 59 ∷ z) + length g in
    let a : take m (g ++ 59 ∷ z) ≡ g ++ 59 ∷ z = take_all m (g ++ 59 ∷ z) (omega arith) in
    let b : take m g ≡ g = take_all m g (omega arith) in
    all_leading (g ++ 59 ∷ z) ∙ sym (ap (take_while (is_digit 16)) a) ∙ leading_before (is_digit 16) m g z refl ∙ ap (take_while (is_digit 16)) b ∙ sym (all_leading g)

-- bytes, and what is left behind them with more at its end
abbrev With : List ℕ → List ℕ × List ℕ → List ℕ × List ℕ
With v x = (x.0, x.1 ++ v)

with_if : (t : Bool) (v : List ℕ) (x y z w : List ℕ × List ℕ) → z ≡ With v x → w ≡ With v y → if◌then◌else◌ {A = List ℕ × List ℕ} t z w ≡ With v (if◌then◌else◌ {A = List ℕ × List ℕ} t x y)
with_if true v x y z w h k = h
with_if false v x y z w h k = k

letter_before : (letter base : ℕ) (ds : List ℕ) (f : ℕ → List ℕ) (g v : List ℕ) → length ds ≤ length g → letter_and_digits letter base ds f (g ++ v) ≡ With v (letter_and_digits letter base ds f g)
letter_before letter base [] f g v le = refl
letter_before letter base (d ∷ ds) f g v le = ap (λ (q : List ℕ). (f (value_of base (d ∷ ds)), q)) (drop-append-le (length (d ∷ ds)) g v le)

byte_before : (g z : List ℕ) → byte_form (g ++ 59 ∷ z) ≡ With (59 ∷ z) (byte_form g)
byte_before g z =
    ap (λ ds. letter_and_digits 120 16 ds low_byte (g ++ 59 ∷ z)) (hex_before g z)
    ∙ letter_before 120 16 (leading_digits 16 (length g) g) low_byte g (59 ∷ z) (leading_le (is_digit 16) (length g) g)

character_before : (g z : List ℕ) → character_form (g ++ 59 ∷ z) ≡ With (59 ∷ z) (character_form g)
character_before g z =
    ap (λ ds. letter_and_digits 117 16 ds utf8 (g ++ 59 ∷ z)) (leading_before (is_digit 16) 4 g z refl)
    ∙ letter_before 117 16 (leading_digits 16 4 g) utf8 g (59 ∷ z) (leading_le (is_digit 16) 4 g)

octal_before : (g z : List ℕ) → octal_form (g ++ 59 ∷ z) ≡ With (59 ∷ z) (octal_form g)
octal_before g z =
    let ds = leading_digits 8 3 g in
    ap (λ (q : List ℕ). (low_byte (value_of 8 q), drop (length q) (g ++ 59 ∷ z))) (leading_before (is_digit 8) 3 g z refl)
    ∙ ap (λ (q : List ℕ). (low_byte (value_of 8 ds), q)) (drop-append-le (length ds) g (59 ∷ z) (leading_le (is_digit 8) 3 g))

escape_before : (b : ℕ) (g z : List ℕ) → escape_of (b ∷ g ++ 59 ∷ z) ≡ With (59 ∷ z) (escape_of (b ∷ g))
unfolding escape_of
escape_before b g z =
    let v : List ℕ = 59 ∷ z in
    let four : ((w : List ℕ) → List ℕ × List ℕ) = λ w. (letter_form b ∷ [], w) in
    let three : ((w : List ℕ) → List ℕ × List ℕ) = λ w. if◌then◌else◌ {A = List ℕ × List ℕ} (b == 117) (character_form w) (four w) in
    let two : ((w : List ℕ) → List ℕ × List ℕ) = λ w. if◌then◌else◌ {A = List ℕ × List ℕ} (b == 120) (byte_form w) (three w) in
    let one : ((w : List ℕ) → List ℕ × List ℕ) = λ w. if◌then◌else◌ {A = List ℕ × List ℕ} (nat_lt (digit_of b) 8) (octal_form (b ∷ w)) (two w) in
    with_if (b == 10) v (32 ∷ [], skip_margin g) (one g) (32 ∷ [], skip_margin (g ++ v)) (one (g ++ v)) (ap (λ (q : List ℕ). (32 ∷ [], q)) (margin_before g z))
    (with_if (nat_lt (digit_of b) 8) v (octal_form (b ∷ g)) (two g) (octal_form (b ∷ g ++ v)) (two (g ++ v)) (octal_before (b ∷ g) z)
    (with_if (b == 120) v (byte_form g) (three g) (byte_form (g ++ v)) (three (g ++ v)) (byte_before g z)
    (with_if (b == 117) v (character_form g) (four g) (character_form (g ++ v)) (four (g ++ v)) (character_before g z) refl)))

-- ---- names

prefix_before : (p : ℕ → Bool) (g z : List ℕ) → p 59 ≡ false → prefix_len p (g ++ 59 ∷ z) ≡ prefix_len p g
prefix_before p [] z h = ap (λ s. cond s (1 + prefix_len p z) 0) h
prefix_before p (b ∷ g) z h = ap (λ n. cond (p b) (1 + n) 0) (prefix_before p g z h)

name_before : (g z : List ℕ) → name_at (g ++ 59 ∷ z) ≡ With (59 ∷ z) (name_at g)
name_before g z =
    let j = prefix_len is_name g in
    let le = prefix_len-le-length is_name g in
    rw (prefix_before is_name g z refl, take-append-le j g (59 ∷ z) le, drop-append-le j g (59 ∷ z) le) refl

pub prefix_near : (p : ℕ → Bool) (g w : List ℕ) → prefix_len p g < length g → prefix_len p (g ++ w) ≡ prefix_len p g
prefix_near p g w lt =
    let ne : (prefix_len p g == length g) ≡ false = ne_eqb (prefix_len p g) (length g) (λ e. absurd (omega (arith, e, lt))) in
    prefix_len-append p g w ∙ ap (λ z. cond z (length g + prefix_len p w) (prefix_len p g)) ne

same_cond : (n k a b : ℕ) → n ≡ k → cond (n == k) a b ≡ a
same_cond n k a b e = grind (arith, nat_tests)

pub prefix_far : (p : ℕ → Bool) (g w : List ℕ) → prefix_len p g ≡ length g → prefix_len p (g ++ w) ≡ length g + prefix_len p w
prefix_far p g w q = prefix_len-append p g w ∙ same_cond (prefix_len p g) (length g) (length g + prefix_len p w) (prefix_len p g) q

-- up to a closing brace: where there is one, it is the same with more at the end; where there is none, one can be added
abbrev Closed : Option (List ℕ × List ℕ) → (List ℕ → Option (List ℕ × List ℕ)) → Type 0
Closed None f = (z : List ℕ) → (x : List ℕ) × (f (125 ∷ z) ≡ Some (x, z))
Closed (Some x) f = (z : List ℕ) → f z ≡ Some (x.0, x.1 ++ 59 ∷ z)

up_by : (g : List ℕ) → (prefix_len (λ b. not (b == 125)) g ≡ length g) ⊎ (prefix_len (λ b. not (b == 125)) g < length g) → Closed (up_to 125 g) (λ z. up_to 125 (g ++ 59 ∷ z))
up_by g (inl q) =
    let j = prefix_len (λ b. not (b == 125)) g in
    let none : nat_lt j (length g) ≡ false = grind (arith, nat_tests, q) in
    let e : up_to 125 g ≡ None = rw none refl in
    let added : (z : List ℕ) → (x : List ℕ) × (up_to 125 (g ++ 59 ∷ 125 ∷ z) ≡ Some (x, z)) = λ z.
    let w : List ℕ = 59 ∷ 125 ∷ z in
    let p : prefix_len (λ b. not (b == 125)) (g ++ w) ≡ length g + 1 = prefix_far (λ b. not (b == 125)) g w q in
    let lt : nat_lt (length g + 1) (length (g ++ w)) ≡ true = lt-ltb (length g + 1) (length (g ++ w)) (omega (arith, length-append g w)) in
    let t : take (length g + 1) (g ++ w) ≡ g ++ 59 ∷ [] = take-append-add g w 1 in
    let two : length g + 1 + 1 ≡ length g + 2 = omega arith in
    let d : drop (length g + 1 + 1) (g ++ w) ≡ z = ap (λ k. drop k (g ++ w)) two ∙ drop-append-add g w 2 in
    (g ++ 59 ∷ [], rw (p, lt, t, d) refl) in
    subst (λ q. Closed q (λ z. up_to 125 (g ++ 59 ∷ z))) (sym e) added
up_by g (inr lt) =
    let j = prefix_len (λ b. not (b == 125)) g in
    let le : j ≤ length g = omega (arith, lt) in
    let le1 : j + 1 ≤ length g = omega (arith, lt) in
    let some : nat_lt j (length g) ≡ true = lt-ltb j (length g) lt in
    let e : up_to 125 g ≡ Some (take j g, drop (j + 1) g) = rw some refl in
    let kept : (z : List ℕ) → up_to 125 (g ++ 59 ∷ z) ≡ Some (take j g, drop (j + 1) g ++ 59 ∷ z) = λ z.
    let p = prefix_near (λ b. not (b == 125)) g (59 ∷ z) lt in
    let l : nat_lt j (length (g ++ 59 ∷ z)) ≡ true = lt-ltb j (length (g ++ 59 ∷ z)) (omega (arith, lt, length-append g (59 ∷ z))) in
    rw (p, l) (rw (take-append-le j g (59 ∷ z) le, drop-append-le (j + 1) g (59 ∷ z) le1) refl) in
    subst (λ q. Closed q (λ z. up_to 125 (g ++ 59 ∷ z))) (sym e) kept

up_before : (g : List ℕ) → Closed (up_to 125 g) (λ z. up_to 125 (g ++ 59 ∷ z))
up_before g = up_by g (eq-or-lt_of_le (prefix_len-le-length (λ b. not (b == 125)) g))

-- ---- what comes next in a word

-- the step with a semicolon and more behind the text
abbrev pub Goes : Step → (List ℕ → Step) → Type 0
Goes ends f = (z : List ℕ) → f z ≡ ends
Goes (bytes bs r) f = (z : List ℕ) → f z ≡ bytes bs (r ++ 59 ∷ z)
Goes (substituted (named x r)) f = (z : List ℕ) → f z ≡ substituted (named x (r ++ 59 ∷ z))
Goes (substituted (indexed x r)) f = (z : List ℕ) → f z ≡ substituted (indexed x (r ++ 59 ∷ z))
Goes (substituted (opened r)) f = (z : List ℕ) → f z ≡ substituted (opened (r ++ 59 ∷ z))
Goes (substituted unnamed) f = (z : List ℕ) → (x : List ℕ) × (f (125 ∷ z) ≡ substituted (named x z))

pub record StepGoes (x : Step) (f : List ℕ → Step) : Type 0 where
  pub goes : Goes x f

step_if : (t : Bool) (x y : Step) (f g : List ℕ → Step) → StepGoes x f → StepGoes y g → StepGoes (if t then x else y) (λ z. if t then f z else g z)
step_if true x y f g h k = h
step_if false x y f g h k = k

ends_if : (t : Bool) (s : List ℕ → Bool) (y : Step) (g : List ℕ → Step) → ((z : List ℕ) → s z ≡ t) → StepGoes y g → StepGoes (if t then ends else y) (λ z. if s z then ends else g z)
ends_if true s y g e k = record { goes = λ z. ap (λ q. if q then ends else g z) (e z) }
ends_if false s y g e k = record { goes = kept y k.goes }
  where
    at : (z : List ℕ) → (if s z then ends else g z) ≡ g z
    at z = ap (λ q. if q then ends else g z) (e z)

    kept : (y : Step) → Goes y g → Goes y (λ z. if s z then ends else g z)
    kept ends k = λ z. at z ∙ k z
    kept (bytes bs r) k = λ z. at z ∙ k z
    kept (substituted (named x r)) k = λ z. at z ∙ k z
    kept (substituted (indexed x r)) k = λ z. at z ∙ k z
    kept (substituted (opened r)) k = λ z. at z ∙ k z
    kept (substituted unnamed) k = λ z. ((k z).0, at (125 ∷ z) ∙ (k z).1)

between_goes : (q : Option (List ℕ × List ℕ)) (f : List ℕ → Option (List ℕ × List ℕ)) → Closed q f → StepGoes (between_braces q) (λ z. between_braces (f z))
between_goes None f h = record { goes = λ z. ((h z).0, ap between_braces (h z).1) }
between_goes (Some x) f h = record { goes = λ z. ap between_braces (h z) }

behind_goes : (x t : List ℕ) → StepGoes (behind_name x t) (λ z. behind_name x (t ++ 59 ∷ z))
behind_goes x [] = record { goes = λ z. refl }
behind_goes x (b ∷ t) = step_if (b == 40) (substituted (indexed x t)) (substituted (named x (b ∷ t))) (λ z. substituted (indexed x (t ++ 59 ∷ z))) (λ z. substituted (named x (b ∷ t ++ 59 ∷ z))) (record { goes = λ z. refl }) (record { goes = λ z. refl })

name_goes : (x t : List ℕ) → StepGoes (by_name x t) (λ z. by_name x (t ++ 59 ∷ z))
name_goes [] t = record { goes = λ z. refl }
name_goes (b ∷ x) t = behind_goes (b ∷ x) t

by_name_goes : (g : List ℕ) → StepGoes (by_name (name_at g).0 (name_at g).1) (λ z. by_name (name_at (g ++ 59 ∷ z)).0 (name_at (g ++ 59 ∷ z)).1)
by_name_goes g = record { goes = moved (by_name (name_at g).0 (name_at g).1) (name_goes (name_at g).0 (name_at g).1).goes }
  where
    at : (z : List ℕ) → by_name (name_at (g ++ 59 ∷ z)).0 (name_at (g ++ 59 ∷ z)).1 ≡ by_name (name_at g).0 ((name_at g).1 ++ 59 ∷ z)
    at z = ap (λ (q : List ℕ × List ℕ). by_name q.0 q.1) (name_before g z)

    moved : (y : Step) → Goes y (λ z. by_name (name_at g).0 ((name_at g).1 ++ 59 ∷ z)) → Goes y (λ z. by_name (name_at (g ++ 59 ∷ z)).0 (name_at (g ++ 59 ∷ z)).1)
    moved ends k = λ z. at z ∙ k z
    moved (bytes bs r) k = λ z. at z ∙ k z
    moved (substituted (named x r)) k = λ z. at z ∙ k z
    moved (substituted (indexed x r)) k = λ z. at z ∙ k z
    moved (substituted (opened r)) k = λ z. at z ∙ k z
    moved (substituted unnamed) k = λ z. ((k z).0, at (125 ∷ z) ∙ (k z).1)

dollar_goes : (g : List ℕ) → StepGoes (behind_dollar g) (λ z. behind_dollar (g ++ 59 ∷ z))
dollar_goes [] = record { goes = λ z. refl }
dollar_goes (b ∷ g) =
    step_if (b == 123) (between_braces (up_to 125 g)) (by_name (name_at (b ∷ g)).0 (name_at (b ∷ g)).1) (λ z. between_braces (up_to 125 (g ++ 59 ∷ z))) (λ z. by_name (name_at (b ∷ g ++ 59 ∷ z)).0 (name_at (b ∷ g ++ 59 ∷ z)).1)
    (between_goes (up_to 125 g) (λ z. up_to 125 (g ++ 59 ∷ z)) (up_before g)) (by_name_goes (b ∷ g))

escape_goes : (b : ℕ) (g : List ℕ) → StepGoes (bytes (escape_of (b ∷ g)).0 (escape_of (b ∷ g)).1) (λ z. bytes (escape_of (b ∷ g ++ 59 ∷ z)).0 (escape_of (b ∷ g ++ 59 ∷ z)).1)
escape_goes b g = record { goes = λ z. ap (λ (q : List ℕ × List ℕ). bytes q.0 q.1) (escape_before b g z) }

-- a backslash that ends the text
abbrev pub IsLone : ℕ → List ℕ → Type 0
IsLone b g = (b ≡ 92) × (g ≡ [])

slash_goes : (t : Bool) (b : ℕ) (g : List ℕ) (y : Step) (f : List ℕ → Step) → (b == 92) ≡ t → (IsLone b g → ⊥) → StepGoes y f
    → StepGoes (if t then bytes (escape_of g).0 (escape_of g).1 else y) (λ z. if t then bytes (escape_of (g ++ 59 ∷ z)).0 (escape_of (g ++ 59 ∷ z)).1 else f z)
slash_goes true b [] y f e h k = absurd (h (eqb-true b 92 e, refl))
slash_goes true b (c ∷ g) y f e h k = escape_goes c g
slash_goes false b g y f e h k = k

pub step_goes : (b : ℕ) (g : List ℕ) → (IsLone b g → ⊥) → StepGoes (step_at (b ∷ g)) (λ z. step_at (b ∷ g ++ 59 ∷ z))
step_goes b g h =
    slash_goes (b == 92) b g (if b == 36 then behind_dollar g else if b == 91 then substituted (opened g) else bytes (b ∷ []) g)
    (λ z. if b == 36 then behind_dollar (g ++ 59 ∷ z) else if b == 91 then substituted (opened (g ++ 59 ∷ z)) else bytes (b ∷ []) (g ++ 59 ∷ z)) refl h
    (step_if (b == 36) (behind_dollar g) (if b == 91 then substituted (opened g) else bytes (b ∷ []) g) (λ z. behind_dollar (g ++ 59 ∷ z)) (λ z. if b == 91 then substituted (opened (g ++ 59 ∷ z)) else bytes (b ∷ []) (g ++ 59 ∷ z)) (dollar_goes g)
    (step_if (b == 91) (substituted (opened g)) (bytes (b ∷ []) g) (λ z. substituted (opened (g ++ 59 ∷ z))) (λ z. bytes (b ∷ []) (g ++ 59 ∷ z)) (record { goes = λ z. refl }) (record { goes = λ z. refl })))

stops_before : (m : Mode) (b : ℕ) (g z : List ℕ) → stops m (b ∷ g ++ 59 ∷ z) ≡ stops m (b ∷ g)
stops_before (bare_word nested) b g z = ap (λ (q : Bool). is_blank b || ends_command b || closes nested b || q) (joins_before b g z)
stops_before quotes b g z = refl
stops_before index b g z = refl

pub next_goes : (m : Mode) (b : ℕ) (g : List ℕ) → (IsLone b g → ⊥) → StepGoes (next m (b ∷ g)) (λ z. next m (b ∷ g ++ 59 ∷ z))
next_goes m b g h = ends_if (stops m (b ∷ g)) (λ z. stops m (b ∷ g ++ 59 ∷ z)) (step_at (b ∷ g)) (λ z. step_at (b ∷ g ++ 59 ∷ z)) (stops_before m b g) (step_goes b g h)

-- nothing comes next at the end
pub next_nil : (m : Mode) → next m [] ≡ ends
next_nil (bare_word nested) = refl
next_nil quotes = refl
next_nil index = refl

-- a backslash that ends the text is itself, and takes a semicolon behind it
pub next_lone : (m : Mode) → next m (92 ∷ []) ≡ bytes (92 ∷ []) []
unfolding escape_of
next_lone (bare_word true) = refl
next_lone (bare_word false) = refl
next_lone quotes = refl
next_lone index = refl

pub next_taken : (m : Mode) (z : List ℕ) → next m (92 ∷ 59 ∷ z) ≡ bytes (59 ∷ []) z
unfolding escape_of
next_taken (bare_word true) z = refl
next_taken (bare_word false) z = refl
next_taken quotes z = refl
next_taken index z = refl
