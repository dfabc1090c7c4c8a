-- What is left behind a word is the end of its text, and no fault of a word stands at what may follow one.
use Rattle.std.proofs.Common.{◌≡◌, ℕ, zero, suc, ◌+◌, ◌≤◌, List, [], ◌∷◌, ◌++◌, length, take, drop, Bool, true, false, cond, Option, None, Some, refl, ap, sym, ◌∙◌, subst, ◌⊎◌, inl, inr, arith, append_assoc}
use Rattle.std.specs.Prelude.{◌==◌, ◌||◌, nat_lt, if◌then◌else◌}
use Rattle.std.specs.List.{prefix_len, position_or_len}
use Rattle.std.specs.Option.{option_map}
use Rattle.std.proofs.lemmas.Bool.{ne_eqb, eqb-true}
use Rattle.std.proofs.lemmas.List.{length-append, take-append-drop}
use Rattle.txt_core.specs.Digits.{digit_of, leading_digits}
use Rattle.txt_core.specs.Escape.{utf8, low_byte, letter_and_digits, byte_form, character_form, octal_form, skip_margin, letter_form, escape_of}
use Rattle.txt_core.specs.Texts.{begins_with}
use Rattle.tcl_parse.specs.declared.fault.Kind.TheVariants.{Extra, Deep}
use Rattle.tcl_parse.specs.Bytes.{newline, is_name, is_blank, ends_command, joins_lines}
use Rattle.tcl_parse.specs.Gaps.{skip, skip_blanks, between, joining, comment, escaped, Before, ends_word}
use Rattle.tcl_parse.specs.Tree.{Part, Word, Command, Script}
use Rattle.tcl_parse.specs.Names.{name_at, up_to}
use Rattle.tcl_parse.specs.Outcome.{Outcome, done, fault, put, put_text}
use Rattle.tcl_parse.specs.Steps.{Mode, quotes, index, bare_word, Substitution, named, indexed, opened, unnamed, Step, ends, bytes, substituted, behind_dollar, between_braces, behind_name, by_name, step_at, next, stops}
use Rattle.tcl_parse.specs.Grammar.{PartIs, PartsAt, no_part, some_bytes, bad_part, one_part, EnclosedAt, in_braces, in_quotes, WordAt, enclosed, in_nothing, WordsAt, no_word, bad_word, one_word, ScriptAt, no_command, bad_command, one_command, InBracket, InIndex, close_bracket, close_index, close_brace, close_quote, followed, by_brace, opening}
use Rattle.tcl_parse.specs.Braces.{Braced, BracedAt, matching_brace, joined_lines, taken_byte, inner_braces, plain_byte}
use Rattle.tcl_parse.specs.Laws.Within.{Within, parts_within, words_within, script_within, bracket_within, index_within}
use Rattle.tcl_expr.specs.Grammar.{fault_place}
use Rattle.tcl_expr.specs.Laws.Fits.{fault_within}

-- the first text ends in the second
abbrev pub Suffix : List ℕ → List ℕ → Type 0
Suffix t r = (g : List ℕ) × (t ≡ g ++ r)

pub suffix_all : (t : List ℕ) → Suffix t t
suffix_all t = ([], refl)

pub suffix_trans : (t r s : List ℕ) → Suffix t r → Suffix r s → Suffix t s
suffix_trans t r s h k = (h.0 ++ k.0, h.1 ∙ ap (λ y. h.0 ++ y) k.1 ∙ sym (append_assoc h.0 k.0 s))

pub suffix_cons : (b : ℕ) (t r : List ℕ) → Suffix t r → Suffix (b ∷ t) r
suffix_cons b t r h = (b ∷ h.0, ap (λ (y : List ℕ). b ∷ y) h.1)

pub suffix_drop : (j : ℕ) (t : List ℕ) → Suffix t (drop j t)
suffix_drop j t = (take j t, sym (take-append-drop j t))

pub suffix_if : (b : Bool) (t x y : List ℕ) → Suffix t x → Suffix t y → Suffix t (if b then x else y)
suffix_if true t x y h k = h
suffix_if false t x y h k = k

tail_of : List ℕ → List ℕ
tail_of [] = []
tail_of (b ∷ t) = t

pub tail_same : (b c : ℕ) (s t : List ℕ) → b ∷ s ≡ c ∷ t → s ≡ t
unfolding tail_of
tail_same b c s t e = ap tail_of e

-- of two ends of a text the longer one ends in the other
pub overlap : (h r g u : List ℕ) → h ++ r ≡ g ++ u → length u ≤ length r → (k : List ℕ) × (r ≡ k ++ u)
overlap [] r g u e le = (g, e)
overlap (b ∷ h) r [] u e le = absurd (omega (arith, ap length e, length-append h r, le))
overlap (b ∷ h) r (c ∷ g) u e le = overlap h r g u (tail_same b c (h ++ r) (g ++ u) e) le

-- nothing is left, or what no word may be followed by
abbrev pub Stands : List ℕ → Type 0
Stands u = (u ≡ []) ⊎ (ends_word true u ≡ false)

-- a newline may follow a word
newline_ends : (r : List ℕ) → ends_word true r ≡ false → begins_with newline r ≡ false
newline_ends [] e = refl
newline_ends (b ∷ r) e = ne_eqb b 10 (λ q. let w : ends_word true (10 ∷ r) ≡ false = subst (λ y. ends_word true (y ∷ r) ≡ false) q e in cc)

pub stands_line : (u : List ℕ) → Stands u → begins_with newline u ≡ false
stands_line u (inl e) = subst (λ y. begins_with newline y ≡ false) (sym e) refl
stands_line u (inr e) = newline_ends u e

-- and so may a backslash-newline
pub stands_slash : (u : List ℕ) → Stands (92 ∷ u) → begins_with newline u ≡ false
stands_slash u (inl e) = absurd (cc)
stands_slash u (inr e) = e

-- so is what stands where so much is left
abbrev pub NotLine : List ℕ → ℕ → Type 0
NotLine t n = (g u : List ℕ) → t ≡ g ++ u → length u ≡ n → Stands u

nil_plain : (u : List ℕ) → length u ≡ 0 → Stands u
nil_plain [] e = inl refl
nil_plain (b ∷ u) e = absurd (omega (arith, e))

pub line_none : (t : List ℕ) → NotLine t 0
line_none t g u e l = nil_plain u l

pub line_more : (t r : List ℕ) (n : ℕ) → Suffix t r → n ≤ length r → NotLine r n → NotLine t n
line_more t r n h le k g u e l =
    let o = overlap h.0 r g u (sym h.1 ∙ e) (omega (arith, le, l)) in
    k o.0 u o.1 l

nil_front : (g u r : List ℕ) → r ≡ g ++ u → length u ≡ length r → r ≡ u
nil_front [] u r e l = e
nil_front (b ∷ g) u r e l = absurd (omega (arith, ap length e, length-append g u, l))

-- where all is left, its first byte decides
pub line_all : (t r : List ℕ) → Suffix t r → ends_word true r ≡ false → NotLine t (length r)
line_all t r h f g u e l =
    let o = overlap h.0 r g u (sym h.1 ∙ e) (omega (arith, l)) in
    subst Stands (nil_front o.0 u r o.1 l) (inr f)

-- what is left is an end of the text, and a fault stands at nothing that may follow a word
abbrev pub Good : {A : Type 0} → List ℕ → Outcome A → Type 0
Good t (done x r) = Suffix t r
Good t (fault k n) = NotLine t (fault_place k n)

pub good_more : {A : Type 0} (t r : List ℕ) (o : Outcome A) → Suffix t r → Within o (length r) → Good r o → Good t o
good_more t r (done x s) h w k = suffix_trans t r s h k
good_more t r (fault k n) h w l = line_more t r (fault_place k n) h (omega (arith, w, fault_within k n)) l

good_put : {A : Type 0} (x : A) (t : List ℕ) (o : Outcome (List A)) → Good t o → Good t (put x o)
good_put x t (done y r) h = h
good_put x t (fault k n) h = h

good_text : (bs t : List ℕ) (o : Outcome Word) → Good t o → Good t (put_text bs o)
good_text bs t (done y r) h = h
good_text bs t (fault k n) h = h

-- ---- what is passed over, and backslash forms

margin_suffix : (t : List ℕ) → Suffix t (skip_margin t)
unfolding skip_margin
margin_suffix [] = suffix_all []
margin_suffix (b ∷ t) = suffix_if ((b == 32) || (b == 9)) (b ∷ t) (skip_margin t) (b ∷ t) (suffix_cons b t (skip_margin t) (margin_suffix t)) (suffix_all (b ∷ t))

blanks_suffix : (m : Bool) (t : List ℕ) → Suffix t (skip_blanks m t)
unfolding skip_blanks
blanks_suffix m [] = suffix_all []
blanks_suffix true (b ∷ t) = suffix_cons b t (skip_blanks false t) (blanks_suffix false t)
blanks_suffix false (b ∷ t) =
    suffix_if (is_blank b) (b ∷ t) (skip_blanks false t) (if joins_lines b t then skip_blanks true t else b ∷ t) (suffix_cons b t (skip_blanks false t) (blanks_suffix false t))
    (suffix_if (joins_lines b t) (b ∷ t) (skip_blanks true t) (b ∷ t) (suffix_cons b t (skip_blanks true t) (blanks_suffix true t)) (suffix_all (b ∷ t)))

skip_suffix : (m : Before) (t : List ℕ) → Suffix t (skip m t)
unfolding skip
skip_suffix m [] = suffix_all []
skip_suffix between (b ∷ t) =
    suffix_if (is_blank b || ends_command b) (b ∷ t) (skip between t) (if joins_lines b t then skip joining t else if b == 35 then skip comment t else b ∷ t) (suffix_cons b t (skip between t) (skip_suffix between t))
    (suffix_if (joins_lines b t) (b ∷ t) (skip joining t) (if b == 35 then skip comment t else b ∷ t) (suffix_cons b t (skip joining t) (skip_suffix joining t))
    (suffix_if (b == 35) (b ∷ t) (skip comment t) (b ∷ t) (suffix_cons b t (skip comment t) (skip_suffix comment t)) (suffix_all (b ∷ t))))
skip_suffix joining (b ∷ t) = suffix_cons b t (skip between t) (skip_suffix between t)
skip_suffix comment (b ∷ t) =
    suffix_if (b == 10) (b ∷ t) (skip between t) (if b == 92 then skip escaped t else skip comment t) (suffix_cons b t (skip between t) (skip_suffix between t))
    (suffix_if (b == 92) (b ∷ t) (skip escaped t) (skip comment t) (suffix_cons b t (skip escaped t) (skip_suffix escaped t)) (suffix_cons b t (skip comment t) (skip_suffix comment t)))
skip_suffix escaped (b ∷ t) = suffix_cons b t (skip comment t) (skip_suffix comment t)

pair_if : (b : Bool) (t : List ℕ) (x y : List ℕ × List ℕ) → Suffix t x.1 → Suffix t y.1 → Suffix t (if◌then◌else◌ {A = List ℕ × List ℕ} b x y).1
pair_if true t x y h k = h
pair_if false t x y h k = k

letter_suffix : (letter base : ℕ) (ds : List ℕ) (f : ℕ → List ℕ) (t : List ℕ) → Suffix t (letter_and_digits letter base ds f t).1
letter_suffix letter base [] f t = suffix_all t
letter_suffix letter base (d ∷ ds) f t = suffix_drop (length (d ∷ ds)) t

escape_suffix : (t : List ℕ) → Suffix t (escape_of t).1
unfolding escape_of
escape_suffix [] = suffix_all []
escape_suffix (b ∷ t) =
    let four : List ℕ × List ℕ = (letter_form b ∷ [], t) in
    let three : List ℕ × List ℕ = if◌then◌else◌ {A = List ℕ × List ℕ} (b == 117) (character_form t) four in
    let two : List ℕ × List ℕ = if◌then◌else◌ {A = List ℕ × List ℕ} (b == 120) (byte_form t) three in
    let one : List ℕ × List ℕ = if◌then◌else◌ {A = List ℕ × List ℕ} (nat_lt (digit_of b) 8) (octal_form (b ∷ t)) two in
    pair_if (b == 10) (b ∷ t) (32 ∷ [], skip_margin t) one (suffix_cons b t (skip_margin t) (margin_suffix t))
    (pair_if (nat_lt (digit_of b) 8) (b ∷ t) (octal_form (b ∷ t)) two (suffix_drop (length (leading_digits 8 3 (b ∷ t))) (b ∷ t))
    (pair_if (b == 120) (b ∷ t) (byte_form t) three (suffix_cons b t (byte_form t).1 (letter_suffix 120 16 (leading_digits 16 (length t) t) low_byte t))
    (pair_if (b == 117) (b ∷ t) (character_form t) four (suffix_cons b t (character_form t).1 (letter_suffix 117 16 (leading_digits 16 4 t) utf8 t)) (suffix_cons b t t (suffix_all t)))))

-- ---- what comes next

abbrev StepEnds : List ℕ → Step → Type 0
StepEnds t ends = Unit {0}
StepEnds t (bytes bs r) = Suffix t r
StepEnds t (substituted (named x r)) = Suffix t r
StepEnds t (substituted (indexed x r)) = Suffix t (40 ∷ r)
StepEnds t (substituted (opened r)) = Suffix t (91 ∷ r)
StepEnds t (substituted unnamed) = Unit {0}

record StepSuffix (t : List ℕ) (s : Step) : Type 0 where
  suffix : StepEnds t s

step_if : (b : Bool) (t : List ℕ) (x y : Step) → StepSuffix t x → StepSuffix t y → StepSuffix t (if b then x else y)
step_if true t x y h k = h
step_if false t x y h k = k

step_when : (b : Bool) (t : List ℕ) (x y : Step) → (b ≡ true → StepSuffix t x) → StepSuffix t y → StepSuffix t (if b then x else y)
step_when true t x y h k = h refl
step_when false t x y h k = k

step_in : (t r : List ℕ) (s : Step) → Suffix t r → StepSuffix r s → StepSuffix t s
step_in t r s h k = record { suffix = by s k.suffix }
  where
    by : (s : Step) → StepEnds r s → StepEnds t s
    by ends e = tt
    by (bytes bs q) e = suffix_trans t r q h e
    by (substituted (named x q)) e = suffix_trans t r q h e
    by (substituted (indexed x q)) e = suffix_trans t r (40 ∷ q) h e
    by (substituted (opened q)) e = suffix_trans t r (91 ∷ q) h e
    by (substituted unnamed) e = tt

braces_suffix : (t : List ℕ) (c : Bool) (i : ℕ) → StepSuffix t (between_braces (option_map (λ k. (take k t, drop (k + 1) t)) (cond c (Some i) None)))
braces_suffix t true i = record { suffix = suffix_drop (i + 1) t }
braces_suffix t false i = record { suffix = tt }

behind_suffix : (x t : List ℕ) → StepSuffix t (behind_name x t)
behind_suffix x [] = record { suffix = suffix_all [] }
behind_suffix x (b ∷ t) =
    step_when (b == 40) (b ∷ t) (substituted (indexed x t)) (substituted (named x (b ∷ t))) (λ e. record { suffix = ([], ap (λ y. y ∷ t) (eqb-true b 40 e)) }) (record { suffix = suffix_all (b ∷ t) })

name_suffix : (x t : List ℕ) → StepSuffix t (by_name x t)
name_suffix [] t = record { suffix = suffix_all t }
name_suffix (b ∷ x) t = behind_suffix (b ∷ x) t

dollar_suffix : (t : List ℕ) → StepSuffix t (behind_dollar t)
dollar_suffix [] = record { suffix = suffix_all [] }
dollar_suffix (b ∷ t) =
    step_if (b == 123) (b ∷ t) (between_braces (up_to 125 t)) (by_name (name_at (b ∷ t)).0 (name_at (b ∷ t)).1)
    (step_in (b ∷ t) t (between_braces (up_to 125 t)) (suffix_cons b t t (suffix_all t)) (braces_suffix t (nat_lt (position_or_len (λ k. k == 125) t) (length t)) (position_or_len (λ k. k == 125) t)))
    (step_in (b ∷ t) (name_at (b ∷ t)).1 (by_name (name_at (b ∷ t)).0 (name_at (b ∷ t)).1) (suffix_drop (prefix_len is_name (b ∷ t)) (b ∷ t)) (name_suffix (name_at (b ∷ t)).0 (name_at (b ∷ t)).1))

step_suffix : (t : List ℕ) → StepSuffix t (step_at t)
step_suffix [] = record { suffix = tt }
step_suffix (b ∷ t) =
    let tail = suffix_cons b t t (suffix_all t) in
    step_if (b == 92) (b ∷ t) (bytes (escape_of t).0 (escape_of t).1) (if b == 36 then behind_dollar t else if b == 91 then substituted (opened t) else bytes (b ∷ []) t) (record { suffix = suffix_cons b t (escape_of t).1 (escape_suffix t) })
    (step_if (b == 36) (b ∷ t) (behind_dollar t) (if b == 91 then substituted (opened t) else bytes (b ∷ []) t) (step_in (b ∷ t) t (behind_dollar t) tail (dollar_suffix t))
    (step_when (b == 91) (b ∷ t) (substituted (opened t)) (bytes (b ∷ []) t) (λ e. record { suffix = ([], ap (λ y. y ∷ t) (eqb-true b 91 e)) }) (record { suffix = tail })))

next_suffix : (m : Mode) (t : List ℕ) → StepSuffix t (next m t)
next_suffix m t = step_if (stops m t) t ends (step_at t) (record { suffix = tt }) (step_suffix t)

pub step_ends : (t : List ℕ) (s : Step) → step_at t ≡ s → StepEnds t s
step_ends t s e = subst (StepEnds t) e (step_suffix t).suffix

next_ends : (m : Mode) (t : List ℕ) (s : Step) → next m t ≡ s → StepEnds t s
next_ends m t s e = subst (StepEnds t) e (next_suffix m t).suffix

braced_suffix : {t w r : List ℕ} → Braced t w r → Suffix t r
braced_suffix (matching_brace r) = (125 ∷ [], refl)
braced_suffix (joined_lines {t = t} {r = r} h) = suffix_trans (92 ∷ 10 ∷ t) t r (92 ∷ 10 ∷ [], refl) (suffix_trans t (skip_margin t) r (margin_suffix t) (braced_suffix h))
braced_suffix (taken_byte {c = c} {t = t} {r = r} n h) = suffix_trans (92 ∷ c ∷ t) t r (92 ∷ c ∷ [], refl) (braced_suffix h)
braced_suffix (inner_braces {t = t} {u = u} {r = r} h k) = suffix_cons 123 t r (suffix_trans t u r (braced_suffix h) (braced_suffix k))
braced_suffix (plain_byte {b = b} {t = t} {r = r} h k l d) = suffix_cons b t r (braced_suffix d)

module _ (S : List ℕ → Outcome Script → Type 0) (I : List ℕ → Outcome Word → Type 0) (in_s : (t : List ℕ) (o : Outcome Script) → S t o → Within o (length t + 1)) (in_i : (t : List ℕ) (o : Outcome Word) → I t o → Within o (length t + 1))
    (S_good : (t : List ℕ) (o : Outcome Script) → S t o → Good (91 ∷ t) o) (I_good : (t : List ℕ) (o : Outcome Word) → I t o → Good (40 ∷ t) o) where
  index_good_by : (left : ℕ) (x t r : List ℕ) (i : Outcome Word) → Suffix t (40 ∷ r) → I r i → Good t (close_index left x i)
  index_good_by left x t r (done w []) h k = line_none t
  index_good_by left x t r (done w (b ∷ s)) h k =
      let g : Suffix (40 ∷ r) (b ∷ s) = I_good r (done w (b ∷ s)) k in
      suffix_trans t (40 ∷ r) s h (suffix_trans (40 ∷ r) (b ∷ s) s g (suffix_cons b s s (suffix_all s)))
  index_good_by left x t r (fault l n) h k = line_more t (40 ∷ r) (fault_place l n) h (omega (arith, in_i r (fault l n) k, fault_within l n)) (I_good r (fault l n) k)

  bracket_good_by : (left : ℕ) (t r : List ℕ) (i : Outcome Script) → Suffix t (91 ∷ r) → S r i → Good t (close_bracket left i)
  bracket_good_by left t r (done w []) h k = line_none t
  bracket_good_by left t r (done w (b ∷ s)) h k =
      let g : Suffix (91 ∷ r) (b ∷ s) = S_good r (done w (b ∷ s)) k in
      suffix_trans t (91 ∷ r) s h (suffix_trans (91 ∷ r) (b ∷ s) s g (suffix_cons b s s (suffix_all s)))
  bracket_good_by left t r (fault l n) h k = line_more t (91 ∷ r) (fault_place l n) h (omega (arith, in_s r (fault l n) k, fault_within l n)) (S_good r (fault l n) k)

  pub part_good : (s : Substitution) (left : ℕ) (t : List ℕ) (o : Outcome Part) → StepEnds t (substituted s) → PartIs S I left s o → Good t o
  part_good (named x r) left t o h k = subst (Good t) (sym k) h
  part_good unnamed left t o h k = subst (Good t) (sym k) (line_none t)
  part_good (indexed x r) left t o h k = subst (Good t) (sym k.2) (index_good_by left x t r k.0 h k.1)
  part_good (opened r) left t o h k = subst (Good t) (sym k.2) (bracket_good_by (length r + 1) t r k.0 h k.1)

  parts_good : (m : Mode) {t : List ℕ} {o : Outcome Word} → PartsAt S I m t o → Good t o
  parts_good m {t} (no_part e) = suffix_all t
  parts_good m {t} (some_bytes {r = r} {bs = bs} {o = o} e p) = good_text bs t o (good_more t r o (next_ends m t (bytes bs r) e) (parts_within S I in_s in_i m p) (parts_good m p))
  parts_good m {t} (bad_part {s = s} {k = k} {n = n} a p) = part_good s (length t) t (fault k n) (next_ends m t (substituted s) a) p
  parts_good m {t} (one_part {r = r} {s = s} x {o = o} a p w) =
      good_put x t o (good_more t r o (part_good s (length t) t (done x r) (next_ends m t (substituted s) a) p) (parts_within S I in_s in_i m w) (parts_good m w))

  brace_good : (t : List ℕ) (x : Option (List ℕ × List ℕ)) → opening t ≡ by_brace → BracedAt (drop 1 t) x → Good t (close_brace (length t) x)
  brace_good t None e h = line_none t
  brace_good t (Some x) e h = suffix_trans t (drop 1 t) x.1 (suffix_drop 1 t) (braced_suffix h)

  quote_good : (t : List ℕ) (o : Outcome Word) → Within o (length (drop 1 t)) → Good (drop 1 t) o → Good t (close_quote (length t) o)
  quote_good t (done w []) i h = line_none t
  quote_good t (done w (b ∷ r)) i h = suffix_trans t (drop 1 t) r (suffix_drop 1 t) (suffix_trans (drop 1 t) (b ∷ r) r h (suffix_cons b r r (suffix_all r)))
  quote_good t (fault k n) i h = line_more t (drop 1 t) (fault_place k n) (suffix_drop 1 t) (omega (arith, i, fault_within k n)) h

  pub enclosed_good : {t : List ℕ} {o : Outcome Word} → EnclosedAt S I t o → Good t o
  enclosed_good {t} (in_braces x e h) = brace_good t x e h
  enclosed_good {t} (in_quotes {o = o} e h) = quote_good t o (parts_within S I in_s in_i quotes h) (parts_good quotes h)

  followed_by : (s : Bool) (t : List ℕ) (w : Word) (r : List ℕ) → ends_word true r ≡ s → Suffix t r → Good t (if s then done w r else fault Extra (length r))
  followed_by true t w r e h = h
  followed_by false t w r e h = line_all t r h e

  followed_good : (t : List ℕ) (o : Outcome Word) → Good t o → Good t (followed true o)
  followed_good t (done w r) h = followed_by (ends_word true r) t w r refl h
  followed_good t (fault k n) h = h

  word_good : {t : List ℕ} {o : Outcome Word} → WordAt S I true t o → Good t o
  word_good {t} (enclosed {o = o} h) = followed_good t o (enclosed_good h)
  word_good (in_nothing e p) = parts_good (bare_word true) p

  words_good : {t : List ℕ} {o : Outcome Command} → WordsAt S I true t o → Good t o
  words_good {t} (no_word e) = suffix_all t
  words_good (bad_word e p) = word_good p
  words_good {t} (one_word {r = r} {w = w} {o = o} e p l) =
      good_put w t o (good_more t (skip_blanks false r) o (suffix_trans t r (skip_blanks false r) (word_good p) (blanks_suffix false r)) (words_within S I in_s in_i true l) (words_good l))

  pub script_good : {t : List ℕ} {o : Outcome Script} → ScriptAt S I true t o → Good t o
  script_good {t} (no_command e) = suffix_all t
  script_good (bad_command e p) = words_good p
  script_good {t} (one_command {r = r} {c = c} {o = o} e p l) =
      good_put c t o (good_more t (skip between r) o (suffix_trans t r (skip between r) (words_good p) (skip_suffix between r)) (script_within S I in_s in_i true l) (script_good l))

  pub index_parts_good : (b : ℕ) (t : List ℕ) (o : Outcome Word) → PartsAt S I index t o → Good (b ∷ t) o
  index_parts_good b t o h = good_more (b ∷ t) t o (suffix_cons b t t (suffix_all t)) (parts_within S I in_s in_i index h) (parts_good index h)

  pub bracket_script_good : (b : ℕ) (t : List ℕ) (o : Outcome Script) → ScriptAt S I true (skip between t) o → Good (b ∷ t) o
  bracket_script_good b t o h = good_more (b ∷ t) (skip between t) o (suffix_cons b t (skip between t) (skip_suffix between t)) (script_within S I in_s in_i true h) (script_good h)

-- a fault at an opening byte
deep_good : {A : Type 0} (b : ℕ) (t : List ℕ) (o : Outcome A) → ends_word true (b ∷ t) ≡ false → o ≡ fault Deep (length t + 1) → Good (b ∷ t) o
deep_good b t o n e =
    let l : length (b ∷ t) ≡ length t + 1 = omega arith in
    subst (Good (b ∷ t)) (sym e) (subst (NotLine (b ∷ t)) l (line_all (b ∷ t) (b ∷ t) (suffix_all (b ∷ t)) n))

mutual
  unfolding InBracket

  pub bracket_good : (room : ℕ) (t : List ℕ) (o : Outcome Script) → InBracket room t o → Good (91 ∷ t) o
  bracket_good zero t o h = deep_good 91 t o refl h
  bracket_good (suc room) t o h = bracket_script_good (InBracket room) (InIndex room) (bracket_within room) (index_within room) (bracket_good room) (index_good room) 91 t o h

  pub index_good : (room : ℕ) (t : List ℕ) (o : Outcome Word) → InIndex room t o → Good (40 ∷ t) o
  index_good zero t o h = deep_good 40 t o refl h
  index_good (suc room) t o h = index_parts_good (InBracket room) (InIndex room) (bracket_within room) (index_within room) (bracket_good room) (index_good room) 40 t o h
