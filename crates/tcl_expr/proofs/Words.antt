-- What is read of words, brackets and variables in two texts that share a front is the same, as long as it ends, or has a fault that stands still, in that front.
use Rattle.std.proofs.Common.{◌≡◌, ℕ, zero, suc, ◌+◌, ◌-◌, ◌<◌, ◌≤◌, List, [], ◌∷◌, ◌++◌, length, take, drop, Bool, true, false, cond, Option, None, Some, refl, ap, sym, ◌∙◌, subst, ◌⊎◌, inl, inr, arith}
use Rattle.std.specs.Prelude.{not, ◌==◌, ◌&&◌, ◌||◌, nat_lt, if◌then◌else◌}
use Rattle.std.specs.List.{prefix_len, position_or_len, take_while}
use Rattle.std.specs.Option.{option_map}
use Rattle.std.proofs.Math.Nat.{eq-or-lt_of_le}
use Rattle.std.proofs.lemmas.Bool.{ne_eqb, lt-ltb}
use Rattle.std.proofs.lemmas.Bool.Decides.{nat_tests}
use Rattle.std.proofs.lemmas.List.{length-append, length-drop, take-append-le, drop-append-le, take_all}
use Rattle.std.proofs.lemmas.List.Folds.{prefix_len-append}
use Rattle.std.proofs.lemmas.List.Sums.{prefix_len-le-length, take_while-cons}
use Rattle.txt_core.specs.Digits.{digit_of, is_digit, value_of, leading_digits}
use Rattle.txt_core.specs.Escape.{utf8, low_byte, letter_and_digits, byte_form, character_form, octal_form, skip_margin, letter_form, escape_of}
use Rattle.txt_core.specs.EscapeWithin.{escape_within, margin_within}
use Rattle.tcl_parse.specs.declared.fault.Kind.TheVariants.{Variable, Extra, Deep}
use Rattle.tcl_parse.specs.Bytes.{newline, is_name, is_blank, ends_command, joins_lines}
use Rattle.tcl_parse.specs.Gaps.{skip, skip_blanks, between, joining, comment, escaped, Before, ends_word, at_end, closes}
use Rattle.tcl_parse.specs.Tree.{Part, Word, Command, Script}
use Rattle.tcl_parse.specs.Names.{name_at, up_to, named_part}
use Rattle.tcl_parse.specs.Outcome.{Outcome, done, fault, put, put_text}
use Rattle.tcl_parse.specs.Steps.{Mode, quotes, index, bare_word, Substitution, named, indexed, opened, unnamed, Step, ends, bytes, substituted, behind_dollar, between_braces, behind_name, by_name, step_at, next, stops}
use Rattle.tcl_parse.specs.Grammar.{PartIs, PartsAt, no_part, some_bytes, bad_part, one_part, SubstitutedAt, EnclosedAt, in_braces, in_quotes, WordAt, enclosed, in_nothing, WordsAt, no_word, bad_word, one_word, ScriptAt, no_command, bad_command, one_command, InBracket, InIndex, close_bracket, close_index, close_brace, close_quote, followed, by_brace, by_quote, bare, opening}
use Rattle.txt_core.specs.Limits.{most_nested}
use Rattle.tcl_parse.specs.Braces.{BracedAt}
use Rattle.tcl_parse.specs.Laws.Braces.{Inside, braced, passes, is_escaped, braced_is, reads_matched}
use Rattle.txt_core.specs.Counting.{in_front}
use Rattle.txt_core.specs.Texts.{begins_with}
use Rattle.tcl_parse.specs.Laws.Braces as braces
use Rattle.tcl_parse.specs.Laws.Within.{Within, skip_within, skip_blanks_within, parts_within, enclosed_within, words_within, script_within, bracket_within, index_within}
use Rattle.tcl_parse.specs.Laws.Some.{some_in_bracket, some_in_index}
use Rattle.tcl_expr.specs.Grammar.{fault_place}
use Rattle.tcl_expr.specs.Laws.Fits.{fault_within}

leading_local : (p : ℕ → Bool) (m : ℕ) (g u v : List ℕ) → length (take_while p (take m (g ++ u))) < length g → take_while p (take m (g ++ v)) ≡ take_while p (take m (g ++ u))
leading_local p zero g u v h = refl
leading_local p (suc m) [] u v h = absurd (omega (arith, h))
leading_local p (suc m) (b ∷ g) u v h = by_test (p b) (take_while p (take m (g ++ u))) (take_while p (take m (g ++ v))) (take_while-cons p b (take m (g ++ u))) (take_while-cons p b (take m (g ++ v))) (leading_local p m g u v) h
  where
    by_test : (t : Bool) (x y : List ℕ) → take_while p (b ∷ take m (g ++ u)) ≡ cond t (b ∷ x) [] → take_while p (b ∷ take m (g ++ v)) ≡ cond t (b ∷ y) [] → (length x < length g → y ≡ x)
        → length (take_while p (b ∷ take m (g ++ u))) < suc (length g) → take_while p (b ∷ take m (g ++ v)) ≡ take_while p (b ∷ take m (g ++ u))
    by_test true x y e f go k = f ∙ ap (λ z. b ∷ z) (go (let l = ap length e in omega (arith, l, k))) ∙ sym e
    by_test false x y e f go k = f ∙ sym e

module _ (u v : List ℕ) where
  -- Where the last byte of a front is a backslash, a newline stands behind it in both texts or in none.
  unfoldable pub Fine : List ℕ → Type 0
  Fine [] = Unit {0}
  Fine (b ∷ []) = (b == 92) ≡ true → begins_with newline u ≡ begins_with newline v
  Fine (b ∷ c ∷ g) = Fine (c ∷ g)

  pub fine_tail : (b : ℕ) (g : List ℕ) → Fine (b ∷ g) → Fine g
  unfolding Fine
  fine_tail b [] f = tt
  fine_tail b (c ∷ g) f = f

  fine_drop : (j : ℕ) (g : List ℕ) → Fine g → Fine (drop j g)
  fine_drop zero g f = f
  fine_drop (suc j) [] f = f
  fine_drop (suc j) (b ∷ g) f = fine_drop j g (fine_tail b g f)

  joins_by : (t : Bool) (x y : Bool) → (t ≡ true → x ≡ y) → (t && x) ≡ (t && y)
  joins_by true x y h = h refl
  joins_by false x y h = refl

  joins_same : (b : ℕ) (g : List ℕ) → Fine (b ∷ g) → joins_lines b (g ++ v) ≡ joins_lines b (g ++ u)
  unfolding Fine
  joins_same b [] f = sym (joins_by (b == 92) (begins_with newline u) (begins_with newline v) f)
  joins_same b (c ∷ g) f = refl

  abbrev Same : List ℕ → List ℕ → Type 0
  Same r s = length u < length r → (h : List ℕ) × (r ≡ h ++ u) × (s ≡ h ++ v) × Fine h

  same_if : (t : Bool) (x y z w : List ℕ) → Same x z → Same y w → Same (if t then x else y) (if t then z else w)
  same_if true x y z w h k = h
  same_if false x y z w h k = k

  same_joins : (t s : Bool) (x y z w : List ℕ) → s ≡ t → Same x z → Same y w → Same (if t then x else y) (if s then z else w)
  same_joins t s x y z w e h k = subst (λ q. Same (if t then x else y) (if q then z else w)) (sym e) (same_if t x y z w h k)

  same_front : (g : List ℕ) → Fine g → Same (g ++ u) (g ++ v)
  same_front g f = λ lt. (g, refl, refl, f)

  never : (r s : List ℕ) → length r ≤ length u → Same r s
  never r s le = λ lt. absurd (omega (arith, le, lt))

  pub skip_same : (m : Before) (g : List ℕ) → Fine g → Same (skip m (g ++ u)) (skip m (g ++ v))
  unfolding skip
  skip_same m [] f = never (skip m u) (skip m v) (skip_within m u)
  skip_same between (b ∷ g) f =
      same_if (is_blank b || ends_command b) (skip between (g ++ u)) (if joins_lines b (g ++ u) then skip joining (g ++ u) else if b == 35 then skip comment (g ++ u) else b ∷ g ++ u)
      (skip between (g ++ v)) (if joins_lines b (g ++ v) then skip joining (g ++ v) else if b == 35 then skip comment (g ++ v) else b ∷ g ++ v)
      (skip_same between g (fine_tail b g f))
      (same_joins (joins_lines b (g ++ u)) (joins_lines b (g ++ v)) (skip joining (g ++ u)) (if b == 35 then skip comment (g ++ u) else b ∷ g ++ u) (skip joining (g ++ v)) (if b == 35 then skip comment (g ++ v) else b ∷ g ++ v) (joins_same b g f)
      (skip_same joining g (fine_tail b g f))
      (same_if (b == 35) (skip comment (g ++ u)) (b ∷ g ++ u) (skip comment (g ++ v)) (b ∷ g ++ v) (skip_same comment g (fine_tail b g f)) (same_front (b ∷ g) f)))
  skip_same joining (b ∷ g) f = skip_same between g (fine_tail b g f)
  skip_same comment (b ∷ g) f =
      same_if (b == 10) (skip between (g ++ u)) (if b == 92 then skip escaped (g ++ u) else skip comment (g ++ u)) (skip between (g ++ v)) (if b == 92 then skip escaped (g ++ v) else skip comment (g ++ v))
      (skip_same between g (fine_tail b g f))
      (same_if (b == 92) (skip escaped (g ++ u)) (skip comment (g ++ u)) (skip escaped (g ++ v)) (skip comment (g ++ v)) (skip_same escaped g (fine_tail b g f)) (skip_same comment g (fine_tail b g f)))
  skip_same escaped (b ∷ g) f = skip_same comment g (fine_tail b g f)

  blanks_same : (m : Bool) (g : List ℕ) → Fine g → Same (skip_blanks m (g ++ u)) (skip_blanks m (g ++ v))
  unfolding skip_blanks
  blanks_same m [] f = never (skip_blanks m u) (skip_blanks m v) (skip_blanks_within m u)
  blanks_same true (b ∷ g) f = blanks_same false g (fine_tail b g f)
  blanks_same false (b ∷ g) f =
      same_if (is_blank b) (skip_blanks false (g ++ u)) (if joins_lines b (g ++ u) then skip_blanks true (g ++ u) else b ∷ g ++ u) (skip_blanks false (g ++ v)) (if joins_lines b (g ++ v) then skip_blanks true (g ++ v) else b ∷ g ++ v)
      (blanks_same false g (fine_tail b g f))
      (same_joins (joins_lines b (g ++ u)) (joins_lines b (g ++ v)) (skip_blanks true (g ++ u)) (b ∷ g ++ u) (skip_blanks true (g ++ v)) (b ∷ g ++ v) (joins_same b g f) (blanks_same true g (fine_tail b g f)) (same_front (b ∷ g) f))

  margin_same : (g : List ℕ) → Fine g → Same (skip_margin (g ++ u)) (skip_margin (g ++ v))
  unfolding skip_margin
  margin_same [] f = never (skip_margin u) (skip_margin v) (margin_within u)
  margin_same (b ∷ g) f = same_if ((b == 32) || (b == 9)) (skip_margin (g ++ u)) (b ∷ g ++ u) (skip_margin (g ++ v)) (b ∷ g ++ v) (margin_same g (fine_tail b g f)) (same_front (b ∷ g) f)

  -- bytes and what is left behind them
  abbrev Pairs : List ℕ × List ℕ → List ℕ × List ℕ → Type 0
  Pairs x y = length u < length x.1 → (h : List ℕ) × (x.1 ≡ h ++ u) × (y ≡ (x.0, h ++ v)) × Fine h

  pairs_if : (t : Bool) (x y z w : List ℕ × List ℕ) → Pairs x z → Pairs y w → Pairs (if◌then◌else◌ {A = List ℕ × List ℕ} t x y) (if◌then◌else◌ {A = List ℕ × List ℕ} t z w)
  pairs_if true x y z w h k = h
  pairs_if false x y z w h k = k

  pairs_same : (bs r s : List ℕ) → Same r s → Pairs (bs, r) (bs, s)
  pairs_same bs r s h = λ lt. let z = h lt in (z.0, z.1, ap (λ (q : List ℕ). (bs, q)) z.2, z.3)

  drop_same : (j : ℕ) (g : List ℕ) → Fine g → Same (drop j (g ++ u)) (drop j (g ++ v))
  drop_same j g f = λ lt.
      let le : j ≤ length g = omega (arith, lt, length-drop j (g ++ u), length-append g u) in
      (drop j g, drop-append-le j g u le, drop-append-le j g v le, fine_drop j g f)

  -- as many digits as stand in the front
  digits_in : (j : ℕ) (g : List ℕ) → length u < length (drop j (g ++ u)) → j < length g
  digits_in j g lt = omega (arith, lt, length-drop j (g ++ u), length-append g u)

  letter_same : (letter base : ℕ) (ds es : List ℕ) (f : ℕ → List ℕ) (g : List ℕ) → Fine g → (length ds < length g → es ≡ ds) → Pairs (letter_and_digits letter base ds f (g ++ u)) (letter_and_digits letter base es f (g ++ v))
  letter_same letter base [] es f g fine e = λ lt.
      let s = e (omega (arith, lt, length-append g u)) in
      (g, refl, ap (λ z. letter_and_digits letter base z f (g ++ v)) s, fine)
  letter_same letter base (d ∷ ds) es f g fine e = λ lt.
      let s = e (digits_in (length (d ∷ ds)) g lt) in
      let z = drop_same (length (d ∷ ds)) g fine lt in
      (z.0, z.1, ap (λ q. letter_and_digits letter base q f (g ++ v)) s ∙ ap (λ (q : List ℕ). (f (value_of base (d ∷ ds)), q)) z.2, z.3)

  all_leading : (t : List ℕ) → leading_digits 16 (length t) t ≡ take_while (is_digit 16) t
  all_leading t = ap (take_while (is_digit 16)) (take_all (length t) t (omega arith))

  hex_local : (g : List ℕ) → length (leading_digits 16 (length (g ++ u)) (g ++ u)) < length g → leading_digits 16 (length (g ++ v)) (g ++ v) ≡ leading_digits 16 (length (g ++ u)) (g ++ u)
  hex_local g lt =
      let m = length (g ++ u) + length (g ++ v) in
      let a : take m (g ++ u) ≡ g ++ u = take_all m (g ++ u) (omega arith) in
      let b : take m (g ++ v) ≡ g ++ v = take_all m (g ++ v) (omega arith) in
      let e : take_while (is_digit 16) (take m (g ++ u)) ≡ leading_digits 16 (length (g ++ u)) (g ++ u) = ap (take_while (is_digit 16)) a ∙ sym (all_leading (g ++ u)) in
      let f : take_while (is_digit 16) (take m (g ++ v)) ≡ leading_digits 16 (length (g ++ v)) (g ++ v) = ap (take_while (is_digit 16)) b ∙ sym (all_leading (g ++ v)) in
      sym f ∙ leading_local (is_digit 16) m g u v (subst (λ z. length z < length g) (sym e) lt) ∙ e

  octal_same : (g : List ℕ) → Fine g → Pairs (octal_form (g ++ u)) (octal_form (g ++ v))
  octal_same g f = λ lt.
      let ds = leading_digits 8 3 (g ++ u) in
      let e : leading_digits 8 3 (g ++ v) ≡ ds = leading_local (is_digit 8) 3 g u v (digits_in (length ds) g lt) in
      let z = drop_same (length ds) g f lt in
      (z.0, z.1, ap (λ q. (low_byte (value_of 8 q), drop (length q) (g ++ v))) e ∙ ap (λ (q : List ℕ). (low_byte (value_of 8 ds), q)) z.2, z.3)

  escape_same : (g : List ℕ) → Fine g → Pairs (escape_of (g ++ u)) (escape_of (g ++ v))
  unfolding escape_of
  escape_same [] f = λ lt. absurd (omega (arith, lt, escape_within u))
  escape_same (b ∷ g) f =
      let k = fine_tail b g f in
      let four : ((w : List ℕ) → List ℕ × List ℕ) = λ w. (letter_form b ∷ [], w) in
      let three : ((w : List ℕ) → List ℕ × List ℕ) = λ w. if◌then◌else◌ {A = List ℕ × List ℕ} (b == 117) (character_form w) (four w) in
      let two : ((w : List ℕ) → List ℕ × List ℕ) = λ w. if◌then◌else◌ {A = List ℕ × List ℕ} (b == 120) (byte_form w) (three w) in
      let one : ((w : List ℕ) → List ℕ × List ℕ) = λ w. if◌then◌else◌ {A = List ℕ × List ℕ} (nat_lt (digit_of b) 8) (octal_form (b ∷ w)) (two w) in
      pairs_if (b == 10) (32 ∷ [], skip_margin (g ++ u)) (one (g ++ u)) (32 ∷ [], skip_margin (g ++ v)) (one (g ++ v)) (pairs_same (32 ∷ []) (skip_margin (g ++ u)) (skip_margin (g ++ v)) (margin_same g k))
      (pairs_if (nat_lt (digit_of b) 8) (octal_form (b ∷ g ++ u)) (two (g ++ u)) (octal_form (b ∷ g ++ v)) (two (g ++ v)) (octal_same (b ∷ g) f)
      (pairs_if (b == 120) (byte_form (g ++ u)) (three (g ++ u)) (byte_form (g ++ v)) (three (g ++ v)) (letter_same 120 16 (leading_digits 16 (length (g ++ u)) (g ++ u)) (leading_digits 16 (length (g ++ v)) (g ++ v)) low_byte g k (hex_local g))
      (pairs_if (b == 117) (character_form (g ++ u)) (four (g ++ u)) (character_form (g ++ v)) (four (g ++ v)) (letter_same 117 16 (leading_digits 16 4 (g ++ u)) (leading_digits 16 4 (g ++ v)) utf8 g k (leading_local (is_digit 16) 4 g u v))
      (pairs_same (letter_form b ∷ []) (g ++ u) (g ++ v) (same_front g k)))))

  abbrev BracedMoves : Option (List ℕ × List ℕ) → Option (List ℕ × List ℕ) → Type 0
  BracedMoves None q = Unit {0}
  BracedMoves (Some x) q = length u < length x.1 → (h : List ℕ) × (x.1 ≡ h ++ u) × (q ≡ Some (x.0, h ++ v)) × Fine h

  -- The same, for one that tests choose.
  record BracedSame (x y : Option (List ℕ × List ℕ)) : Type 0 where
    moves : BracedMoves x y

  braced_if : (t : Bool) {x y z w : Option (List ℕ × List ℕ)} → BracedSame x z → BracedSame y w → BracedSame (if t then x else y) (if t then z else w)
  braced_if true h k = h
  braced_if false h k = k

  braced_joins : (t s : Bool) {x y z w : Option (List ℕ × List ℕ)} → s ≡ t → BracedSame x z → BracedSame y w → BracedSame (if t then x else y) (if s then z else w)
  braced_joins t s {x} {y} {z} {w} e h k = subst (λ q. BracedSame (if t then x else y) (if q then z else w)) (sym e) (braced_if t h k)

  braced_front : (bs : List ℕ) {x z : Option (List ℕ × List ℕ)} → BracedSame x z → BracedSame (in_front bs x) (in_front bs z)
  braced_front bs {x = None} h = record { moves = tt }
  braced_front bs {x = Some x} h = record { moves = λ lt. let k = h.moves lt in (k.0, k.1, ap (in_front bs) k.2, k.3) }

  braced_rest : (g : List ℕ) → Fine g → BracedSame (Some ([], g ++ u)) (Some ([], g ++ v))
  braced_rest g f = record { moves = λ lt. (g, refl, refl, f) }

  -- what is left has no more bytes than u
  abbrev LeavesLate : Option (List ℕ × List ℕ) → Type 0
  LeavesLate None = Unit {0}
  LeavesLate (Some x) = length x.1 ≤ length u

  record Late (x : Option (List ℕ × List ℕ)) : Type 0 where
    late : LeavesLate x

  late_if : (t : Bool) {x y : Option (List ℕ × List ℕ)} → Late x → Late y → Late (if t then x else y)
  late_if true h k = h
  late_if false h k = k

  late_front : (bs : List ℕ) {x : Option (List ℕ × List ℕ)} → Late x → Late (in_front bs x)
  late_front bs {x = None} h = record { late = tt }
  late_front bs {x = Some x} h = record { late = h.late }

  late_rest : (t : List ℕ) → length t ≤ length u → Late (Some ([], t))
  late_rest t le = record { late = le }

  braced_late : (m : Inside) (n : ℕ) (t : List ℕ) → length t ≤ length u → Late (braced m n t)
  unfolding braced
  braced_late m n [] le = record { late = tt }
  braced_late m n (b ∷ t) le =
      let k : length t ≤ length u = omega (arith, le) in
      late_if (passes m b) (braced_late braces.margin n t k)
      (late_if (is_escaped m) (late_front (b ∷ []) (braced_late braces.plain n t k))
      (late_if (joins_lines b t) (late_front (32 ∷ []) (braced_late braces.joining n t k))
      (late_if (b == 92) (late_front (b ∷ []) (braced_late braces.escaped n t k))
      (late_if (b == 123) (late_front (b ∷ []) (braced_late braces.plain (n + 1) t k))
      (late_if (b == 125) (late_if (n == 0) (late_rest t k) (late_front (b ∷ []) (braced_late braces.plain (n - 1) t k)))
      (late_front (b ∷ []) (braced_late braces.plain n t k)))))))

  late_same : (x y : Option (List ℕ × List ℕ)) → Late x → BracedSame x y
  late_same None y h = record { moves = tt }
  late_same (Some x) y h = let le : length x.1 ≤ length u = h.late in record { moves = λ lt. absurd (omega (arith, lt, le)) }

  braced_same : (m : Inside) (n : ℕ) (g : List ℕ) → Fine g → BracedSame (braced m n (g ++ u)) (braced m n (g ++ v))
  unfolding braced
  braced_same m n [] f = late_same (braced m n u) (braced m n v) (braced_late m n u (omega arith))
  braced_same m n (b ∷ g) f =
      let k = fine_tail b g f in
      braced_if (passes m b) (braced_same braces.margin n g k)
      (braced_if (is_escaped m) (braced_front (b ∷ []) (braced_same braces.plain n g k))
      (braced_joins (joins_lines b (g ++ u)) (joins_lines b (g ++ v)) (joins_same b g f) (braced_front (32 ∷ []) (braced_same braces.joining n g k))
      (braced_if (b == 92) (braced_front (b ∷ []) (braced_same braces.escaped n g k))
      (braced_if (b == 123) (braced_front (b ∷ []) (braced_same braces.plain (n + 1) g k))
      (braced_if (b == 125) (braced_if (n == 0) (braced_rest g k) (braced_front (b ∷ []) (braced_same braces.plain (n - 1) g k)))
      (braced_front (b ∷ []) (braced_same braces.plain n g k)))))))

  -- the first such byte, where it stands in the front
  place_by : (t s : Bool) (j i : ℕ) (g : List ℕ) → Fine g → (j < length g → (t ≡ true) × (s ≡ true) × (i ≡ j)) → (j ≡ length g) ⊎ (j < length g) → (jj : ℕ) → (j ≡ length g → length g ≤ jj) → (j < length g → jj ≡ j)
      → BracedSame (option_map (λ k. (take k (g ++ u), drop (k + 1) (g ++ u))) (cond t (Some jj) None)) (option_map (λ k. (take k (g ++ v), drop (k + 1) (g ++ v))) (cond s (Some i) None))
  place_by true s j i g f h (inl q) jj far near =
      let le = far q in
      record { moves = λ lt. absurd (omega (arith, lt, le, length-drop (jj + 1) (g ++ u), length-append g u)) }
  place_by false s j i g f h (inl q) jj far near = record { moves = tt }
  place_by t s j i g f h (inr lt) jj far near =
      let p = h lt in
      let e : jj ≡ j = near lt in
      let le : j ≤ length g = omega (arith, lt) in
      let le1 : j + 1 ≤ length g = omega (arith, lt) in
      let x : option_map (λ k. (take k (g ++ u), drop (k + 1) (g ++ u))) (cond t (Some jj) None) ≡ Some (take j g, drop (j + 1) g ++ u) = rw (p.0, e) (rw (take-append-le j g u le, drop-append-le (j + 1) g u le1) refl) in
      let y : option_map (λ k. (take k (g ++ v), drop (k + 1) (g ++ v))) (cond s (Some i) None) ≡ Some (take j g, drop (j + 1) g ++ v) = rw (p.1, p.2) (rw (take-append-le j g v le, drop-append-le (j + 1) g v le1) refl) in
      subst (λ z. BracedSame z (option_map (λ k. (take k (g ++ v), drop (k + 1) (g ++ v))) (cond s (Some i) None))) (sym x) (record { moves = λ l. (drop (j + 1) g, refl, y, fine_drop (j + 1) g f) })

  prefix_cases : (p : ℕ → Bool) (g w : List ℕ) → (prefix_len p g < length g → prefix_len p (g ++ w) ≡ prefix_len p g) × (prefix_len p g ≡ length g → length g ≤ prefix_len p (g ++ w))
  prefix_cases p g w = (near, far)
    where
      near : prefix_len p g < length g → prefix_len p (g ++ w) ≡ prefix_len p g
      near lt =
          let ne : (prefix_len p g == length g) ≡ false = ne_eqb (prefix_len p g) (length g) (λ e. absurd (omega (arith, e, lt))) in
          prefix_len-append p g w ∙ ap (λ z. cond z (length g + prefix_len p w) (prefix_len p g)) ne

      same_cond : (n k a b : ℕ) → n ≡ k → cond (n == k) a b ≡ a
      same_cond n k a b e = grind (arith, nat_tests)

      far : prefix_len p g ≡ length g → length g ≤ prefix_len p (g ++ w)
      far q = let e = prefix_len-append p g w ∙ same_cond (prefix_len p g) (length g) (length g + prefix_len p w) (prefix_len p g) q in omega (arith, e)

  up_to_same : (c : ℕ) (g : List ℕ) → Fine g → BracedSame (up_to c (g ++ u)) (up_to c (g ++ v))
  up_to_same c g f =
      let a = prefix_cases (λ b. not (b == c)) g u in
      let d = prefix_cases (λ b. not (b == c)) g v in
      place_by (nat_lt (position_or_len (λ b. b == c) (g ++ u)) (length (g ++ u))) (nat_lt (position_or_len (λ b. b == c) (g ++ v)) (length (g ++ v))) (position_or_len (λ b. b == c) g) (position_or_len (λ b. b == c) (g ++ v)) g f
      (λ lt. let p = a.0 lt in let q = d.0 lt in
      (lt-ltb (position_or_len (λ b. b == c) (g ++ u)) (length (g ++ u)) (omega (arith, p, lt, length-append g u)), lt-ltb (position_or_len (λ b. b == c) (g ++ v)) (length (g ++ v)) (omega (arith, q, lt, length-append g v)), q))
      (eq-or-lt_of_le (prefix_len-le-length (λ b. not (b == c)) g)) (position_or_len (λ b. b == c) (g ++ u)) a.1 a.0

  abbrev pub SubMoves : Substitution → Step → Type 0
  SubMoves (named x r) q = length u < length r → (h : List ℕ) × (r ≡ h ++ u) × (q ≡ substituted (named x (h ++ v))) × Fine h
  SubMoves (indexed x r) q = length u ≤ length r → (h : List ℕ) × (r ≡ h ++ u) × (q ≡ substituted (indexed x (h ++ v))) × Fine h
  SubMoves (opened r) q = length u ≤ length r → (h : List ℕ) × (r ≡ h ++ u) × (q ≡ substituted (opened (h ++ v))) × Fine h
  SubMoves unnamed q = Unit {0}

  abbrev pub StepMoves : Step → Step → Type 0
  StepMoves ends q = q ≡ ends
  StepMoves (bytes bs r) q = length u < length r → (h : List ℕ) × (r ≡ h ++ u) × (q ≡ bytes bs (h ++ v)) × Fine h
  StepMoves (substituted s) q = SubMoves s q

  pub record StepSame (x y : Step) : Type 0 where
    pub moves : StepMoves x y

  step_if : (t : Bool) {x y z w : Step} → StepSame x z → StepSame y w → StepSame (if t then x else y) (if t then z else w)
  step_if true h k = h
  step_if false h k = k

  step_choice : (t s : Bool) {x y z w : Step} → s ≡ t → StepSame x z → StepSame y w → StepSame (if t then x else y) (if s then z else w)
  step_choice t s {x} {y} {z} {w} e h k = subst (λ q. StepSame (if t then x else y) (if q then z else w)) (sym e) (step_if t h k)

  between_same : (x y : Option (List ℕ × List ℕ)) → BracedSame x y → StepSame (between_braces x) (between_braces y)
  between_same None y h = record { moves = tt }
  between_same (Some x) y h = record { moves = λ lt. let k = h.moves lt in (k.0, k.1, ap between_braces k.2, k.3) }

  -- a step that goes past the front
  abbrev StepLate : Step → Type 0
  StepLate ends = ⊥
  StepLate (bytes bs r) = length r ≤ length u
  StepLate (substituted (named x r)) = length r ≤ length u
  StepLate (substituted (indexed x r)) = length r < length u
  StepLate (substituted (opened r)) = length r < length u
  StepLate (substituted unnamed) = Unit {0}

  record LateStep (x : Step) : Type 0 where
    late : StepLate x

  late_step_if : (t : Bool) {x y : Step} → LateStep x → LateStep y → LateStep (if t then x else y)
  late_step_if true h k = h
  late_step_if false h k = k

  late_moves : (x y : Step) → StepLate x → StepMoves x y
  late_moves ends y h = absurd h
  late_moves (bytes bs r) y h = λ lt. absurd (omega (arith, lt, h))
  late_moves (substituted (named x r)) y h = λ lt. absurd (omega (arith, lt, h))
  late_moves (substituted (indexed x r)) y h = λ lt. absurd (omega (arith, lt, h))
  late_moves (substituted (opened r)) y h = λ lt. absurd (omega (arith, lt, h))
  late_moves (substituted unnamed) y h = tt

  late_behind : (x t : List ℕ) → length t ≤ length u → LateStep (behind_name x t)
  late_behind x [] le = record { late = omega (arith, le) }
  late_behind x (b ∷ t) le = late_step_if (b == 40) (record { late = omega (arith, le) }) (record { late = le })

  late_name : (x t : List ℕ) → length t ≤ length u → LateStep (by_name x t)
  late_name [] t le = record { late = le }
  late_name (b ∷ x) t le = late_behind (b ∷ x) t le

  late_between : (c : Bool) (i : ℕ) (t : List ℕ) → length t ≤ length u → LateStep (between_braces (option_map (λ k. (take k t, drop (k + 1) t)) (cond c (Some i) None)))
  late_between true i t le = record { late = omega (arith, le, length-drop (i + 1) t) }
  late_between false i t le = record { late = tt }

  late_dollar : (t : List ℕ) → length t ≤ length u → LateStep (behind_dollar t)
  late_dollar [] le = record { late = omega arith }
  late_dollar (b ∷ t) le =
      late_step_if (b == 123) (late_between (nat_lt (position_or_len (λ k. k == 125) t) (length t)) (position_or_len (λ k. k == 125) t) t (omega (arith, le)))
      (late_name (name_at (b ∷ t)).0 (name_at (b ∷ t)).1 (omega (arith, le, length-drop (prefix_len is_name (b ∷ t)) (b ∷ t))))

  behind_same : (x g : List ℕ) → 0 < length g → Fine g → StepSame (behind_name x (g ++ u)) (behind_name x (g ++ v))
  behind_same x [] lt f = absurd (omega (arith, lt))
  behind_same x (b ∷ g) lt f = step_if (b == 40) (record { moves = λ l. (g, refl, refl, fine_tail b g f) }) (record { moves = λ l. (b ∷ g, refl, refl, f) })

  by_name_same : (x g : List ℕ) → 0 < length g → Fine g → StepSame (by_name x (g ++ u)) (by_name x (g ++ v))
  by_name_same [] g lt f = record { moves = λ l. (g, refl, refl, f) }
  by_name_same (b ∷ x) g lt f = behind_same (b ∷ x) g lt f

  name_near : (g w : List ℕ) → prefix_len is_name g < length g → name_at (g ++ w) ≡ (take (prefix_len is_name g) g, drop (prefix_len is_name g) g ++ w)
  name_near g w lt =
      let e = (prefix_cases is_name g w).0 lt in
      let le : prefix_len is_name g ≤ length g = omega (arith, lt) in
      rw (e, take-append-le (prefix_len is_name g) g w le, drop-append-le (prefix_len is_name g) g w le) refl

  name_by : (g : List ℕ) → Fine g → (prefix_len is_name g ≡ length g) ⊎ (prefix_len is_name g < length g) → StepSame (by_name (name_at (g ++ u)).0 (name_at (g ++ u)).1) (by_name (name_at (g ++ v)).0 (name_at (g ++ v)).1)
  name_by g f (inl q) =
      let le = (prefix_cases is_name g u).1 q in
      let s = late_name (name_at (g ++ u)).0 (name_at (g ++ u)).1 (omega (arith, le, length-drop (prefix_len is_name (g ++ u)) (g ++ u), length-append g u)) in
      record { moves = late_moves (by_name (name_at (g ++ u)).0 (name_at (g ++ u)).1) (by_name (name_at (g ++ v)).0 (name_at (g ++ v)).1) s.late }
  name_by g f (inr lt) =
      let j = prefix_len is_name g in
      let s = by_name_same (take j g) (drop j g) (omega (arith, lt, length-drop j g)) (fine_drop j g f) in
      let a = subst (λ z. StepSame (by_name z.0 z.1) (by_name (take j g) (drop j g ++ v))) (sym (name_near g u lt)) s in
      subst (λ z. StepSame (by_name (name_at (g ++ u)).0 (name_at (g ++ u)).1) (by_name z.0 z.1)) (sym (name_near g v lt)) a

  dollar_same : (g : List ℕ) → Fine g → StepSame (behind_dollar (g ++ u)) (behind_dollar (g ++ v))
  dollar_same [] f = record { moves = late_moves (behind_dollar u) (behind_dollar v) (late_dollar u (omega arith)).late }
  dollar_same (b ∷ g) f =
      step_if (b == 123) (between_same (up_to 125 (g ++ u)) (up_to 125 (g ++ v)) (up_to_same 125 g (fine_tail b g f)))
      (name_by (b ∷ g) f (eq-or-lt_of_le (prefix_len-le-length is_name (b ∷ g))))

  pub step_same : (b : ℕ) (g : List ℕ) → Fine (b ∷ g) → StepSame (step_at (b ∷ g ++ u)) (step_at (b ∷ g ++ v))
  step_same b g f =
      let k = fine_tail b g f in
      step_if (b == 92) (record { moves = λ lt. let z = escape_same g k lt in (z.0, z.1, ap (λ (q : List ℕ × List ℕ). bytes q.0 q.1) z.2, z.3) })
      (step_if (b == 36) (dollar_same g k)
      (step_if (b == 91) (record { moves = λ l. (g, refl, refl, k) }) (record { moves = λ l. (g, refl, refl, k) })))

  ends_same : (nested : Bool) (b : ℕ) (g : List ℕ) → Fine (b ∷ g) → ends_word nested (b ∷ g ++ v) ≡ ends_word nested (b ∷ g ++ u)
  ends_same nested b g f = ap (λ (z : Bool). is_blank b || ends_command b || closes nested b || z) (joins_same b g f)

  stops_same : (m : Mode) (b : ℕ) (g : List ℕ) → Fine (b ∷ g) → stops m (b ∷ g ++ v) ≡ stops m (b ∷ g ++ u)
  stops_same (bare_word nested) b g f = ends_same nested b g f
  stops_same quotes b g f = refl
  stops_same index b g f = refl

  next_same : (m : Mode) (b : ℕ) (g : List ℕ) → Fine (b ∷ g) → StepSame (next m (b ∷ g ++ u)) (next m (b ∷ g ++ v))
  next_same m b g f = step_choice (stops m (b ∷ g ++ u)) (stops m (b ∷ g ++ v)) (stops_same m b g f) (record { moves = refl }) (step_same b g f)

  -- it ends in the front, or has a fault there that no more bytes can mend
  abbrev pub Early : {A : Type 0} → Outcome A → Type 0
  Early (done x r) = length u < length r
  Early (fault k n) = length u < fault_place k n

  -- the same outcome for the other text is as Q says
  abbrev pub Moved : {A : Type 0} → (Outcome A → Type 0) → Outcome A → Type 0
  Moved Q (done x r) = (h : List ℕ) × (r ≡ h ++ u) × Fine h × Q (done x (h ++ v))
  Moved Q (fault k n) = (c : ℕ) × (n + length v ≡ c + length u) × Q (fault k c)

  moved_map : {A : Type 0} (Q R : Outcome A → Type 0) → ((o : Outcome A) → Q o → R o) → (o : Outcome A) → Moved Q o → Moved R o
  moved_map Q R f (done x r) z = (z.0, z.1, z.2, f (done x (z.0 ++ v)) z.3)
  moved_map Q R f (fault k n) z = (z.0, z.1, f (fault k z.0) z.2)

  moved_put : {A : Type 0} (x : A) (Q R : Outcome (List A) → Type 0) → ((o : Outcome (List A)) → Q o → R (put x o)) → (o : Outcome (List A)) → Moved Q o → Moved R (put x o)
  moved_put x Q R f (done y r) z = (z.0, z.1, z.2, f (done y (z.0 ++ v)) z.3)
  moved_put x Q R f (fault k n) z = (z.0, z.1, f (fault k z.0) z.2)

  moved_text : (bs : List ℕ) (Q R : Outcome Word → Type 0) → ((o : Outcome Word) → Q o → R (put_text bs o)) → (o : Outcome Word) → Moved Q o → Moved R (put_text bs o)
  moved_text bs Q R f (done y r) z = (z.0, z.1, z.2, f (done y (z.0 ++ v)) z.3)
  moved_text bs Q R f (fault k n) z = (z.0, z.1, f (fault k z.0) z.2)

  early_put : {A : Type 0} (x : A) (o : Outcome (List A)) → Early (put x o) → Early o
  early_put x (done y r) e = e
  early_put x (fault k n) e = e

  early_text : (bs : List ℕ) (o : Outcome Word) → Early (put_text bs o) → Early o
  early_text bs (done y r) e = e
  early_text bs (fault k n) e = e

  pub early_less : {A : Type 0} (o : Outcome A) (n : ℕ) → Within o n → Early o → length u < n
  early_less (done x r) n w e = omega (arith, w, e)
  early_less (fault k m) n w e = omega (arith, w, e, fault_within k m)

  abbrev pub IsLocal : {A : Type 0} → (List ℕ → Outcome A → Type 0) → Type 0
  IsLocal {A} R = (t : List ℕ) (o : Outcome A) → R t o → (g : List ℕ) → t ≡ g ++ u → Fine g → Early o → Moved (R (g ++ v)) o

  -- behind what is closed by the next byte
  index_early : (left : ℕ) (x : List ℕ) (i : Outcome Word) → Early (close_index left x i) → Early i
  index_early left x (done w []) e = absurd (omega (arith, e))
  index_early left x (done w (b ∷ r)) e = omega (arith, e)
  index_early left x (fault k n) e = e

  bracket_early : (left : ℕ) (i : Outcome Script) → Early (close_bracket left i) → Early i
  bracket_early left (done w []) e = absurd (omega (arith, e))
  bracket_early left (done w (b ∷ r)) e = omega (arith, e)
  bracket_early left (fault k n) e = e

  quote_early : (left : ℕ) (i : Outcome Word) → Early (close_quote left i) → Early i
  quote_early left (done w []) e = absurd (omega (arith, e))
  quote_early left (done w (b ∷ r)) e = omega (arith, e)
  quote_early left (fault k n) e = e

  index_at : (Q : Outcome Word → Type 0) (left other : ℕ) (x : List ℕ) (w : Word) (h : List ℕ) → Fine h → Q (done w (h ++ v)) → Early (close_index left x (done w (h ++ u))) → length u < length (h ++ u)
      → Moved (λ o. (i : Outcome Word) × Q i × (o ≡ close_index other x i)) (close_index left x (done w (h ++ u)))
  index_at Q left other x w [] f q e lt = absurd (omega (arith, lt))
  index_at Q left other x w (b ∷ h) f q e lt = (h, refl, fine_tail b h f, (done w (b ∷ h ++ v), q, refl))

  index_moves : (Q : Outcome Word → Type 0) (left other : ℕ) (x : List ℕ) (i : Outcome Word) → Early (close_index left x i) → Moved Q i → Moved (λ o. (i : Outcome Word) × Q i × (o ≡ close_index other x i)) (close_index left x i)
  index_moves Q left other x (fault k n) e z = (z.0, z.1, (fault k z.0, z.2, refl))
  index_moves Q left other x (done w r) e z =
      let k : Early (close_index left x (done w (z.0 ++ u))) → length u < length (z.0 ++ u) → Moved (λ o. (i : Outcome Word) × Q i × (o ≡ close_index other x i)) (close_index left x (done w (z.0 ++ u))) = index_at Q left other x w z.0 z.2 z.3 in
      let lt : length u < length r = index_early left x (done w r) e in
      subst (λ y. Early (close_index left x (done w y)) → length u < length y → Moved (λ o. (i : Outcome Word) × Q i × (o ≡ close_index other x i)) (close_index left x (done w y))) (sym z.1) k e lt

  bracket_at : (Q : Outcome Script → Type 0) (left other : ℕ) (w : Script) (h : List ℕ) → Fine h → Q (done w (h ++ v)) → Early (close_bracket left (done w (h ++ u))) → length u < length (h ++ u)
      → Moved (λ o. (i : Outcome Script) × Q i × (o ≡ close_bracket other i)) (close_bracket left (done w (h ++ u)))
  bracket_at Q left other w [] f q e lt = absurd (omega (arith, lt))
  bracket_at Q left other w (b ∷ h) f q e lt = (h, refl, fine_tail b h f, (done w (b ∷ h ++ v), q, refl))

  bracket_moves : (Q : Outcome Script → Type 0) (left other : ℕ) (i : Outcome Script) → Early (close_bracket left i) → Moved Q i → Moved (λ o. (i : Outcome Script) × Q i × (o ≡ close_bracket other i)) (close_bracket left i)
  bracket_moves Q left other (fault k n) e z = (z.0, z.1, (fault k z.0, z.2, refl))
  bracket_moves Q left other (done w r) e z =
      let k : Early (close_bracket left (done w (z.0 ++ u))) → length u < length (z.0 ++ u) → Moved (λ o. (i : Outcome Script) × Q i × (o ≡ close_bracket other i)) (close_bracket left (done w (z.0 ++ u))) = bracket_at Q left other w z.0 z.2 z.3 in
      let lt : length u < length r = bracket_early left (done w r) e in
      subst (λ y. Early (close_bracket left (done w y)) → length u < length y → Moved (λ o. (i : Outcome Script) × Q i × (o ≡ close_bracket other i)) (close_bracket left (done w y))) (sym z.1) k e lt

  quote_at : (Q : Outcome Word → Type 0) (left other : ℕ) (w : Word) (h : List ℕ) → Fine h → Q (done w (h ++ v)) → Early (close_quote left (done w (h ++ u))) → length u < length (h ++ u)
      → Moved (λ o. (i : Outcome Word) × Q i × (o ≡ close_quote other i)) (close_quote left (done w (h ++ u)))
  quote_at Q left other w [] f q e lt = absurd (omega (arith, lt))
  quote_at Q left other w (b ∷ h) f q e lt = (h, refl, fine_tail b h f, (done w (b ∷ h ++ v), q, refl))

  quote_moves : (Q : Outcome Word → Type 0) (left other : ℕ) (i : Outcome Word) → Early (close_quote left i) → Moved Q i → Moved (λ o. (i : Outcome Word) × Q i × (o ≡ close_quote other i)) (close_quote left i)
  quote_moves Q left other (fault k n) e z = (z.0, z.1, (fault k z.0, z.2, refl))
  quote_moves Q left other (done w r) e z =
      let k : Early (close_quote left (done w (z.0 ++ u))) → length u < length (z.0 ++ u) → Moved (λ o. (i : Outcome Word) × Q i × (o ≡ close_quote other i)) (close_quote left (done w (z.0 ++ u))) = quote_at Q left other w z.0 z.2 z.3 in
      let lt : length u < length r = quote_early left (done w r) e in
      subst (λ y. Early (close_quote left (done w y)) → length u < length y → Moved (λ o. (i : Outcome Word) × Q i × (o ≡ close_quote other i)) (close_quote left (done w y))) (sym z.1) k e lt

  -- behind a word's closing byte
  followed_early : (nested : Bool) (o : Outcome Word) → Early (followed nested o) → Early o
  followed_early nested (fault k n) e = e
  followed_early nested (done w r) e = either_way (ends_word nested r) e
    where
      either_way : (t : Bool) → Early (if t then done w r else fault Extra (length r)) → length u < length r
      either_way true e = e
      either_way false e = e

  followed_by : (t s : Bool) (w : Word) (h : List ℕ) → s ≡ t → Fine h → Moved (λ o. o ≡ (if s then done w (h ++ v) else fault Extra (length (h ++ v)))) (if t then done w (h ++ u) else fault Extra (length (h ++ u)))
  followed_by true true w h e f = (h, refl, f, refl)
  followed_by true false w h e f = absurd (cc)
  followed_by false true w h e f = absurd (cc)
  followed_by false false w h e f = (length (h ++ v), omega (arith, length-append h u, length-append h v), refl)

  followed_at : (Q : Outcome Word → Type 0) (nested : Bool) (w : Word) (h : List ℕ) → Fine h → Q (done w (h ++ v)) → length u < length (h ++ u)
      → Moved (λ o. (i : Outcome Word) × Q i × (o ≡ followed nested i)) (followed nested (done w (h ++ u)))
  followed_at Q nested w [] f q lt = absurd (omega (arith, lt))
  followed_at Q nested w (b ∷ h) f q lt =
      moved_map (λ o. o ≡ followed nested (done w (b ∷ h ++ v))) (λ o. (i : Outcome Word) × Q i × (o ≡ followed nested i)) (λ o k. (done w (b ∷ h ++ v), q, k)) (followed nested (done w (b ∷ h ++ u)))
      (followed_by (ends_word nested (b ∷ h ++ u)) (ends_word nested (b ∷ h ++ v)) w (b ∷ h) (ends_same nested b h f) f)

  followed_moves : (Q : Outcome Word → Type 0) (nested : Bool) (i : Outcome Word) → Early (followed nested i) → Moved Q i → Moved (λ o. (i : Outcome Word) × Q i × (o ≡ followed nested i)) (followed nested i)
  followed_moves Q nested (fault k n) e z = (z.0, z.1, (fault k z.0, z.2, refl))
  followed_moves Q nested (done w r) e z =
      let k : length u < length (z.0 ++ u) → Moved (λ o. (i : Outcome Word) × Q i × (o ≡ followed nested i)) (followed nested (done w (z.0 ++ u))) = followed_at Q nested w z.0 z.2 z.3 in
      let lt : length u < length r = followed_early nested (done w r) e in
      subst (λ y. length u < length y → Moved (λ o. (i : Outcome Word) × Q i × (o ≡ followed nested i)) (followed nested (done w y))) (sym z.1) k lt

  module _ (S : List ℕ → Outcome Script → Type 0) (I : List ℕ → Outcome Word → Type 0) (in_s : (t : List ℕ) (o : Outcome Script) → S t o → Within o (length t + 1)) (in_i : (t : List ℕ) (o : Outcome Word) → I t o → Within o (length t + 1)) (S_local : IsLocal S) (I_local : IsLocal I) where
    abbrev ThatStep : Step → ℕ → Outcome Part → Type 0
    ThatStep q left o = (s : Substitution) × (q ≡ substituted s) × PartIs S I left s o

    pub sub_local : (s : Substitution) (q : Step) (left other : ℕ) (o : Outcome Part) → SubMoves s q → PartIs S I left s o → Early o → Moved (ThatStep q other) o
    sub_local (named x r) q left other o f p e =
        let lt : length u < length r = subst Early p e in
        let z = f lt in
        subst (Moved (ThatStep q other)) (sym p) (z.0, z.1, z.3, (named x (z.0 ++ v), z.2, refl))
    sub_local unnamed q left other o f p e = absurd (let lt : length u < 0 = subst Early p e in omega (arith, lt))
    sub_local (indexed x r) q left other o f p e =
        let c = subst Early p.2 e in
        let i = index_early left x p.0 c in
        let lt = early_less p.0 (length r + 1) (in_i r p.0 p.1) i in
        let z = f (omega (arith, lt)) in
        let m = I_local r p.0 p.1 z.0 z.1 z.3 i in
        subst (Moved (ThatStep q other)) (sym p.2) (moved_map (λ o. (i : Outcome Word) × I (z.0 ++ v) i × (o ≡ close_index other x i)) (ThatStep q other) (λ o k. (indexed x (z.0 ++ v), z.2, k)) (close_index left x p.0) (index_moves (I (z.0 ++ v)) left other x p.0 c m))
    sub_local (opened r) q left other o f p e =
        let c = subst Early p.2 e in
        let i = bracket_early (length r + 1) p.0 c in
        let lt = early_less p.0 (length r + 1) (in_s r p.0 p.1) i in
        let z = f (omega (arith, lt)) in
        let m = S_local r p.0 p.1 z.0 z.1 z.3 i in
        subst (Moved (ThatStep q other)) (sym p.2)
        (moved_map (λ o. (i : Outcome Script) × S (z.0 ++ v) i × (o ≡ close_bracket (length (z.0 ++ v) + 1) i)) (ThatStep q other) (λ o k. (opened (z.0 ++ v), z.2, k)) (close_bracket (length r + 1) p.0) (bracket_moves (S (z.0 ++ v)) (length r + 1) (length (z.0 ++ v) + 1) p.0 c m))

    moves_at : (m : Mode) (b : ℕ) (t g : List ℕ) (s : Step) → t ≡ b ∷ g ++ u → Fine (b ∷ g) → next m t ≡ s → StepMoves s (next m (b ∷ g ++ v))
    moves_at m b t g s q f e = subst (λ z. StepMoves z (next m (b ∷ g ++ v))) (subst (λ z. next m z ≡ s) q e) (next_same m b g f).moves

    abbrev NoFront : {A : Type 0} → List ℕ → Outcome A → Type 0
    NoFront t o = t ≡ u → Within o (length t) → Early o → ⊥

    no_front : {A : Type 0} (t : List ℕ) (o : Outcome A) → NoFront t o
    no_front t o q w e = let lt = early_less o (length t) w e in omega (arith, lt, ap length q)

    pub parts_local : (m : Mode) {t : List ℕ} {o : Outcome Word} → PartsAt S I m t o → (g : List ℕ) → t ≡ g ++ u → Fine g → Early o → Moved (PartsAt S I m (g ++ v)) o
    parts_local m {t} {o} h [] q f e = absurd (no_front t o q (parts_within S I in_s in_i m h) e)
    parts_local m {t} (no_part s) (b ∷ g) q f e = (b ∷ g, q, f, no_part (moves_at m b t g ends q f s))
    parts_local m {t} (some_bytes {r = r} {bs = bs} {o = o} s p) (b ∷ g) q f e =
        let i = early_text bs o e in
        let lt = early_less o (length r) (parts_within S I in_s in_i m p) i in
        let z = moves_at m b t g (bytes bs r) q f s lt in
        moved_text bs (PartsAt S I m (z.0 ++ v)) (PartsAt S I m (b ∷ g ++ v)) (λ o k. some_bytes z.2 k) o (parts_local m p z.0 z.1 z.3 i)
    parts_local m {t} (bad_part {s = s} {k = k} {n = n} a p) (b ∷ g) q f e =
        let z = sub_local s (next m (b ∷ g ++ v)) (length t) (length (b ∷ g ++ v)) (fault k n) (moves_at m b t g (substituted s) q f a) p e in
        (z.0, z.1, bad_part z.2.1 z.2.2)
    parts_local m {t} (one_part {r = r} {s = s} x {o = o} a p w) (b ∷ g) q f e =
        let i = early_put x o e in
        let lt : length u < length r = early_less o (length r) (parts_within S I in_s in_i m w) i in
        let z = sub_local s (next m (b ∷ g ++ v)) (length t) (length (b ∷ g ++ v)) (done x r) (moves_at m b t g (substituted s) q f a) p lt in
        moved_put x (PartsAt S I m (z.0 ++ v)) (PartsAt S I m (b ∷ g ++ v)) (λ o k. one_part x z.3.1 z.3.2 k) o (parts_local m w z.0 z.1 z.2 i)

    brace_local : (b : ℕ) (t g : List ℕ) (x : Option (List ℕ × List ℕ)) → t ≡ b ∷ g ++ u → Fine (b ∷ g) → opening t ≡ by_brace → BracedAt (drop 1 t) x → Early (close_brace (length t) x) → Moved (EnclosedAt S I (b ∷ g ++ v)) (close_brace (length t) x)
    brace_local b t g None q f s h e = absurd (omega (arith, e))
    brace_local b t g (Some x) q f s h e =
        let k = braced_is (drop 1 t) (Some x) h in
        let l : braced braces.plain 0 (g ++ u) ≡ Some x = subst (λ z. braced braces.plain 0 (drop 1 z) ≡ Some x) q k in
        let m = subst (λ z. BracedMoves z (braced braces.plain 0 (g ++ v))) l (braced_same braces.plain 0 g (fine_tail b g f)).moves in
        let z = m e in
        let o : opening (b ∷ g ++ v) ≡ by_brace = subst (λ z. opening z ≡ by_brace) q s in
        (z.0, z.1, z.3, in_braces (Some (x.0, z.0 ++ v)) o (reads_matched (g ++ v) x.0 (z.0 ++ v) z.2))

    pub enclosed_local : {t : List ℕ} {o : Outcome Word} → EnclosedAt S I t o → (g : List ℕ) → t ≡ g ++ u → Fine g → Early o → Moved (EnclosedAt S I (g ++ v)) o
    enclosed_local {t} {o} h [] q f e = absurd (no_front t o q (enclosed_within S I in_s in_i h) e)
    enclosed_local {t} (in_braces x s h) (b ∷ g) q f e = brace_local b t g x q f s h e
    enclosed_local {t} (in_quotes {o = o} s p) (b ∷ g) q f e =
        let i = quote_early (length t) o e in
        let p' = subst (λ z. PartsAt S I quotes (drop 1 z) o) q p in
        let m = parts_local quotes p' g refl (fine_tail b g f) i in
        let a : opening (b ∷ g ++ v) ≡ by_quote = subst (λ z. opening z ≡ by_quote) q s in
        moved_map (λ w. (i : Outcome Word) × PartsAt S I quotes (g ++ v) i × (w ≡ close_quote (length (b ∷ g ++ v)) i)) (EnclosedAt S I (b ∷ g ++ v)) (λ w k. subst (EnclosedAt S I (b ∷ g ++ v)) (sym k.2) (in_quotes a k.1)) (close_quote (length t) o)
        (quote_moves (PartsAt S I quotes (g ++ v)) (length t) (length (b ∷ g ++ v)) o e m)

    pub word_local : (nested : Bool) {t : List ℕ} {o : Outcome Word} → WordAt S I nested t o → (g : List ℕ) → t ≡ g ++ u → Fine g → Early o → Moved (WordAt S I nested (g ++ v)) o
    word_local nested (enclosed {o = o} h) g q f e =
        let i = followed_early nested o e in
        let m = enclosed_local h g q f i in
        moved_map (λ w. (i : Outcome Word) × EnclosedAt S I (g ++ v) i × (w ≡ followed nested i)) (WordAt S I nested (g ++ v)) (λ w k. subst (WordAt S I nested (g ++ v)) (sym k.2) (enclosed k.1)) (followed nested o)
        (followed_moves (EnclosedAt S I (g ++ v)) nested o e m)
    word_local nested {t} {o} (in_nothing s p) [] q f e = absurd (no_front t o q (parts_within S I in_s in_i (bare_word nested) p) e)
    word_local nested {t} {o} (in_nothing s p) (b ∷ g) q f e =
        let a : opening (b ∷ g ++ v) ≡ bare = subst (λ z. opening z ≡ bare) q s in
        moved_map (PartsAt S I (bare_word nested) (b ∷ g ++ v)) (WordAt S I nested (b ∷ g ++ v)) (λ w k. in_nothing a k) o (parts_local (bare_word nested) p (b ∷ g) q f e)

    pub words_local : (nested : Bool) {t : List ℕ} {o : Outcome Command} → WordsAt S I nested t o → (g : List ℕ) → t ≡ g ++ u → Fine g → Early o → Moved (WordsAt S I nested (g ++ v)) o
    words_local nested {t} {o} h [] q f e = absurd (no_front t o q (words_within S I in_s in_i nested h) e)
    words_local nested (no_word s) (b ∷ g) q f e = (b ∷ g, q, f, no_word (subst (λ z. at_end nested z ≡ true) q s))
    words_local nested (bad_word {k = k} {n = n} s p) (b ∷ g) q f e =
        let z = word_local nested p (b ∷ g) q f e in
        (z.0, z.1, bad_word (subst (λ z. at_end nested z ≡ false) q s) z.2)
    words_local nested (one_word {r = r} {w = w} {o = o} s p l) (b ∷ g) q f e =
        let i = early_put w o e in
        let lt = early_less o (length (skip_blanks false r)) (words_within S I in_s in_i nested l) i in
        let far : length u < length r = omega (arith, lt, skip_blanks_within false r) in
        let z = word_local nested p (b ∷ g) q f far in
        let a = subst (λ y. length u < length (skip_blanks false y)) z.1 lt in
        let y = blanks_same false z.0 z.2 a in
        let m = words_local nested l y.0 (ap (skip_blanks false) z.1 ∙ y.1) y.3 i in
        moved_put w (WordsAt S I nested (y.0 ++ v)) (WordsAt S I nested (b ∷ g ++ v)) (λ o k. one_word (subst (λ z. at_end nested z ≡ false) q s) z.3 (subst (λ c. WordsAt S I nested c o) (sym y.2) k)) o m

    script_local : (nested : Bool) {t : List ℕ} {o : Outcome Script} → ScriptAt S I nested t o → (g : List ℕ) → t ≡ g ++ u → Fine g → Early o → Moved (ScriptAt S I nested (g ++ v)) o
    script_local nested {t} {o} h [] q f e = absurd (no_front t o q (script_within S I in_s in_i nested h) e)
    script_local nested (no_command s) (b ∷ g) q f e = (b ∷ g, q, f, no_command (subst (λ z. at_end nested z ≡ true) q s))
    script_local nested (bad_command {k = k} {n = n} s p) (b ∷ g) q f e =
        let z = words_local nested p (b ∷ g) q f e in
        (z.0, z.1, bad_command (subst (λ z. at_end nested z ≡ false) q s) z.2)
    script_local nested (one_command {r = r} {c = c} {o = o} s p l) (b ∷ g) q f e =
        let i = early_put c o e in
        let lt = early_less o (length (skip between r)) (script_within S I in_s in_i nested l) i in
        let far : length u < length r = omega (arith, lt, skip_within between r) in
        let z = words_local nested p (b ∷ g) q f far in
        let a = subst (λ y. length u < length (skip between y)) z.1 lt in
        let y = skip_same between z.0 z.2 a in
        let m = script_local nested l y.0 (ap (skip between) z.1 ∙ y.1) y.3 i in
        moved_put c (ScriptAt S I nested (y.0 ++ v)) (ScriptAt S I nested (b ∷ g ++ v)) (λ o k. one_command (subst (λ z. at_end nested z ≡ false) q s) z.3 (subst (λ d. ScriptAt S I nested d o) (sym y.2) k)) o m

  deep_moves : (t g : List ℕ) → t ≡ g ++ u → length t + 1 + length v ≡ length (g ++ v) + 1 + length u
  deep_moves t g q = omega (arith, ap length q, length-append g u, length-append g v)

  mutual
    unfolding InBracket

    pub bracket_local : (room : ℕ) → IsLocal (InBracket room)
    bracket_local zero t o h g q f e = subst (Moved (λ w. w ≡ fault Deep (length (g ++ v) + 1))) (sym h) (length (g ++ v) + 1, deep_moves t g q, refl)
    bracket_local (suc room) t o h g q f e =
        let lt = early_less o (length (skip between t)) (script_within (InBracket room) (InIndex room) (bracket_within room) (index_within room) true h) e in
        let y = skip_same between g f (subst (λ z. length u < length (skip between z)) q lt) in
        subst (λ z. Moved (ScriptAt (InBracket room) (InIndex room) true z) o) (sym y.2)
        (script_local (InBracket room) (InIndex room) (bracket_within room) (index_within room) (bracket_local room) (index_local room) true h y.0 (ap (skip between) q ∙ y.1) y.3 e)

    pub index_local : (room : ℕ) → IsLocal (InIndex room)
    index_local zero t o h g q f e = subst (Moved (λ w. w ≡ fault Deep (length (g ++ v) + 1))) (sym h) (length (g ++ v) + 1, deep_moves t g q, refl)
    index_local (suc room) t o h g q f e = parts_local (InBracket room) (InIndex room) (bracket_within room) (index_within room) (bracket_local room) (index_local room) index h g q f e

  pub enclosed_is_local : (b : ℕ) (g : List ℕ) (o : Outcome Word) → Fine (b ∷ g) → EnclosedAt (InBracket most_nested) (InIndex most_nested) (b ∷ g ++ u) o → Early o → Moved (EnclosedAt (InBracket most_nested) (InIndex most_nested) (b ∷ g ++ v)) o
  enclosed_is_local b g o f h e =
      enclosed_local (InBracket most_nested) (InIndex most_nested) (bracket_within most_nested) (index_within most_nested) (bracket_local most_nested) (index_local most_nested) h (b ∷ g) refl f e

  pub substituted_is_local : (b : ℕ) (g : List ℕ) (o : Outcome Part) → Fine (b ∷ g) → SubstitutedAt (InBracket most_nested) (InIndex most_nested) (b ∷ g ++ u) o → Early o → Moved (SubstitutedAt (InBracket most_nested) (InIndex most_nested) (b ∷ g ++ v)) o
  substituted_is_local b g o f h e =
      let m = subst (λ z. StepMoves z (step_at (b ∷ g ++ v))) h.1 (step_same b g f).moves in
      sub_local (InBracket most_nested) (InIndex most_nested) (bracket_within most_nested) (index_within most_nested) (bracket_local most_nested) (index_local most_nested) h.0 (step_at (b ∷ g ++ v)) (length (b ∷ g ++ u)) (length (b ∷ g ++ v)) o m h.2 e

-- Whether something is substituted is told by two bytes.
abbrev is_substituted : Step → Bool
is_substituted ends = false
is_substituted (bytes bs r) = false
is_substituted (substituted s) = true

record SameKind (x y : Step) : Type 0 where
  same : is_substituted x ≡ is_substituted y

kind_if : (t : Bool) {x y z w : Step} → SameKind x z → SameKind y w → SameKind (if t then x else y) (if t then z else w)
kind_if true h k = h
kind_if false h k = k

kind_between : (x y : Option (List ℕ × List ℕ)) → SameKind (between_braces x) (between_braces y)
kind_between None None = record { same = refl }
kind_between None (Some y) = record { same = refl }
kind_between (Some x) None = record { same = refl }
kind_between (Some x) (Some y) = record { same = refl }

kind_choice : (t : Bool) (s z : Substitution) → is_substituted (if t then substituted s else substituted z) ≡ true
kind_choice true s z = refl
kind_choice false s z = refl

kind_behind : (x r : List ℕ) → is_substituted (behind_name x r) ≡ true
kind_behind x [] = refl
kind_behind x (b ∷ r) = kind_choice (b == 40) (indexed x r) (named x (b ∷ r))

kind_name : (t : Bool) (n c : ℕ) (s r : List ℕ) → is_substituted (by_name (take (cond t (1 + n) 0) (c ∷ s)) r) ≡ t
kind_name true n c s r =
    let k : suc n ≡ 1 + n = omega arith in
    subst (λ z. is_substituted (by_name (take z (c ∷ s)) r) ≡ true) k (kind_behind (c ∷ take n s) r)
kind_name false n c s r = refl

kind_dollar : (c : ℕ) (s t : List ℕ) → SameKind (behind_dollar (c ∷ s)) (behind_dollar (c ∷ t))
kind_dollar c s t =
    kind_if (c == 123) (kind_between (up_to 125 s) (up_to 125 t))
    (record { same = kind_name (is_name c) (prefix_len is_name s) c s (name_at (c ∷ s)).1 ∙ sym (kind_name (is_name c) (prefix_len is_name t) c t (name_at (c ∷ t)).1) })

kind_same : (b c : ℕ) (s t : List ℕ) → SameKind (step_at (b ∷ c ∷ s)) (step_at (b ∷ c ∷ t))
kind_same b c s t = kind_if (b == 92) (record { same = refl }) (kind_if (b == 36) (kind_dollar c s t) (kind_if (b == 91) (record { same = refl }) (record { same = refl })))

pub part_total : (left : ℕ) (s : Substitution) → (o : Outcome Part) × PartIs (InBracket most_nested) (InIndex most_nested) left s o
part_total left (named x r) = (done (named_part x) r, refl)
part_total left unnamed = (fault Variable left, refl)
part_total left (indexed x r) = let i = some_in_index most_nested r in (close_index left x i.0, (i.0, i.1, refl))
part_total left (opened r) = let i = some_in_bracket most_nested r in (close_bracket (length r + 1) i.0, (i.0, i.1, refl))

none_kind : (t : List ℕ) (s : Step) → step_at t ≡ s → ((o : Outcome Part) → SubstitutedAt (InBracket most_nested) (InIndex most_nested) t o → ⊥) → is_substituted s ≡ false
none_kind t ends e h = refl
none_kind t (bytes bs r) e h = refl
none_kind t (substituted s) e h = let p = part_total (length t) s in absurd (h p.0 (s, e, p.1))

pub none_moves : (b c : ℕ) (s t : List ℕ) → ((o : Outcome Part) → SubstitutedAt (InBracket most_nested) (InIndex most_nested) (b ∷ c ∷ s) o → ⊥) → (o : Outcome Part) → SubstitutedAt (InBracket most_nested) (InIndex most_nested) (b ∷ c ∷ t) o → ⊥
none_moves b c s t none o h =
    let k = none_kind (b ∷ c ∷ s) (step_at (b ∷ c ∷ s)) refl none in
    let e : true ≡ is_substituted (step_at (b ∷ c ∷ t)) = ap is_substituted (sym h.1) in
    let w : true ≡ false = e ∙ sym (kind_same b c s t).same ∙ k in
    cc
