-- What is left behind a reading, or at its fault, is no longer than the text.
use Rattle.std.proofs.Common.{◌≡◌, length-drop, ℕ, ◌+◌, ◌-◌, ◌≤◌, ◌<◌, suc, zero, List, [], ◌∷◌, length, take, drop, Bool, true, false, cond, Option, Some, None, sym, subst, arith}
use Rattle.std.specs.Prelude.{◌||◌, ◌==◌, if◌then◌else◌, nat_lt}
use Rattle.std.specs.Option.{option_map}
use Rattle.std.specs.List.{position_or_len, prefix_len}
use Rattle.txt_core.specs.Names.{Bytes}
use Rattle.txt_core.specs.Limits.{most_nested}
use Rattle.txt_core.specs.EscapeWithin.{escape_within}
use Rattle.tcl_parse.specs.Bytes.{is_name, is_blank, ends_command, joins_lines}
use Rattle.tcl_parse.specs.Gaps.{skip, skip_blanks, between, joining, comment, escaped, Before, ends_word}
use Rattle.tcl_parse.specs.Tree.{Part, Word, Command, Script}
use Rattle.tcl_parse.specs.Names.{name_at, up_to}
use Rattle.tcl_parse.specs.Outcome.{Outcome, done, fault, put, put_text}
use Rattle.tcl_parse.specs.Steps.{Mode, quotes, index, bare_word, Substitution, named, indexed, opened, unnamed, Step, ends, bytes, substituted, behind_dollar, between_braces, behind_name, by_name, step_at, next, stops}
use Rattle.tcl_parse.specs.Grammar.{PartIs, PartsAt, no_part, some_bytes, bad_part, one_part, EnclosedAt, in_braces, in_quotes, WordAt, enclosed, in_nothing, WordsAt, no_word, bad_word, one_word, ScriptAt, no_command, bad_command, one_command, InBracket, InIndex, Reads, close_bracket, close_index, close_brace, close_quote, followed}
use Rattle.tcl_parse.specs.Braces.{BracedAt}
use Rattle.txt_core.specs.Counting.{in_front}
use Rattle.tcl_parse.specs.Laws.Braces.{Inside, braced, passes, is_escaped, braced_is}
use Rattle.tcl_parse.specs.Laws.Braces as braces

-- A list has at most n elements.
pub record Short (x : Bytes) (n : ℕ) : Type 0 where
  pub fits : length x ≤ n

short_if : (b : Bool) {x y : Bytes} {n : ℕ} → Short x n → Short y n → Short (if b then x else y) n
short_if true h k = h
short_if false h k = k

short_suc : {x : Bytes} {n : ℕ} → Short x n → Short x (suc n)
short_suc h = record { fits = omega arith }

short_self : (b : ℕ) (t : Bytes) → Short (b ∷ t) (suc (length t))
short_self b t = record { fits = omega arith }

skip_short : (m : Before) (t : Bytes) → Short (skip m t) (length t)
unfolding skip
skip_short between [] = record { fits = omega arith }
skip_short joining [] = record { fits = omega arith }
skip_short comment [] = record { fits = omega arith }
skip_short escaped [] = record { fits = omega arith }
skip_short between (b ∷ t) = short_if (is_blank b || ends_command b) (short_suc (skip_short between t)) (short_if (joins_lines b t) (short_suc (skip_short joining t)) (short_if (b == 35) (short_suc (skip_short comment t)) (short_self b t)))
skip_short joining (b ∷ t) = short_suc (skip_short between t)
skip_short comment (b ∷ t) = short_if (b == 10) (short_suc (skip_short between t)) (short_if (b == 92) (short_suc (skip_short escaped t)) (short_suc (skip_short comment t)))
skip_short escaped (b ∷ t) = short_suc (skip_short comment t)

pub skip_within : (m : Before) (t : Bytes) → length (skip m t) ≤ length t
skip_within m t = (skip_short m t).fits

skip_blanks_short : (m : Bool) (t : Bytes) → Short (skip_blanks m t) (length t)
unfolding skip_blanks
skip_blanks_short true [] = record { fits = omega arith }
skip_blanks_short false [] = record { fits = omega arith }
skip_blanks_short true (b ∷ t) = short_suc (skip_blanks_short false t)
skip_blanks_short false (b ∷ t) = short_if (is_blank b) (short_suc (skip_blanks_short false t)) (short_if (joins_lines b t) (short_suc (skip_blanks_short true t)) (short_self b t))

pub skip_blanks_within : (m : Bool) (t : Bytes) → length (skip_blanks m t) ≤ length t
skip_blanks_within m t = (skip_blanks_short m t).fits

abbrev pub LeavesAtMost : Option (Bytes × Bytes) → ℕ → Type 0
LeavesAtMost None n = Unit {0}
LeavesAtMost (Some x) n = length x.1 ≤ n

-- What is left behind a word in braces has at most n bytes.
pub record Leaves (x : Option (Bytes × Bytes)) (n : ℕ) : Type 0 where
  pub fits : LeavesAtMost x n

leaves_if : (b : Bool) {x y : Option (Bytes × Bytes)} {n : ℕ} → Leaves x n → Leaves y n → Leaves (if b then x else y) n
leaves_if true h k = h
leaves_if false h k = k

leaves_more : (bs : Bytes) {x : Option (Bytes × Bytes)} {n : ℕ} → Leaves x n → Leaves (in_front bs x) (suc n)
leaves_more bs {x = None} h = record { fits = tt }
leaves_more bs {x = Some x} h = record { fits = omega arith }

leaves_suc : {x : Option (Bytes × Bytes)} {n : ℕ} → Leaves x n → Leaves x (suc n)
leaves_suc {x = None} h = record { fits = tt }
leaves_suc {x = Some x} h = record { fits = omega arith }

leaves_self : (bs t : Bytes) → Leaves (Some (bs, t)) (suc (length t))
leaves_self bs t = record { fits = omega arith }

braced_within : (m : Inside) (n : ℕ) (t : Bytes) → Leaves (braced m n t) (length t)
unfolding braced
braced_within m n [] = record { fits = tt }
braced_within m n (b ∷ t) =
    leaves_if (passes m b) (leaves_suc (braced_within braces.margin n t))
    (leaves_if (is_escaped m) (leaves_more (b ∷ []) (braced_within braces.plain n t))
    (leaves_if (joins_lines b t) (leaves_more (32 ∷ []) (braced_within braces.joining n t))
    (leaves_if (b == 92) (leaves_more (b ∷ []) (braced_within braces.escaped n t))
    (leaves_if (b == 123) (leaves_more (b ∷ []) (braced_within braces.plain (n + 1) t))
    (leaves_if (b == 125) (leaves_if (n == 0) (leaves_self [] t) (leaves_more (b ∷ []) (braced_within braces.plain (n - 1) t)))
    (leaves_more (b ∷ []) (braced_within braces.plain n t)))))))

pub braced_leaves : (t : Bytes) (x : Option (Bytes × Bytes)) → BracedAt t x → LeavesAtMost x (length t)
braced_leaves t x h = subst (λ y. LeavesAtMost y (length t)) (braced_is t x h) (braced_within braces.plain 0 t).fits

-- what is left, or what is left at a fault, has at most n bytes
abbrev pub Within : {A : Type 0} → Outcome A → ℕ → Type 0
Within (done x r) n = length r ≤ n
Within (fault k m) n = m ≤ n

drop_within : (n : ℕ) (t : Bytes) → length (drop n t) ≤ length t
drop_within n t = omega (arith, length-drop n t)

place_leaves : (b : Bool) (n : ℕ) (t : Bytes) → LeavesAtMost (option_map (λ i. (take i t, drop (i + 1) t)) (cond b (Some n) None)) (length t)
place_leaves true n t = drop_within (n + 1) t
place_leaves false n t = tt

up_to_leaves : (c : ℕ) (t : Bytes) → LeavesAtMost (up_to c t) (length t)
up_to_leaves c t = place_leaves (nat_lt (position_or_len (λ b. b == c) t) (length t)) (position_or_len (λ b. b == c) t) t

leaves_le : (x : Option (Bytes × Bytes)) (n m : ℕ) → n ≤ m → LeavesAtMost x n → LeavesAtMost x m
leaves_le None n m le h = tt
leaves_le (Some x) n m le h = omega arith

-- what a substitution takes
abbrev pub TakesPart : Substitution → ℕ → Type 0
TakesPart (named x r) n = length r < n
TakesPart (indexed x r) n = length r < n
TakesPart (opened r) n = length r < n
TakesPart unnamed n = Unit {0}

-- what a step takes
abbrev pub Takes : Step → ℕ → Type 0
Takes ends n = Unit {0}
Takes (bytes bs r) n = length r < n
Takes (substituted s) n = TakesPart s n

-- The same, for a step that a test chooses.
record Taking (s : Step) (n : ℕ) : Type 0 where
  takes : Takes s n

taking_if : (b : Bool) {x y : Step} {n : ℕ} → Taking x n → Taking y n → Taking (if b then x else y) n
taking_if true h k = h
taking_if false h k = k

taking_between : (x : Option (Bytes × Bytes)) (n : ℕ) → LeavesAtMost x n → Taking (between_braces x) (suc n)
taking_between None n h = record { takes = tt }
taking_between (Some x) n h = record { takes = omega arith }

taking_behind : (x t : Bytes) (n : ℕ) → length t ≤ n → Taking (behind_name x t) (suc n)
taking_behind x [] n h = record { takes = omega arith }
taking_behind x (b ∷ t) n h = taking_if (b == 40) (record { takes = omega arith }) (record { takes = omega arith })

taking_name : (x t : Bytes) (n : ℕ) → length t ≤ n → Taking (by_name x t) (suc n)
taking_name [] t n h = record { takes = omega arith }
taking_name (b ∷ x) t n h = taking_behind (b ∷ x) t n h

taking_dollar : (t : Bytes) → Taking (behind_dollar t) (suc (length t))
taking_dollar [] = record { takes = omega arith }
taking_dollar (b ∷ t) =
    taking_if (b == 123) (taking_between (up_to 125 t) (suc (length t)) (leaves_le (up_to 125 t) (length t) (suc (length t)) (omega arith) (up_to_leaves 125 t)))
    (taking_name (name_at (b ∷ t)).0 (name_at (b ∷ t)).1 (suc (length t)) (drop_within (prefix_len is_name (b ∷ t)) (b ∷ t)))

at_takes : (t : Bytes) → Taking (step_at t) (length t)
at_takes [] = record { takes = tt }
at_takes (b ∷ t) =
    taking_if (b == 92) (record { takes = omega (arith, escape_within t) })
    (taking_if (b == 36) (taking_dollar t)
    (taking_if (b == 91) (record { takes = omega arith })
    (record { takes = omega arith })))

pub step_at_takes : (t : Bytes) → Takes (step_at t) (length t)
step_at_takes t = (at_takes t).takes

next_takes : (m : Mode) (t : Bytes) → Taking (next m t) (length t)
next_takes m t = taking_if (stops m t) (record { takes = tt }) (at_takes t)

pub step_takes : (m : Mode) (t : Bytes) → Takes (next m t) (length t)
step_takes m t = (next_takes m t).takes

within_put : {A : Type 0} (x : A) (o : Outcome (List A)) (n : ℕ) → Within o n → Within (put x o) n
within_put x (done xs r) n h = h
within_put x (fault k m) n h = h

within_put_text : (bs : Bytes) (o : Outcome Word) (n : ℕ) → Within o n → Within (put_text bs o) n
within_put_text bs (done w r) n h = h
within_put_text bs (fault k m) n h = h

within_more : {A : Type 0} (o : Outcome A) (n m : ℕ) → n ≤ m → Within o n → Within o m
within_more (done x r) n m le h = omega arith
within_more (fault k i) n m le h = omega arith

within_if : {A : Type 0} (b : Bool) (o p : Outcome A) (n : ℕ) → Within o n → Within p n → Within (if b then o else p) n
within_if true o p n h k = h
within_if false o p n h k = k

within_brace : (x : Option (Bytes × Bytes)) (n : ℕ) → LeavesAtMost x n → Within (close_brace n x) n
within_brace None n h = omega arith
within_brace (Some x) n h = h

within_quote : (o : Outcome Word) (n : ℕ) → Within o n → Within (close_quote n o) n
within_quote (done w []) n h = omega arith
within_quote (done w (b ∷ r)) n h = omega arith
within_quote (fault k m) n h = h

within_followed : (nested : Bool) (o : Outcome Word) (n : ℕ) → Within o n → Within (followed nested o) n
within_followed nested (done w r) n h = within_if (ends_word nested r) (done w r) (fault _ (length r)) n h h
within_followed nested (fault k m) n h = h

within_index : (left n : ℕ) (x : Bytes) (i : Outcome Word) → n ≤ left → Within i n → Within (close_index left x i) left
within_index left n x (done w []) le h = omega arith
within_index left n x (done w (b ∷ r)) le h = omega arith
within_index left n x (fault k m) le h = omega arith

within_bracket : (n : ℕ) (s : Outcome Script) → Within s n → Within (close_bracket n s) n
within_bracket n (done s []) h = omega arith
within_bracket n (done s (b ∷ r)) h = omega arith
within_bracket n (fault k m) h = h

module _ (S : Bytes → Outcome Script → Type 0) (I : Bytes → Outcome Word → Type 0) (in_s : (t : Bytes) (o : Outcome Script) → S t o → Within o (length t + 1)) (in_i : (t : Bytes) (o : Outcome Word) → I t o → Within o (length t + 1)) where
  pub part_within : (left : ℕ) (s : Substitution) (o : Outcome Part) → TakesPart s left → PartIs S I left s o → Within o left
  part_within left (named x r) o h p = subst (λ q. Within q left) (sym p) (let le : length r ≤ left = omega arith in le)
  part_within left unnamed o h p = subst (λ q. Within q left) (sym p) (let le : left ≤ left = omega arith in le)
  part_within left (indexed x r) o h p = subst (λ q. Within q left) (sym p.2) (within_index left (length r + 1) x p.0 (omega arith) (in_i r p.0 p.1))
  part_within left (opened r) o h p =
      subst (λ q. Within q left) (sym p.2) (within_more (close_bracket (length r + 1) p.0) (length r + 1) left (omega arith) (within_bracket (length r + 1) p.0 (in_s r p.0 p.1)))

  pub takes_part : (m : Mode) (t : Bytes) (s : Substitution) → next m t ≡ substituted s → TakesPart s (length t)
  takes_part m t s e = subst (λ x. Takes x (length t)) e (step_takes m t)

  pub parts_within : (m : Mode) {t : Bytes} {o : Outcome Word} → PartsAt S I m t o → Within o (length t)
  parts_within m (no_part e) = omega arith
  parts_within m {t} (some_bytes {r = r} {bs = bs} {o = o} e p) =
      let lt : length r < length t = subst (λ s. Takes s (length t)) e (step_takes m t) in
      within_put_text bs o (length t) (within_more o (length r) (length t) (omega arith) (parts_within m p))
  parts_within m {t} (bad_part {s = s} {k = k} {n = n} e h) = part_within (length t) s (fault k n) (takes_part m t s e) h
  parts_within m {t} (one_part {r = r} {s = s} p {o = o} e h q) =
      let le : length r ≤ length t = part_within (length t) s (done p r) (takes_part m t s e) h in
      within_put p o (length t) (within_more o (length r) (length t) (omega arith) (parts_within m q))

  drop_le : (t : Bytes) → length (drop 1 t) ≤ length t
  drop_le t = drop_within 1 t

  pub enclosed_within : {t : Bytes} {o : Outcome Word} → EnclosedAt S I t o → Within o (length t)
  enclosed_within {t} (in_braces x e h) =
      within_brace x (length t) (leaves_le x (length (drop 1 t)) (length t) (drop_le t) (braced_leaves (drop 1 t) x h))
  enclosed_within {t} (in_quotes {o = o} e p) = within_quote o (length t) (within_more o (length (drop 1 t)) (length t) (drop_le t) (parts_within quotes p))

  pub word_within : (nested : Bool) {t : Bytes} {o : Outcome Word} → WordAt S I nested t o → Within o (length t)
  word_within nested {t} (enclosed {o = o} h) = within_followed nested o (length t) (enclosed_within h)
  word_within nested (in_nothing e p) = parts_within (bare_word nested) p

  pub words_within : (nested : Bool) {t : Bytes} {o : Outcome Command} → WordsAt S I nested t o → Within o (length t)
  words_within nested (no_word e) = omega arith
  words_within nested (bad_word e p) = word_within nested p
  words_within nested {t} (one_word {r = r} {w = w} {o = o} e p q) =
      let le : length r ≤ length t = word_within nested p in
      within_put w o (length t) (within_more o (length (skip_blanks false r)) (length t) (omega (arith, skip_blanks_within false r)) (words_within nested q))

  pub script_within : (nested : Bool) {t : Bytes} {o : Outcome Script} → ScriptAt S I nested t o → Within o (length t)
  script_within nested (no_command e) = omega arith
  script_within nested (bad_command e p) = words_within nested p
  script_within nested {t} (one_command {r = r} {c = c} {o = o} e p q) =
      let le : length r ≤ length t = words_within nested p in
      within_put c o (length t) (within_more o (length (skip between r)) (length t) (omega (arith, skip_within between r)) (script_within nested q))

mutual
  unfolding InBracket

  pub bracket_within : (room : ℕ) (t : Bytes) (o : Outcome Script) → InBracket room t o → Within o (length t + 1)
  bracket_within zero t o h = subst (λ q. Within q (length t + 1)) (sym h) (let le : length t + 1 ≤ length t + 1 = omega arith in le)
  bracket_within (suc room) t o h =
      within_more o (length (skip between t)) (length t + 1) (omega (arith, skip_within between t)) (script_within (InBracket room) (InIndex room) (bracket_within room) (index_within room) true h)

  pub index_within : (room : ℕ) (t : Bytes) (o : Outcome Word) → InIndex room t o → Within o (length t + 1)
  index_within zero t o h = subst (λ q. Within q (length t + 1)) (sym h) (let le : length t + 1 ≤ length t + 1 = omega arith in le)
  index_within (suc room) t o h =
      within_more o (length t) (length t + 1) (omega arith) (parts_within (InBracket room) (InIndex room) (bracket_within room) (index_within room) index h)

pub reads_within : (t : Bytes) (o : Outcome Script) → Reads t o → Within o (length t)
reads_within t o h =
    within_more o (length (skip between t)) (length t) (skip_within between t) (script_within (InBracket most_nested) (InIndex most_nested) (bracket_within most_nested) (index_within most_nested) false h)
