-- Each text has a reading.
use Rattle.std.proofs.Common.{◌≡◌, ℕ, zero, suc, ◌+◌, ◌≤◌, ◌<◌, List, [], ◌∷◌, length, drop, Bool, true, false, Option, Some, None, refl, sym, ◌∙◌, subst, ◌⊎◌, inl, inr, arith}
use Rattle.std.specs.Prelude.{◌||◌, ◌==◌, if◌then◌else◌}
use Rattle.txt_core.specs.Names.{Bytes}
use Rattle.txt_core.specs.Limits.{most_nested}
use Rattle.tcl_parse.specs.declared.fault.Kind.TheVariants as kinds
use Rattle.tcl_parse.specs.declared.fault.Kind.TheVariants.{Deep}
use Rattle.tcl_parse.specs.Bytes.{is_blank, ends_command, joins_lines}
use Rattle.tcl_parse.specs.Gaps.{skip, between, joining, comment, escaped, Before, skip_blanks, at_end, ends_word, closes}
use Rattle.tcl_parse.specs.Names.{up_to, name_at, named_part}
use Rattle.tcl_parse.specs.Tree.{Part, Word, Command, Script}
use Rattle.tcl_parse.specs.Outcome.{Outcome, done, fault, put, put_text}
use Rattle.tcl_parse.specs.Steps.{Mode, quotes, index, bare_word, Substitution, named, indexed, opened, unnamed, Step, ends, bytes, substituted, behind_dollar, between_braces, behind_name, by_name, step_at, next, stops}
use Rattle.txt_core.specs.Escape.{escape_of}
use Rattle.tcl_parse.specs.Grammar.{SubstitutedAt, PartIs, PartsAt, no_part, some_bytes, bad_part, one_part, Opening, by_brace, by_quote, bare, opening, EnclosedAt, in_braces, in_quotes, WordAt, enclosed, in_nothing, WordsAt, no_word, bad_word, one_word, ScriptAt, no_command, bad_command, one_command, InBracket, InIndex, Reads, close_bracket, close_index, close_brace, close_quote, followed}
use Rattle.tcl_parse.specs.Laws.Braces.{braced, plain, braced_at}
use Rattle.tcl_parse.specs.Laws.Within.{Within, Takes, TakesPart, step_takes, step_at_takes, parts_within, words_within, bracket_within, index_within, skip_within, skip_blanks_within, LeavesAtMost, braced_leaves}

-- an item takes a byte
abbrev pub Moves : {A : Type 0} → Outcome A → ℕ → Type 0
Moves (done x r) n = length r < n
Moves (fault k m) n = Unit {0}

moves_index : (left n : ℕ) (x : Bytes) (i : Outcome Word) → n ≤ left → Within i n → Moves (close_index left x i) left
moves_index left n x (done w []) le h = tt
moves_index left n x (done w (b ∷ r)) le h = omega arith
moves_index left n x (fault k m) le h = tt

moves_bracket : (left n : ℕ) (s : Outcome Script) → n ≤ left → Within s n → Moves (close_bracket n s) left
moves_bracket left n (done s []) le h = tt
moves_bracket left n (done s (b ∷ r)) le h = omega arith
moves_bracket left n (fault k m) le h = tt

moves_if : {A : Type 0} (b : Bool) (o p : Outcome A) (n : ℕ) → Moves o n → Moves p n → Moves (if b then o else p) n
moves_if true o p n h k = h
moves_if false o p n h k = k

-- a reading with what it needs to go on
abbrev Found : {A : Type 0} → (Outcome A → Type 0) → Type 0
Found {A} P = (o : Outcome A) × P o

brace_moves : (x : Option (Bytes × Bytes)) (n : ℕ) → LeavesAtMost x n → Moves (close_brace (suc n) x) (suc n)
brace_moves None n h = tt
brace_moves (Some x) n h = omega arith

quote_moves : (o : Outcome Word) (n : ℕ) → Within o n → Moves (close_quote (suc n) o) (suc n)
quote_moves (done w []) n h = tt
quote_moves (done w (b ∷ r)) n h = omega arith
quote_moves (fault k m) n h = tt

followed_moves : (nested : Bool) (o : Outcome Word) (n : ℕ) → Moves o n → Moves (followed nested o) n
followed_moves nested (done w r) n h = moves_if (ends_word nested r) (done w r) (fault _ (length r)) n h tt
followed_moves nested (fault k m) n h = tt

moves_put : {A : Type 0} (x : A) (o : Outcome (List A)) (m n : ℕ) → m < n → Within o m → Moves (put x o) n
moves_put x (done xs r) m n lt h = omega arith
moves_put x (fault k i) m n lt h = tt

moves_put_text : (bs : Bytes) (o : Outcome Word) (m n : ℕ) → m < n → Within o m → Moves (put_text bs o) n
moves_put_text bs (done w r) m n lt h = omega arith
moves_put_text bs (fault k i) m n lt h = tt

-- a step that isn't the end
abbrev pub Goes : Step → Type 0
Goes ends = ⊥
Goes (bytes bs r) = Unit {0}
Goes (substituted s) = Unit {0}

no_end : (s : Substitution) → ends ≡ substituted s → ⊥
no_end s e = cc

no_bytes : (bs r : Bytes) (s : Substitution) → bytes bs r ≡ substituted s → ⊥
no_bytes bs r s e = cc

goes_if : (b : Bool) (x y : Step) → Goes x → Goes y → Goes (if b then x else y)
goes_if true x y h k = h
goes_if false x y h k = k

between_goes : (x : Option (Bytes × Bytes)) → Goes (between_braces x)
between_goes None = tt
between_goes (Some x) = tt

behind_goes : (x t : Bytes) → Goes (behind_name x t)
behind_goes x [] = tt
behind_goes x (b ∷ t) = goes_if (b == 40) (substituted (indexed x t)) (substituted (named x (b ∷ t))) tt tt

name_goes : (x t : Bytes) → Goes (by_name x t)
name_goes [] t = tt
name_goes (b ∷ x) t = behind_goes (b ∷ x) t

dollar_goes : (t : Bytes) → Goes (behind_dollar t)
dollar_goes [] = tt
dollar_goes (b ∷ t) = goes_if (b == 123) (between_braces (up_to 125 t)) (by_name (name_at (b ∷ t)).0 (name_at (b ∷ t)).1) (between_goes (up_to 125 t)) (name_goes (name_at (b ∷ t)).0 (name_at (b ∷ t)).1)

first_goes : (b : ℕ) (t : Bytes) → Goes (step_at (b ∷ t))
first_goes b t =
    goes_if (b == 92) (bytes (escape_of t).0 (escape_of t).1) (if b == 36 then behind_dollar t else if b == 91 then substituted (opened t) else bytes (b ∷ []) t) tt
    (goes_if (b == 36) (behind_dollar t) (if b == 91 then substituted (opened t) else bytes (b ∷ []) t) (dollar_goes t)
    (goes_if (b == 91) (substituted (opened t)) (bytes (b ∷ []) t) tt tt))

next_goes : (m : Mode) (t : Bytes) → stops m t ≡ false → (t ≡ [] → ⊥) → next m t ≡ ends → ⊥
next_goes m [] e ne h = ne refl
next_goes m (b ∷ t) e ne h =
    let k = rw e at h in
    subst Goes k (first_goes b t)

-- behind what is passed over stands a word, or the end of the command
both : (p q c j : Bool) → p ≡ false → j ≡ false → (p || q || c || j) ≡ (q || c)
both true q c j ep ej = absurd (cc)
both false true c j ep ej = refl
both false false true j ep ej = refl
both false false false j ep ej = ej

both_2 : (p q c j : Bool) → (p || q) ≡ false → j ≡ false → (p || q || c || j) ≡ (q || c)
both_2 true q c j ep ej = absurd (cc)
both_2 false true c j ep ej = absurd (cc)
both_2 false false true j ep ej = refl
both_2 false false false j ep ej = ej

blanks_step : (nested : Bool) (b : ℕ) (t : Bytes) (p j : Bool) → is_blank b ≡ p → joins_lines b t ≡ j → ends_word nested (skip_blanks false t) ≡ at_end nested (skip_blanks false t) → ends_word nested (skip_blanks true t) ≡ at_end nested (skip_blanks true t)
    → ends_word nested (skip_blanks false (b ∷ t)) ≡ at_end nested (skip_blanks false (b ∷ t))
unfolding skip_blanks
blanks_step nested b t true j ep ej h k = rw ep h
blanks_step nested b t false true ep ej h k = rw (ep, ej) k
blanks_step nested b t false false ep ej h k = rw (ep, ej) (both (is_blank b) (ends_command b) (closes nested b) (joins_lines b t) ep ej)

pub blanks_stand : (nested m : Bool) (t : Bytes) → ends_word nested (skip_blanks m t) ≡ at_end nested (skip_blanks m t)
unfolding skip_blanks
blanks_stand nested true [] = refl
blanks_stand nested false [] = refl
blanks_stand nested true (b ∷ t) = blanks_stand nested false t
blanks_stand nested false (b ∷ t) = blanks_step nested b t (is_blank b) (joins_lines b t) refl refl (blanks_stand nested false t) (blanks_stand nested true t)

skip_step : (nested : Bool) (b : ℕ) (t : Bytes) (p j q : Bool) → (is_blank b || ends_command b) ≡ p → joins_lines b t ≡ j → (b == 35) ≡ q
    → ends_word nested (skip between t) ≡ at_end nested (skip between t) → ends_word nested (skip joining t) ≡ at_end nested (skip joining t) → ends_word nested (skip comment t) ≡ at_end nested (skip comment t)
    → ends_word nested (skip between (b ∷ t)) ≡ at_end nested (skip between (b ∷ t))
unfolding skip
skip_step nested b t true j q ep ej eq h k l = rw ep h
skip_step nested b t false true q ep ej eq h k l = rw (ep, ej) k
skip_step nested b t false false true ep ej eq h k l = rw (ep, ej, eq) l
skip_step nested b t false false false ep ej eq h k l = rw (ep, ej, eq) (both_2 (is_blank b) (ends_command b) (closes nested b) (joins_lines b t) ep ej)

comment_step : (nested : Bool) (b : ℕ) (t : Bytes) (p q : Bool) → (b == 10) ≡ p → (b == 92) ≡ q
    → ends_word nested (skip between t) ≡ at_end nested (skip between t) → ends_word nested (skip escaped t) ≡ at_end nested (skip escaped t) → ends_word nested (skip comment t) ≡ at_end nested (skip comment t)
    → ends_word nested (skip comment (b ∷ t)) ≡ at_end nested (skip comment (b ∷ t))
unfolding skip
comment_step nested b t true q ep eq h k l = rw ep h
comment_step nested b t false true ep eq h k l = rw (ep, eq) k
comment_step nested b t false false ep eq h k l = rw (ep, eq) l

pub skip_stands : (nested : Bool) (m : Before) (t : Bytes) → ends_word nested (skip m t) ≡ at_end nested (skip m t)
unfolding skip
skip_stands nested between [] = refl
skip_stands nested joining [] = refl
skip_stands nested comment [] = refl
skip_stands nested escaped [] = refl
skip_stands nested between (b ∷ t) = skip_step nested b t (is_blank b || ends_command b) (joins_lines b t) (b == 35) refl refl refl (skip_stands nested between t) (skip_stands nested joining t) (skip_stands nested comment t)
skip_stands nested joining (b ∷ t) = skip_stands nested between t
skip_stands nested comment (b ∷ t) = comment_step nested b t (b == 10) (b == 92) refl refl (skip_stands nested between t) (skip_stands nested escaped t) (skip_stands nested comment t)
skip_stands nested escaped (b ∷ t) = skip_stands nested comment t

module _ (S : Bytes → Outcome Script → Type 0) (I : Bytes → Outcome Word → Type 0) (in_s : (t : Bytes) (o : Outcome Script) → S t o → Within o (length t + 1)) (in_i : (t : Bytes) (o : Outcome Word) → I t o → Within o (length t + 1)) (some_s : (t : Bytes) → Found (S t)) (some_i : (t : Bytes) → Found (I t)) where
  part_moves : (left : ℕ) (s : Substitution) (v : Outcome Part) → TakesPart s left → PartIs S I left s v → Moves v left
  part_moves left (named x r) v h p = subst (λ q. Moves q left) (sym p) (let lt : length r < left = h in lt)
  part_moves left unnamed v h p = subst (λ q. Moves q left) (sym p) tt
  part_moves left (indexed x r) v h p = subst (λ q. Moves q left) (sym p.2) (moves_index left (length r + 1) x p.0 (omega arith) (in_i r p.0 p.1))
  part_moves left (opened r) v h p = subst (λ q. Moves q left) (sym p.2) (moves_bracket left (length r + 1) p.0 (omega arith) (in_s r p.0 p.1))

  some_part : (left : ℕ) (s : Substitution) → Found (PartIs S I left s)
  some_part left (named x r) = (done (named_part x) r, refl)
  some_part left unnamed = (fault kinds.Variable left, refl)
  some_part left (indexed x r) = let i = some_i r in (close_index left x i.0, (i.0, i.1, refl))
  some_part left (opened r) = let i = some_s r in (close_bracket (length r + 1) i.0, (i.0, i.1, refl))

  -- behind a part comes what is left, if it is no fault
  part_on : (m : Mode) (t : Bytes) (s : Substitution) (v : Outcome Part) → next m t ≡ substituted s → PartIs S I (length t) s v → Moves v (length t) → ((r : Bytes) → length r < length t → Found (PartsAt S I m r)) → Found (PartsAt S I m t)
  part_on m t s (fault k n) e h mv go = (fault k n, bad_part e h)
  part_on m t s (done p r) e h mv go = let x = go r mv in (put p x.0, one_part p e h x.1)

  step_on : (m : Mode) (t : Bytes) (s : Step) → next m t ≡ s → Takes s (length t) → ((r : Bytes) → length r < length t → Found (PartsAt S I m r)) → Found (PartsAt S I m t)
  step_on m t ends e h go = (done [] t, no_part e)
  step_on m t (bytes bs r) e h go = let x = go r h in (put_text bs x.0, some_bytes e x.1)
  step_on m t (substituted s) e h go = let v = some_part (length t) s in part_on m t s v.0 e v.1 (part_moves (length t) s v.0 h v.1) go

  parts_below : (n : ℕ) (m : Mode) (t : Bytes) → length t < n → Found (PartsAt S I m t)
  parts_below zero m t lt = absurd (omega arith)
  parts_below (suc n) m t lt = step_on m t (next m t) refl (step_takes m t) (λ r r_lt. parts_below n m r (omega arith))

  pub some_parts : (m : Mode) (t : Bytes) → Found (PartsAt S I m t)
  some_parts m t = parts_below (suc (length t)) m t (omega arith)

  enclosed_by : (t : Bytes) (s : Opening) → opening t ≡ s → (opening t ≡ bare) ⊎ Found (EnclosedAt S I t)
  enclosed_by t by_brace e = inr (close_brace (length t) (braced plain 0 (drop 1 t)), in_braces (braced plain 0 (drop 1 t)) e (braced_at (drop 1 t)))
  enclosed_by t by_quote e = let x = some_parts quotes (drop 1 t) in inr (close_quote (length t) x.0, in_quotes e x.1)
  enclosed_by t bare e = inl e

  -- a word in braces or quotes has a reading
  pub some_enclosed : (t : Bytes) → (opening t ≡ bare) ⊎ Found (EnclosedAt S I t)
  some_enclosed t = enclosed_by t (opening t) refl

  word_of : (nested : Bool) (t : Bytes) → (opening t ≡ bare) ⊎ Found (EnclosedAt S I t) → Found (WordAt S I nested t)
  word_of nested t (inl e) = let x = some_parts (bare_word nested) t in (x.0, in_nothing e x.1)
  word_of nested t (inr x) = (followed nested x.0, enclosed x.1)

  pub some_word : (nested : Bool) (t : Bytes) → Found (WordAt S I nested t)
  some_word nested t = word_of nested t (some_enclosed t)

  parts_move : (m : Mode) (t : Bytes) (o : Outcome Word) → stops m t ≡ false → (t ≡ [] → ⊥) → PartsAt S I m t o → Moves o (length t)
  parts_move m t o e ne (no_part f) = absurd (next_goes m t e ne f)
  parts_move m t o e ne (some_bytes {r = r} {bs = bs} {o = p} f h) =
      let lt : length r < length t = subst (λ s. Takes s (length t)) f (step_takes m t) in
      moves_put_text bs p (length r) (length t) lt (parts_within S I in_s in_i m h)
  parts_move m t o e ne (bad_part f h) = tt
  parts_move m t o e ne (one_part {r = r} {s = s} y {o = p} f h q) =
      let takes : TakesPart s (length t) = subst (λ x. Takes x (length t)) f (step_takes m t) in
      let lt : length r < length t = part_moves (length t) s (done y r) takes h in
      moves_put y p (length r) (length t) lt (parts_within S I in_s in_i m q)

  pub enclosed_moves : (b : ℕ) (u : Bytes) (o : Outcome Word) → EnclosedAt S I (b ∷ u) o → Moves o (suc (length u))
  enclosed_moves b u o (in_braces x f h) = brace_moves x (length u) (braced_leaves u x h)
  enclosed_moves b u o (in_quotes {o = i} f p) = quote_moves i (length u) (parts_within S I in_s in_i quotes p)

  substituted_by : (t : Bytes) (x : Step) → step_at t ≡ x → ((o : Outcome Part) → SubstitutedAt S I t o → ⊥) ⊎ Found (SubstitutedAt S I t)
  substituted_by t ends e = inl (λ o h. no_end h.0 (sym e ∙ h.1))
  substituted_by t (bytes bs r) e = inl (λ o h. no_bytes bs r h.0 (sym e ∙ h.1))
  substituted_by t (substituted s) e = let v = some_part (length t) s in inr (v.0, (s, e, v.1))

  -- what begins with a substitution has a reading
  pub some_substituted : (t : Bytes) → ((o : Outcome Part) → SubstitutedAt S I t o → ⊥) ⊎ Found (SubstitutedAt S I t)
  some_substituted t = substituted_by t (step_at t) refl

  pub substituted_moves : (t : Bytes) (o : Outcome Part) → SubstitutedAt S I t o → Moves o (length t)
  substituted_moves t o h =
      let takes : TakesPart h.0 (length t) = subst (λ x. Takes x (length t)) h.1 (step_at_takes t) in
      part_moves (length t) h.0 o takes h.2

  pub word_moves : (nested : Bool) (t : Bytes) (o : Outcome Word) → ends_word nested t ≡ false → WordAt S I nested t o → Moves o (length t)
  word_moves nested [] o e h = absurd (cc)
  word_moves nested (b ∷ u) o e (enclosed {o = i} h) = followed_moves nested i (suc (length u)) (enclosed_moves b u i h)
  word_moves nested (b ∷ u) o e (in_nothing f p) = parts_move (bare_word nested) (b ∷ u) o e (λ k. absurd (cc)) p

  word_on : (nested : Bool) (t : Bytes) (v : Outcome Word) → at_end nested t ≡ false → WordAt S I nested t v → Moves v (length t) → ((r : Bytes) → length r < length t → Found (WordsAt S I nested (skip_blanks false r))) → Found (WordsAt S I nested t)
  word_on nested t (fault k n) e h mv go = (fault k n, bad_word e h)
  word_on nested t (done w r) e h mv go = let x = go r mv in (put w x.0, one_word e h x.1)

  words_by : (nested : Bool) (t : Bytes) (b : Bool) → at_end nested t ≡ b → ends_word nested t ≡ at_end nested t → ((r : Bytes) → length r < length t → Found (WordsAt S I nested (skip_blanks false r))) → Found (WordsAt S I nested t)
  words_by nested t true e stands go = (done [] t, no_word e)
  words_by nested t false e stands go =
      let x = some_word nested t in
      word_on nested t x.0 e x.1 (word_moves nested t x.0 (stands ∙ e) x.1) go

  words_below : (n : ℕ) (nested : Bool) (t : Bytes) → length t < n → ends_word nested t ≡ at_end nested t → Found (WordsAt S I nested t)
  words_below zero nested t lt stands = absurd (omega arith)
  words_below (suc n) nested t lt stands = words_by nested t (at_end nested t) refl stands (λ r r_lt. words_below n nested (skip_blanks false r) (omega (arith, skip_blanks_within false r)) (blanks_stand nested false r))

  words_move : (nested : Bool) (t : Bytes) (o : Outcome Command) → at_end nested t ≡ false → ends_word nested t ≡ at_end nested t → WordsAt S I nested t o → Moves o (length t)
  words_move nested t o e stands (no_word f) = absurd (cc)
  words_move nested t o e stands (bad_word f h) = tt
  words_move nested t o e stands (one_word {r = r} {w = w} {o = p} f h q) =
      let lt : length r < length t = word_moves nested t (done w r) (stands ∙ e) h in
      moves_put w p (length (skip_blanks false r)) (length t) (omega (arith, skip_blanks_within false r)) (words_within S I in_s in_i nested q)

  command_on : (nested : Bool) (t : Bytes) (v : Outcome Command) → at_end nested t ≡ false → WordsAt S I nested t v → Moves v (length t) → ((r : Bytes) → length r < length t → Found (ScriptAt S I nested (skip between r))) → Found (ScriptAt S I nested t)
  command_on nested t (fault k n) e h mv go = (fault k n, bad_command e h)
  command_on nested t (done c r) e h mv go = let x = go r mv in (put c x.0, one_command e h x.1)

  script_by : (nested : Bool) (t : Bytes) (b : Bool) → at_end nested t ≡ b → ends_word nested t ≡ at_end nested t → ((r : Bytes) → length r < length t → Found (ScriptAt S I nested (skip between r))) → Found (ScriptAt S I nested t)
  script_by nested t true e stands go = (done [] t, no_command e)
  script_by nested t false e stands go =
      let x = words_below (suc (length t)) nested t (omega arith) stands in
      command_on nested t x.0 e x.1 (words_move nested t x.0 e stands x.1) go

  script_below : (n : ℕ) (nested : Bool) (t : Bytes) → length t < n → ends_word nested t ≡ at_end nested t → Found (ScriptAt S I nested t)
  script_below zero nested t lt stands = absurd (omega arith)
  script_below (suc n) nested t lt stands = script_by nested t (at_end nested t) refl stands (λ r r_lt. script_below n nested (skip between r) (omega (arith, skip_within between r)) (skip_stands nested between r))

  pub some_script : (nested : Bool) (t : Bytes) → Found (ScriptAt S I nested (skip between t))
  some_script nested t = script_below (suc (length (skip between t))) nested (skip between t) (omega arith) (skip_stands nested between t)

mutual
  unfolding InBracket

  pub some_in_bracket : (room : ℕ) (t : Bytes) → (o : Outcome Script) × InBracket room t o
  some_in_bracket zero t = (fault Deep (length t + 1), refl)
  some_in_bracket (suc room) t = some_script (InBracket room) (InIndex room) (bracket_within room) (index_within room) (some_in_bracket room) (some_in_index room) true t

  pub some_in_index : (room : ℕ) (t : Bytes) → (o : Outcome Word) × InIndex room t o
  some_in_index zero t = (fault Deep (length t + 1), refl)
  some_in_index (suc room) t = some_parts (InBracket room) (InIndex room) (bracket_within room) (index_within room) (some_in_bracket room) (some_in_index room) index t

none_by : (room : ℕ) (t : Bytes) → ((o : Outcome Word) → EnclosedAt (InBracket room) (InIndex room) t o → ⊥) → (opening t ≡ bare) ⊎ Found (EnclosedAt (InBracket room) (InIndex room) t) → opening t ≡ bare
none_by room t none (inl e) = e
none_by room t none (inr x) = absurd (none x.0 x.1)

-- where no word in braces or quotes has a reading, none begins
pub none_enclosed : (room : ℕ) (t : Bytes) → ((o : Outcome Word) → EnclosedAt (InBracket room) (InIndex room) t o → ⊥) → opening t ≡ bare
none_enclosed room t none = none_by room t none (some_enclosed (InBracket room) (InIndex room) (bracket_within room) (index_within room) (some_in_bracket room) (some_in_index room) t)

-- each text has a reading
pub some_reading : (t : Bytes) → (o : Outcome Script) × Reads t o
some_reading t = some_script (InBracket most_nested) (InIndex most_nested) (bracket_within most_nested) (index_within most_nested) (some_in_bracket most_nested) (some_in_index most_nested) false t
