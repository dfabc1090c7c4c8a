-- Each text has one reading.
use Rattle.std.proofs.Common.{◌≡◌, ℕ, zero, suc, ◌+◌, List, [], length, drop, Bool, true, false, refl, ap, sym, ◌∙◌, subst}
use Rattle.txt_core.specs.Names.{Bytes}
use Rattle.txt_core.specs.Limits.{most_nested}
use Rattle.tcl_parse.specs.declared.fault.Kind.{Kind}
use Rattle.tcl_parse.specs.Gaps.{skip, between, skip_blanks, at_end}
use Rattle.tcl_parse.specs.Tree.{Part, Word, Command, Script}
use Rattle.tcl_parse.specs.Outcome.{Outcome, done, fault, put, put_text}
use Rattle.tcl_parse.specs.Steps.{Mode, quotes, index, bare_word, Substitution, named, indexed, opened, unnamed, Step, ends, bytes, substituted, step_at, next}
use Rattle.tcl_parse.specs.Grammar.{PartIs, PartsAt, no_part, some_bytes, bad_part, one_part, SubstitutedAt, Opening, by_brace, by_quote, bare, opening, EnclosedAt, in_braces, in_quotes, WordAt, enclosed, in_nothing, WordsAt, no_word, bad_word, one_word, ScriptAt, no_command, bad_command, one_command, InBracket, InIndex, Reads, close_bracket, close_index, close_brace, close_quote, followed}
use Rattle.tcl_parse.specs.Laws.Braces.{braced, plain, braced_is}

-- how a reading goes on behind its first item
abbrev pub After : {A : Type 0} → (Bytes → Outcome (List A) → Type 0) → Outcome A → Outcome (List A) → Type 0
After {A} Rest (fault k n) o = o ≡ fault k n
After {A} Rest (done x r) o = (q : Outcome (List A)) × Rest r q × (o ≡ put x q)

after_fault : {A : Type 0} (Rest : Bytes → Outcome (List A) → Type 0) (v : Outcome A) (o : Outcome (List A)) (k : Kind) (n : ℕ) → v ≡ fault k n → After Rest v o → fault k n ≡ o
after_fault Rest v o k n e h = sym (subst (λ w. After Rest w o) e h)

after_done : {A : Type 0} (Rest : Bytes → Outcome (List A) → Type 0) (v : Outcome A) (o p : Outcome (List A)) (x : A) (r : Bytes) → ((q : Outcome (List A)) → Rest r q → p ≡ q) → v ≡ done x r → After Rest v o → put x p ≡ o
after_done Rest v o p x r one e h =
    let a = subst (λ w. After Rest w o) e h in
    ap (put x) (one a.0 a.1) ∙ sym a.2

module _ (S : Bytes → Outcome Script → Type 0) (I : Bytes → Outcome Word → Type 0) (one_s : (t : Bytes) (o p : Outcome Script) → S t o → S t p → o ≡ p) (one_i : (t : Bytes) (o p : Outcome Word) → I t o → I t p → o ≡ p) where
  pub one_part_is : (left : ℕ) (s : Substitution) (o p : Outcome Part) → PartIs S I left s o → PartIs S I left s p → o ≡ p
  one_part_is left (named x r) o p h k = h ∙ sym k
  one_part_is left unnamed o p h k = h ∙ sym k
  one_part_is left (indexed x r) o p h k = h.2 ∙ ap (close_index left x) (one_i r h.0 k.0 h.1 k.1) ∙ sym k.2
  one_part_is left (opened r) o p h k = h.2 ∙ ap (close_bracket (length r + 1)) (one_s r h.0 k.0 h.1 k.1) ∙ sym k.2

  -- what stands at the front, by its first step
  abbrev pub OfFirst : Bytes → Outcome Part → Step → Type 0
  OfFirst t o ends = ⊥
  OfFirst t o (bytes bs r) = ⊥
  OfFirst t o (substituted s) = PartIs S I (length t) s o

  of_first : (t : Bytes) (o : Outcome Part) → SubstitutedAt S I t o → OfFirst t o (step_at t)
  of_first t o h = subst (OfFirst t o) (sym h.1) h.2

  pub one_substituted : (t : Bytes) (o p : Outcome Part) → SubstitutedAt S I t o → SubstitutedAt S I t p → o ≡ p
  one_substituted t o p h k =
      let x : PartIs S I (length t) k.0 o = subst (OfFirst t o) k.1 (of_first t o h) in
      one_part_is (length t) k.0 o p x k.2

  -- what a reading of parts is, by its first step
  abbrev pub OfParts : Mode → Bytes → Outcome Word → Step → Type 0
  OfParts m t o ends = o ≡ done [] t
  OfParts m t o (bytes bs r) = (p : Outcome Word) × PartsAt S I m r p × (o ≡ put_text bs p)
  OfParts m t o (substituted s) = (v : Outcome Part) × PartIs S I (length t) s v × After (PartsAt S I m) v o

  pub of_parts : (m : Mode) {t : Bytes} {o : Outcome Word} → PartsAt S I m t o → OfParts m t o (next m t)
  of_parts m {t} (no_part e) = subst (OfParts m t (done [] t)) (sym e) refl
  of_parts m {t} (some_bytes {bs = bs} {o = o} e p) = subst (OfParts m t (put_text bs o)) (sym e) (o, p, refl)
  of_parts m {t} (bad_part {s = s} {k = k} {n = n} e h) = subst (OfParts m t (fault k n)) (sym e) (fault k n, h, refl)
  of_parts m {t} (one_part {r = r} {s = s} p {o = o} e h q) = subst (OfParts m t (put p o)) (sym e) (done p r, h, (o, q, refl))

  pub one_parts : (m : Mode) {t : Bytes} {o : Outcome Word} → PartsAt S I m t o → (p : Outcome Word) → PartsAt S I m t p → o ≡ p
  one_parts m {t} (no_part e) p q = sym (subst (OfParts m t p) e (of_parts m q))
  one_parts m {t} (some_bytes {bs = bs} e h) p q =
      let x = subst (OfParts m t p) e (of_parts m q) in
      ap (put_text bs) (one_parts m h x.0 x.1) ∙ sym x.2
  one_parts m {t} (bad_part {s = s} {k = k} {n = n} e h) p q =
      let x = subst (OfParts m t p) e (of_parts m q) in
      after_fault (PartsAt S I m) x.0 p k n (one_part_is (length t) s x.0 (fault k n) x.1 h) x.2
  one_parts m {t} (one_part {r = r} {s = s} y {o = o} e h rest) p q =
      let x = subst (OfParts m t p) e (of_parts m q) in
      after_done (PartsAt S I m) x.0 p o y r (one_parts m rest) (one_part_is (length t) s x.0 (done y r) x.1 h) x.2

  -- what a reading of a word in braces or quotes is, by how it begins
  abbrev pub OfEnclosed : Bytes → Outcome Word → Opening → Type 0
  OfEnclosed t o by_brace = o ≡ close_brace (length t) (braced plain 0 (drop 1 t))
  OfEnclosed t o by_quote = (i : Outcome Word) × PartsAt S I quotes (drop 1 t) i × (o ≡ close_quote (length t) i)
  OfEnclosed t o bare = ⊥

  of_enclosed : {t : Bytes} {o : Outcome Word} → EnclosedAt S I t o → OfEnclosed t o (opening t)
  of_enclosed {t} (in_braces x e h) = subst (OfEnclosed t (close_brace (length t) x)) (sym e) (ap (close_brace (length t)) (sym (braced_is (drop 1 t) x h)))
  of_enclosed {t} (in_quotes {o = o} e p) = subst (OfEnclosed t (close_quote (length t) o)) (sym e) (o, p, refl)

  pub one_enclosed : {t : Bytes} {o : Outcome Word} → EnclosedAt S I t o → (p : Outcome Word) → EnclosedAt S I t p → o ≡ p
  one_enclosed {t} (in_braces x e h) p q = ap (close_brace (length t)) (sym (braced_is (drop 1 t) x h)) ∙ sym (subst (OfEnclosed t p) e (of_enclosed q))
  one_enclosed {t} (in_quotes e h) p q =
      let x = subst (OfEnclosed t p) e (of_enclosed q) in
      ap (close_quote (length t)) (one_parts quotes h x.0 x.1) ∙ sym x.2

  -- what a reading of a word is, by how the word begins
  abbrev pub OfWord : Bool → Bytes → Outcome Word → Opening → Type 0
  OfWord nested t o by_brace = (i : Outcome Word) × EnclosedAt S I t i × (o ≡ followed nested i)
  OfWord nested t o by_quote = (i : Outcome Word) × EnclosedAt S I t i × (o ≡ followed nested i)
  OfWord nested t o bare = PartsAt S I (bare_word nested) t o

  by_opening : (nested : Bool) (t : Bytes) (i : Outcome Word) (s : Opening) → EnclosedAt S I t i → OfEnclosed t i s → OfWord nested t (followed nested i) s
  by_opening nested t i by_brace h k = (i, h, refl)
  by_opening nested t i by_quote h k = (i, h, refl)
  by_opening nested t i bare h k = absurd k

  of_word : (nested : Bool) {t : Bytes} {o : Outcome Word} → WordAt S I nested t o → OfWord nested t o (opening t)
  of_word nested {t} (enclosed {o = o} h) = by_opening nested t o (opening t) h (of_enclosed h)
  of_word nested {t} (in_nothing {o = o} e p) = subst (OfWord nested t o) (sym e) p

  closed_word : (nested : Bool) (t : Bytes) (i p : Outcome Word) (s : Opening) → EnclosedAt S I t i → OfEnclosed t i s → OfWord nested t p s → followed nested i ≡ p
  closed_word nested t i p by_brace h k x = ap (followed nested) (one_enclosed h x.0 x.1) ∙ sym x.2
  closed_word nested t i p by_quote h k x = ap (followed nested) (one_enclosed h x.0 x.1) ∙ sym x.2
  closed_word nested t i p bare h k x = absurd k

  pub one_word_at : (nested : Bool) {t : Bytes} {o : Outcome Word} → WordAt S I nested t o → (p : Outcome Word) → WordAt S I nested t p → o ≡ p
  one_word_at nested {t} (enclosed {o = i} h) p q = closed_word nested t i p (opening t) h (of_enclosed h) (of_word nested q)
  one_word_at nested {t} (in_nothing e h) p q = one_parts (bare_word nested) h p (subst (OfWord nested t p) e (of_word nested q))

  -- what a reading of words is, by whether the command ends
  abbrev pub OfWords : Bool → Bytes → Outcome Command → Bool → Type 0
  OfWords nested t o true = o ≡ done [] t
  OfWords nested t o false = (v : Outcome Word) × WordAt S I nested t v × After (λ r. WordsAt S I nested (skip_blanks false r)) v o

  of_words : (nested : Bool) {t : Bytes} {o : Outcome Command} → WordsAt S I nested t o → OfWords nested t o (at_end nested t)
  of_words nested {t} (no_word e) = subst (OfWords nested t (done [] t)) (sym e) refl
  of_words nested {t} (bad_word {k = k} {n = n} e h) = subst (OfWords nested t (fault k n)) (sym e) (fault k n, h, refl)
  of_words nested {t} (one_word {r = r} {w = w} {o = o} e h q) = subst (OfWords nested t (put w o)) (sym e) (done w r, h, (o, q, refl))

  pub one_words : (nested : Bool) {t : Bytes} {o : Outcome Command} → WordsAt S I nested t o → (p : Outcome Command) → WordsAt S I nested t p → o ≡ p
  one_words nested {t} (no_word e) p q = sym (subst (OfWords nested t p) e (of_words nested q))
  one_words nested {t} (bad_word {k = k} {n = n} e h) p q =
      let x = subst (OfWords nested t p) e (of_words nested q) in
      after_fault (λ r. WordsAt S I nested (skip_blanks false r)) x.0 p k n (sym (one_word_at nested h x.0 x.1)) x.2
  one_words nested {t} (one_word {r = r} {w = w} {o = o} e h rest) p q =
      let x = subst (OfWords nested t p) e (of_words nested q) in
      after_done (λ u. WordsAt S I nested (skip_blanks false u)) x.0 p o w r (one_words nested rest) (sym (one_word_at nested h x.0 x.1)) x.2

  -- what a reading of commands is, by whether the script ends
  abbrev pub OfScript : Bool → Bytes → Outcome Script → Bool → Type 0
  OfScript nested t o true = o ≡ done [] t
  OfScript nested t o false = (v : Outcome Command) × WordsAt S I nested t v × After (λ r. ScriptAt S I nested (skip between r)) v o

  of_script : (nested : Bool) {t : Bytes} {o : Outcome Script} → ScriptAt S I nested t o → OfScript nested t o (at_end nested t)
  of_script nested {t} (no_command e) = subst (OfScript nested t (done [] t)) (sym e) refl
  of_script nested {t} (bad_command {k = k} {n = n} e h) = subst (OfScript nested t (fault k n)) (sym e) (fault k n, h, refl)
  of_script nested {t} (one_command {r = r} {c = c} {o = o} e h q) = subst (OfScript nested t (put c o)) (sym e) (done c r, h, (o, q, refl))

  pub one_script : (nested : Bool) {t : Bytes} {o : Outcome Script} → ScriptAt S I nested t o → (p : Outcome Script) → ScriptAt S I nested t p → o ≡ p
  one_script nested {t} (no_command e) p q = sym (subst (OfScript nested t p) e (of_script nested q))
  one_script nested {t} (bad_command {k = k} {n = n} e h) p q =
      let x = subst (OfScript nested t p) e (of_script nested q) in
      after_fault (λ r. ScriptAt S I nested (skip between r)) x.0 p k n (sym (one_words nested h x.0 x.1)) x.2
  one_script nested {t} (one_command {r = r} {c = c} {o = o} e h rest) p q =
      let x = subst (OfScript nested t p) e (of_script nested q) in
      after_done (λ u. ScriptAt S I nested (skip between u)) x.0 p o c r (one_script nested rest) (sym (one_words nested h x.0 x.1)) x.2

mutual
  unfolding InBracket

  pub one_in_bracket : (room : ℕ) (t : Bytes) (o p : Outcome Script) → InBracket room t o → InBracket room t p → o ≡ p
  one_in_bracket zero t o p h k = h ∙ sym k
  one_in_bracket (suc room) t o p h k = one_script (InBracket room) (InIndex room) (one_in_bracket room) (one_in_index room) true h p k

  pub one_in_index : (room : ℕ) (t : Bytes) (o p : Outcome Word) → InIndex room t o → InIndex room t p → o ≡ p
  one_in_index zero t o p h k = h ∙ sym k
  one_in_index (suc room) t o p h k = one_parts (InBracket room) (InIndex room) (one_in_bracket room) (one_in_index room) index h p k

-- no text has two readings
pub one_reading : (t : Bytes) (o p : Outcome Script) → Reads t o → Reads t p → o ≡ p
one_reading t o p h k = one_script (InBracket most_nested) (InIndex most_nested) (one_in_bracket most_nested) (one_in_index most_nested) false h p k
