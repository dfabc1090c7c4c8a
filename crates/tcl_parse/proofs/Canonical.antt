-- The tree of a script is canonical.
use Rattle.std.proofs.Common.{◌≡◌, ◌≢◌, ℕ, zero, suc, ◌+◌, List, [], ◌∷◌, ◌++◌, length, Bool, true, false, Option, Some, None, sym, subst}
use Rattle.std.specs.Prelude.{if◌then◌else◌}
use Rattle.tcl_parse.specs.Gaps.{at_end, ends_word}
use Rattle.tcl_parse.specs.Tree.{Part, text, variable, element, bracket, Parts, Word, Command, Script, parts, words, commands, literal}
use Rattle.tcl_parse.specs.Names.{part_by, element_parts}
use Rattle.tcl_parse.specs.Outcome.{Outcome, done, fault, put, put_text}
use Rattle.tcl_parse.specs.Steps.{Mode, quotes, index, bare_word, Substitution, named, indexed, opened, unnamed}
use Rattle.tcl_parse.specs.Grammar.{PartIs, PartsAt, no_part, some_bytes, bad_part, one_part, EnclosedAt, in_braces, in_quotes, WordAt, enclosed, in_nothing, WordsAt, no_word, bad_word, one_word, ScriptAt, no_command, bad_command, one_command, InBracket, InIndex, close_bracket, close_index, close_brace, close_quote, followed}
use Rattle.tcl_parse.specs.Reading.{Spells}
use Rattle.tcl_parse.specs.Canonical.{FitsBefore, HasWords, IsCanonicalPart, AreCanonicalParts, AreCanonicalWords, AreCanonicalCommands, IsCanonical}

some_bytes_of : (b : ℕ) (bs : List ℕ) → (b ∷ bs) ≢ []
some_bytes_of b bs = λ e. cc

literal_canonical : (bs : List ℕ) (w : Word) → AreCanonicalParts (parts w) → AreCanonicalParts (parts (literal bs w))
literal_canonical [] w h = h
literal_canonical (b ∷ bs) [] h = ((some_bytes_of b bs, tt), tt, tt)
literal_canonical (b ∷ bs) (text cs ∷ w) h = ((some_bytes_of b (bs ++ cs), h.0.1), tt, h.2)
literal_canonical (b ∷ bs) (variable x ∷ w) h = ((some_bytes_of b bs, tt), tt, h)
literal_canonical (b ∷ bs) (element x i ∷ w) h = ((some_bytes_of b bs, tt), tt, h)
literal_canonical (b ∷ bs) (bracket s ∷ w) h = ((some_bytes_of b bs, tt), tt, h)

abbrev CanonicalPart : Outcome Part → Type 0
CanonicalPart (done p r) = ((ps : Parts) → FitsBefore p ps) × IsCanonicalPart p
CanonicalPart (fault k n) = Unit {0}

abbrev CanonicalWord : Outcome Word → Type 0
CanonicalWord (done w r) = AreCanonicalParts (parts w)
CanonicalWord (fault k n) = Unit {0}

abbrev CanonicalCommand : Outcome Command → Type 0
CanonicalCommand (done c r) = AreCanonicalWords (words c)
CanonicalCommand (fault k n) = Unit {0}

abbrev CanonicalScript : Outcome Script → Type 0
CanonicalScript (done s r) = AreCanonicalCommands (commands s)
CanonicalScript (fault k n) = Unit {0}

named_canonical : (x : List ℕ) (o : Option (List ℕ × List ℕ)) (r : List ℕ) → CanonicalPart (done (part_by x o) r)
named_canonical x None r = (λ ps. tt, tt)
named_canonical x (Some y) r = (λ ps. tt, literal_canonical y.1 [] tt)

index_canonical : (left : ℕ) (x : List ℕ) (i : Outcome Word) → CanonicalWord i → CanonicalPart (close_index left x i)
index_canonical left x (done w []) h = tt
index_canonical left x (done w (b ∷ r)) h = (λ ps. tt, h)
index_canonical left x (fault k n) h = tt

bracket_canonical : (left : ℕ) (s : Outcome Script) → CanonicalScript s → CanonicalPart (close_bracket left s)
bracket_canonical left (done s []) h = tt
bracket_canonical left (done s (b ∷ r)) h = (λ ps. tt, h)
bracket_canonical left (fault k n) h = tt

put_text_canonical : (bs : List ℕ) (o : Outcome Word) → CanonicalWord o → CanonicalWord (put_text bs o)
put_text_canonical bs (done w r) h = literal_canonical bs w h
put_text_canonical bs (fault k n) h = tt

put_part_canonical : (p : Part) (r : List ℕ) (o : Outcome Word) → CanonicalPart (done p r) → CanonicalWord o → CanonicalWord (put p o)
put_part_canonical p r (done w u) h k = (h.0 (parts w), h.1, k)
put_part_canonical p r (fault j n) h k = tt

brace_canonical : (left : ℕ) (x : Option (List ℕ × List ℕ)) → CanonicalWord (close_brace left x)
brace_canonical left None = tt
brace_canonical left (Some x) = literal_canonical x.0 [] tt

quote_canonical : (left : ℕ) (o : Outcome Word) → CanonicalWord o → CanonicalWord (close_quote left o)
quote_canonical left (done w []) h = tt
quote_canonical left (done w (b ∷ r)) h = h
quote_canonical left (fault k n) h = tt

if_canonical : (b : Bool) (o p : Outcome Word) → CanonicalWord o → CanonicalWord p → CanonicalWord (if b then o else p)
if_canonical true o p h k = h
if_canonical false o p h k = k

followed_canonical : (nested : Bool) (o : Outcome Word) → CanonicalWord o → CanonicalWord (followed nested o)
followed_canonical nested (done w r) h = if_canonical (ends_word nested r) (done w r) (fault _ (length r)) h tt
followed_canonical nested (fault k n) h = tt

put_word_canonical : (w : Word) (o : Outcome Command) → AreCanonicalParts (parts w) → CanonicalCommand o → CanonicalCommand (put w o)
put_word_canonical w (done c r) h k = (h, k)
put_word_canonical w (fault j n) h k = tt

-- a command has a word
abbrev HasWord : Outcome Command → Type 0
HasWord (done c r) = HasWords (words c)
HasWord (fault k n) = Unit {0}

put_has_word : (w : Word) (o : Outcome Command) → HasWord (put w o)
put_has_word w (done c r) = tt
put_has_word w (fault k n) = tt

put_command_canonical : (c : Command) (o : Outcome Script) → HasWords (words c) → AreCanonicalWords (words c) → CanonicalScript o → CanonicalScript (put c o)
put_command_canonical c (done s r) i h k = (i, h, k)
put_command_canonical c (fault j n) i h k = tt

module _ (S : List ℕ → Outcome Script → Type 0) (I : List ℕ → Outcome Word → Type 0) (in_s : (t : List ℕ) (o : Outcome Script) → S t o → CanonicalScript o) (in_i : (t : List ℕ) (o : Outcome Word) → I t o → CanonicalWord o) where
  part_canonical : (left : ℕ) (s : Substitution) (o : Outcome Part) → PartIs S I left s o → CanonicalPart o
  part_canonical left (named x r) o h = subst CanonicalPart (sym h) (named_canonical x (element_parts x) r)
  part_canonical left unnamed o h = subst CanonicalPart (sym h) tt
  part_canonical left (indexed x r) o h = subst CanonicalPart (sym h.2) (index_canonical left x h.0 (in_i r h.0 h.1))
  part_canonical left (opened r) o h = subst CanonicalPart (sym h.2) (bracket_canonical (length r + 1) h.0 (in_s r h.0 h.1))

  parts_canonical : (m : Mode) {t : List ℕ} {o : Outcome Word} → PartsAt S I m t o → CanonicalWord o
  parts_canonical m (no_part e) = tt
  parts_canonical m (some_bytes {bs = bs} {o = o} e h) = put_text_canonical bs o (parts_canonical m h)
  parts_canonical m (bad_part e h) = tt
  parts_canonical m {t} (one_part {r = r} {s = s} p {o = o} e h q) = put_part_canonical p r o (part_canonical (length t) s (done p r) h) (parts_canonical m q)

  enclosed_canonical : {t : List ℕ} {o : Outcome Word} → EnclosedAt S I t o → CanonicalWord o
  enclosed_canonical {t} (in_braces x e h) = brace_canonical (length t) x
  enclosed_canonical {t} (in_quotes {o = o} e h) = quote_canonical (length t) o (parts_canonical quotes h)

  word_canonical : (nested : Bool) {t : List ℕ} {o : Outcome Word} → WordAt S I nested t o → CanonicalWord o
  word_canonical nested (enclosed {o = o} h) = followed_canonical nested o (enclosed_canonical h)
  word_canonical nested (in_nothing e h) = parts_canonical (bare_word nested) h

  words_canonical : (nested : Bool) {t : List ℕ} {o : Outcome Command} → WordsAt S I nested t o → CanonicalCommand o
  words_canonical nested (no_word e) = tt
  words_canonical nested (bad_word e h) = tt
  words_canonical nested (one_word {r = r} {w = w} {o = o} e h q) = put_word_canonical w o (word_canonical nested h) (words_canonical nested q)

  has_word : (nested : Bool) {t : List ℕ} {o : Outcome Command} → at_end nested t ≡ false → WordsAt S I nested t o → HasWord o
  has_word nested f (no_word e) = absurd (cc)
  has_word nested f (bad_word e h) = tt
  has_word nested f (one_word {w = w} {o = o} e h q) = put_has_word w o

  script_canonical : (nested : Bool) {t : List ℕ} {o : Outcome Script} → ScriptAt S I nested t o → CanonicalScript o
  script_canonical nested (no_command e) = tt
  script_canonical nested (bad_command e h) = tt
  script_canonical nested (one_command {r = r} {c = c} {o = o} e h q) = put_command_canonical c o (has_word nested e h) (words_canonical nested h) (script_canonical nested q)

mutual
  unfolding InBracket

  in_bracket_canonical : (room : ℕ) (t : List ℕ) (o : Outcome Script) → InBracket room t o → CanonicalScript o
  in_bracket_canonical zero t o h = subst CanonicalScript (sym h) tt
  in_bracket_canonical (suc room) t o h = script_canonical (InBracket room) (InIndex room) (in_bracket_canonical room) (in_index_canonical room) true h

  in_index_canonical : (room : ℕ) (t : List ℕ) (o : Outcome Word) → InIndex room t o → CanonicalWord o
  in_index_canonical zero t o h = subst CanonicalWord (sym h) tt
  in_index_canonical (suc room) t o h = parts_canonical (InBracket room) (InIndex room) (in_bracket_canonical room) (in_index_canonical room) index h

pub spelled_canonical : (t : List ℕ) (s : Script) → Spells s t → IsCanonical s
spelled_canonical t s h = script_canonical (InBracket 200) (InIndex 200) (in_bracket_canonical 200) (in_index_canonical 200) false h
