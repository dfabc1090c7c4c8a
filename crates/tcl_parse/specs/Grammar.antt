-- What a text is as a script, by cases on the rules. Each relation is between a text and the outcome of reading it from its front:
-- a value and what is left behind it, or the first fault that is reached and how many bytes are left where it stands.
-- A fault of something that isn't closed is told only at the end of the text, so it is that of the innermost thing that is open there.
use Rattle.std.specs.Prelude.{◌≡◌, ℕ, zero, ◌+◌, suc, [], ◌∷◌, length, drop, Bool, true, false, Option, Some, None, if◌then◌else◌}
use Rattle.txt_core.specs.Names.{Bytes}
use Rattle.tcl_parse.specs.declared.fault.Kind.{Kind}
use Rattle.tcl_parse.specs.declared.fault.Kind.TheVariants.{Quote, Brace, Bracket, Variable, Extra, Deep}
use Rattle.tcl_parse.specs.Gaps.{skip, between, skip_blanks, at_end, ends_word}
use Rattle.tcl_parse.specs.Braces.{BracedAt}
use Rattle.tcl_parse.specs.Names.{named_part}
use Rattle.tcl_parse.specs.Tree.{Part, element, bracket, Word, Command, Script, parts, commands, literal}
use Rattle.tcl_parse.specs.Outcome.{Outcome, done, fault, put, put_text}
use Rattle.tcl_parse.specs.Steps.{Mode, bare_word, quotes, index, Substitution, named, indexed, opened, unnamed, ends, bytes, substituted, step_at, next}
use Rattle.txt_core.specs.Limits.{most_nested}
-- How a word begins, as an element of a list does: with an opening brace, with a quote, or with any other byte.
pub use Rattle.txt_core.specs.Lists.{Opening, by_brace, by_quote, bare, opening}

-- An element of the array x, from what reading its index gives: the index ends at the closing parenthesis before which reading stops.
-- Where the text ends before it, the fault `Variable` stands at the element's dollar, from which on left bytes are left.
abbrev pub close_index : ℕ → Bytes → Outcome Word → Outcome Part
close_index left x (done w []) = fault Variable left
close_index left x (done w (b ∷ r)) = done (element x (parts w)) r
close_index left x (fault k n) = fault k n

-- A bracket, from what reading its script gives: the script ends at the closing bracket before which reading stops.
-- Where the text ends before it, the fault `Bracket` stands at the opening bracket, from which on left bytes are left.
abbrev pub close_bracket : ℕ → Outcome Script → Outcome Part
close_bracket left (done s []) = fault Bracket left
close_bracket left (done s (b ∷ r)) = done (bracket (commands s)) r
close_bracket left (fault k n) = fault k n

-- A word in braces, from its bytes and what is left behind the matching brace: it is that text, and has no part where there is no byte.
-- Where no brace matches, the fault `Brace` stands at the opening brace, from which on left bytes are left.
abbrev pub close_brace : ℕ → Option (Bytes × Bytes) → Outcome Word
close_brace left None = fault Brace left
close_brace left (Some x) = done (literal x.0 []) x.1

-- A word in quotes, from what reading its parts gives: they end at the closing quote before which reading stops.
-- Where the text ends before it, the fault `Quote` stands at the opening quote, from which on left bytes are left.
abbrev pub close_quote : ℕ → Outcome Word → Outcome Word
close_quote left (done w []) = fault Quote left
close_quote left (done w (b ∷ r)) = done w r
close_quote left (fault k n) = fault k n

-- Behind the closing brace or quote the word must end; else the fault `Extra` stands at the byte that follows, whatever it is, a backslash too.
abbrev pub followed : Bool → Outcome Word → Outcome Word
followed nested (done w r) = if ends_word nested r then done w r else fault Extra (length r)
followed nested (fault k n) = fault k n

-- InBracket says what reading the script of a bracket gives, and InIndex what reading an index gives, from behind the opening byte on.
module _ (InBracket : Bytes → Outcome Script → Type 0) (InIndex : Bytes → Outcome Word → Type 0) where
  -- What is substituted, as one part, where left bytes are left from its first byte on: a variable, or the element that its name means;
  -- for `${` with no closing brace the fault `Variable` at the dollar; an element with its index; or a bracket with its script.
  abbrev pub PartIs : ℕ → Substitution → Outcome Part → Type 0
  PartIs left (named x r) o = o ≡ done (named_part x) r
  PartIs left unnamed o = o ≡ fault Variable left
  PartIs left (indexed x r) o = (i : Outcome Word) × InIndex r i × (o ≡ close_index left x i)
  PartIs left (opened r) o = (s : Outcome Script) × InBracket r s × (o ≡ close_bracket (length r + 1) s)

  -- The parts from here on, to where they end. The result of a substitution is one part of the word, whatever its value will be: it is never split into words.
  pub data PartsAt (m : Mode) : Bytes → Outcome Word → Type 0 where
    -- the parts end here
    no_part : {t : Bytes} → next m t ≡ ends → PartsAt m t (done [] t)
    -- bytes come next: they join a text behind them
    some_bytes : {t r bs : Bytes} {o : Outcome Word} → next m t ≡ bytes bs r → PartsAt m r o → PartsAt m t (put_text bs o)
    -- something to substitute comes next, and has a fault
    bad_part : {t : Bytes} {s : Substitution} {k : Kind} {n : ℕ} → next m t ≡ substituted s → PartIs (length t) s (fault k n) → PartsAt m t (fault k n)
    -- something to substitute comes next, and then the rest of the parts
    one_part : {t r : Bytes} {s : Substitution} (p : Part) {o : Outcome Word} → next m t ≡ substituted s → PartIs (length t) s (done p r) → PartsAt m r o → PartsAt m t (put p o)

  -- What is substituted at the front of a text, where it begins with a dollar and a name or with a bracket.
  abbrev pub SubstitutedAt : Bytes → Outcome Part → Type 0
  SubstitutedAt t o = (s : Substitution) × (step_at t ≡ substituted s) × PartIs (length t) s o

  -- A word in braces or quotes at the front of a text, up to and with its closing byte.
  pub data EnclosedAt : Bytes → Outcome Word → Type 0 where
    -- in braces nothing is substituted
    in_braces : {t : Bytes} (x : Option (Bytes × Bytes)) → opening t ≡ by_brace → BracedAt (drop 1 t) x → EnclosedAt t (close_brace (length t) x)
    -- in quotes substitutions are made
    in_quotes : {t : Bytes} {o : Outcome Word} → opening t ≡ by_quote → PartsAt quotes (drop 1 t) o → EnclosedAt t (close_quote (length t) o)

  -- A word. nested: it stands in a bracket.
  pub data WordAt (nested : Bool) : Bytes → Outcome Word → Type 0 where
    -- in braces or quotes: behind its closing byte the word must end
    enclosed : {t : Bytes} {o : Outcome Word} → EnclosedAt t o → WordAt nested t (followed nested o)
    -- a bare word: it ends where its parts do
    in_nothing : {t : Bytes} {o : Outcome Word} → opening t ≡ bare → PartsAt (bare_word nested) t o → WordAt nested t o

  -- The words from here on, to the end of the command.
  pub data WordsAt (nested : Bool) : Bytes → Outcome Command → Type 0 where
    -- the command ends here
    no_word : {t : Bytes} → at_end nested t ≡ true → WordsAt nested t (done [] t)
    -- a word with a fault
    bad_word : {t : Bytes} {k : Kind} {n : ℕ} → at_end nested t ≡ false → WordAt nested t (fault k n) → WordsAt nested t (fault k n)
    -- a word, and behind the blanks and backslash-newlines after it the other words
    one_word : {t r : Bytes} {w : Word} {o : Outcome Command} → at_end nested t ≡ false → WordAt nested t (done w r) → WordsAt nested (skip_blanks false r) o → WordsAt nested t (put w o)

  -- The commands from here on, to the end of the script.
  pub data ScriptAt (nested : Bool) : Bytes → Outcome Script → Type 0 where
    -- the script ends here
    no_command : {t : Bytes} → at_end nested t ≡ true → ScriptAt nested t (done [] t)
    -- a command with a fault
    bad_command : {t : Bytes} {k : Kind} {n : ℕ} → at_end nested t ≡ false → WordsAt nested t (fault k n) → ScriptAt nested t (fault k n)
    -- a command, and behind what is passed over before the next one the other commands
    one_command : {t r : Bytes} {c : Command} {o : Outcome Script} → at_end nested t ≡ false → WordsAt nested t (done c r) → ScriptAt nested (skip between r) o → ScriptAt nested t (put c o)

-- The script of a bracket and the index of an element, from behind their opening byte on, where room brackets and indexes more may stand in one another.
-- Where there is no room, the fault `Deep` stands at the opening byte: the `[` or the `(`.
unfoldable mutual
  pub InBracket : ℕ → Bytes → Outcome Script → Type 0
  InBracket zero t o = o ≡ fault Deep (length t + 1)
  InBracket (suc room) t o = ScriptAt (InBracket room) (InIndex room) true (skip between t) o

  pub InIndex : ℕ → Bytes → Outcome Word → Type 0
  InIndex zero t o = o ≡ fault Deep (length t + 1)
  InIndex (suc room) t o = PartsAt (InBracket room) (InIndex room) index t o

-- A whole text: a script that stands in no bracket. At most 200 brackets and indexes may stand in one another, both counted
-- together.
abbrev pub Reads : Bytes → Outcome Script → Type 0
Reads t o = ScriptAt (InBracket most_nested) (InIndex most_nested) false (skip between t) o
