-- What ends a word and a command, and what is passed over between words and between commands.
use Rattle.std.specs.Prelude.{ℕ, [], ◌∷◌, Bool, true, false, ◌&&◌, ◌||◌, ◌==◌, ◌≡◌, ◌≢◌, if◌then◌else◌}
use Rattle.txt_core.specs.Names.{Bytes}
use Rattle.tcl_parse.specs.Bytes.{newline, hash, backslash, right_bracket, is_blank, ends_command, joins_lines}

-- In a bracket, its closing bracket ends a command. nested: reading stands in a bracket.
abbrev pub closes : Bool → ℕ → Bool
closes nested b = nested && (b == right_bracket)

-- A command ends at the end of the text, at a newline or semicolon, or at the closing bracket of the bracket that it stands in.
abbrev pub at_end : Bool → Bytes → Bool
at_end nested [] = true
at_end nested (b ∷ t) = ends_command b || closes nested b

-- A bare word ends, and a word in braces or quotes must be followed by, a blank, a backslash-newline, or what ends the command.
abbrev pub ends_word : Bool → Bytes → Bool
ends_word nested [] = true
ends_word nested (b ∷ t) = is_blank b || ends_command b || closes nested b || joins_lines b t

-- A comment, from behind its hash on: this is left behind it.
pub data Commented : Bytes → Bytes → Type 0 where
  -- it ends with the text
  text_ends : Commented [] []
  -- or with the next newline
  comment_ends : (r : Bytes) → Commented (newline ∷ r) r
  -- a backslash takes the next byte with it, where there is one
  taken_last : Commented (backslash ∷ []) []
  taken : {c : ℕ} {t r : Bytes} → Commented t r → Commented (backslash ∷ c ∷ t) r
  -- any other byte belongs to it
  commented : {b : ℕ} {t r : Bytes} → b ≢ newline → b ≢ backslash → Commented t r → Commented (b ∷ t) r

-- What is passed over before a command: this is left, which is nothing or begins the command, or ends it.
pub data Passed : Bytes → Bytes → Type 0 where
  -- the text ends
  nothing : Passed [] []
  -- none of what is passed over stands here
  begins : {b : ℕ} {t : Bytes} → (is_blank b || ends_command b) ≡ false → joins_lines b t ≡ false → b ≢ hash → Passed (b ∷ t) (b ∷ t)
  -- a blank, a newline or a semicolon
  passed : {b : ℕ} {t r : Bytes} → (is_blank b || ends_command b) ≡ true → Passed t r → Passed (b ∷ t) r
  -- a backslash-newline
  joined : {t r : Bytes} → Passed t r → Passed (backslash ∷ newline ∷ t) r
  -- a comment
  behind_comment : {t u r : Bytes} → Commented t u → Passed u r → Passed (hash ∷ t) r

-- Where reading stands before a command.
pub data Before : Type 0 where
  -- outside a comment
  between : Before
  -- behind the backslash of a backslash-newline
  joining : Before
  -- in a comment
  comment : Before
  -- in a comment, behind a backslash
  escaped : Before

-- What is left from the next command on. Before a command blanks, newlines, semicolons, backslash-newlines and comments are passed over: Passed says the same by cases.
-- A comment goes from a # up to and with the next newline that no backslash takes with it: in a comment a backslash takes the next byte.
unfoldable pub skip : Before → Bytes → Bytes
skip m [] = []
skip between (b ∷ t) =
    if is_blank b || ends_command b then skip between t
    else if joins_lines b t then skip joining t
    else if b == hash then skip comment t
    else b ∷ t
skip joining (b ∷ t) = skip between t
skip comment (b ∷ t) = if b == newline then skip between t else if b == backslash then skip escaped t else skip comment t
skip escaped (b ∷ t) = skip comment t

-- What is left from the next word on, or from what ends the command: between words blanks and backslash-newlines are passed over.
-- behind: reading stands behind the backslash of a backslash-newline.
unfoldable pub skip_blanks : Bool → Bytes → Bytes
skip_blanks behind [] = []
skip_blanks true (b ∷ t) = skip_blanks false t
skip_blanks false (b ∷ t) = if is_blank b then skip_blanks false t else if joins_lines b t then skip_blanks true t else b ∷ t
