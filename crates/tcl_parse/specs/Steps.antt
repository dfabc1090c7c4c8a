-- What comes next in a word that isn't in braces: its parts one by one.
use Rattle.std.specs.Prelude.{[], ◌∷◌, Bool, true, Option, Some, None, ◌==◌, if◌then◌else◌}
use Rattle.txt_core.specs.Names.{Bytes}
use Rattle.tcl_parse.specs.Bytes.{quote_mark, dollar, left_parenthesis, right_parenthesis, left_bracket, backslash, left_brace, right_brace}
use Rattle.tcl_parse.specs.Gaps.{ends_word}
use Rattle.tcl_parse.specs.Names.{name_at, up_to}
use Rattle.txt_core.specs.Escape.{escape_of}

-- Where the parts of a word stand.
pub data Mode : Type 0 where
  -- in a bare word, which stands in a bracket or not
  bare_word : Bool → Mode
  -- in quotes
  quotes : Mode
  -- in the index of an array's element
  index : Mode

-- The parts end: a bare word's where a word ends, those in quotes at the next quote, and those of an index at the next closing parenthesis.
-- All end at the end of the text.
abbrev pub stops : Mode → Bytes → Bool
stops (bare_word nested) t = ends_word nested t
stops quotes [] = true
stops quotes (b ∷ t) = b == quote_mark
stops index [] = true
stops index (b ∷ t) = b == right_parenthesis

-- What is substituted.
pub data Substitution : Type 0 where
  -- a variable of this name, behind which this is left
  named : Bytes → Bytes → Substitution
  -- an element of the array of this name, whose index begins where this is left
  indexed : Bytes → Bytes → Substitution
  -- a script in a bracket, which begins where this is left
  opened : Bytes → Substitution
  -- a name in braces that isn't closed
  unnamed : Substitution

-- What comes next in a word.
pub data Step : Type 0 where
  -- the parts end
  ends : Step
  -- these bytes, behind which this is left
  bytes : Bytes → Bytes → Step
  -- something that is substituted
  substituted : Substitution → Step

-- `${name}`: the name ends at the next closing brace.
abbrev pub between_braces : Option (Bytes × Bytes) → Step
between_braces None = substituted unnamed
between_braces (Some x) = substituted (named x.0 x.1)

-- `$name` is an element where an opening parenthesis comes next, else a variable.
abbrev pub behind_name : Bytes → Bytes → Step
behind_name x [] = substituted (named x [])
behind_name x (b ∷ t) = if b == left_parenthesis then substituted (indexed x t) else substituted (named x (b ∷ t))

-- A dollar with no name behind it is itself.
abbrev pub by_name : Bytes → Bytes → Step
by_name [] t = bytes (dollar ∷ []) t
by_name (b ∷ x) t = behind_name (b ∷ x) t

-- Behind a dollar a name in braces may stand, or a bare one.
abbrev pub behind_dollar : Bytes → Step
behind_dollar [] = bytes (dollar ∷ []) []
behind_dollar (b ∷ t) = if b == left_brace then between_braces (up_to right_brace t) else by_name (name_at (b ∷ t)).0 (name_at (b ∷ t)).1

-- What stands at the front, wherever the parts end: a backslash form, what begins with a dollar, a bracket, or a byte that is itself.
abbrev pub step_at : Bytes → Step
step_at [] = ends
step_at (b ∷ t) =
    if b == backslash then bytes (escape_of t).0 (escape_of t).1
    else if b == dollar then behind_dollar t
    else if b == left_bracket then substituted (opened t)
    else bytes (b ∷ []) t

-- What comes next.
abbrev pub next : Mode → Bytes → Step
next m t = if stops m t then ends else step_at t
