-- Lines at the front of a text.
use Rattle.std.specs.Prelude.{ℕ, [], ◌∷◌, ◌++◌, ◌≡◌, ◌≢◌, ◌<◌, ◌⊎◌, Option, Some, None, length, slice_index}
use Rattle.std.specs.List.{before_first, after_first}
use Rattle.txt_core.specs.Names.{Bytes}
use Rattle.txt_core.specs.Texts.{is_newline}

-- the line at the front of a text: what stands before its first newline, or all where it has none; the empty text has no line
abbrev pub line_of : Bytes → Option Bytes
line_of [] = None
line_of (b ∷ bytes) = Some (before_first is_newline (b ∷ bytes))

-- what stands behind that line and its newline
abbrev pub behind_line : Bytes → Bytes
behind_line bytes = after_first is_newline bytes

-- the bytes are this line, a newline and these bytes behind it, or this line alone; and no newline is in the line
pub record IsLine (bytes line behind : Bytes) : Type 0 where
  pub whole : (bytes ≡ line ++ (10 ∷ behind)) ⊎ ((bytes ≡ line) × (behind ≡ []))
  pub one : (k : ℕ) → k < length line → slice_index line k ≢ 10
