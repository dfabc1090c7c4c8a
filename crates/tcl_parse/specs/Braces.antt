-- Words in braces.
use Rattle.std.specs.Prelude.{ℕ, [], ◌∷◌, ◌++◌, Option, Some, None, ◌≢◌}
use Rattle.txt_core.specs.Names.{Bytes}
use Rattle.tcl_parse.specs.Bytes.{newline, space, backslash, left_brace, right_brace}
use Rattle.txt_core.specs.Escape.{skip_margin}

-- Behind an opening brace stands this text; up to the matching brace it means the bytes v, and behind that brace r is left.
pub data Braced : Bytes → Bytes → Bytes → Type 0 where
  -- the matching brace
  matching_brace : (r : Bytes) → Braced (right_brace ∷ r) [] r
  -- a backslash-newline, with the spaces and tabs behind it, means one space
  joined_lines : {t v r : Bytes} → Braced (skip_margin t) v r → Braced (backslash ∷ newline ∷ t) (space ∷ v) r
  -- any other backslash and the byte behind it stand for themselves, also where that byte is a brace or a backslash
  taken_byte : {c : ℕ} {t v r : Bytes} → c ≢ newline → Braced t v r → Braced (backslash ∷ c ∷ t) (backslash ∷ c ∷ v) r
  -- a pair of braces within stands for itself, with what is between
  inner_braces : {t w u v r : Bytes} → Braced t w u → Braced u v r → Braced (left_brace ∷ t) (left_brace ∷ w ++ right_brace ∷ v) r
  -- any other byte stands for itself
  plain_byte : {b : ℕ} {t v r : Bytes} → b ≢ backslash → b ≢ left_brace → b ≢ right_brace → Braced t v r → Braced (b ∷ t) (b ∷ v) r

-- What stands behind an opening brace: its bytes and what is left behind the matching brace, or nothing where no brace matches.
abbrev pub BracedAt : Bytes → Option (Bytes × Bytes) → Type 0
BracedAt t (Some x) = Braced t x.0 x.1
BracedAt t None = (v r : Bytes) → Braced t v r → ⊥
