-- Which texts are short enough for what is read of them to be kept for a later run.
use Rattle.std.specs.Prelude.{ℕ, ◌≤◌, length}
use Rattle.txt_core.specs.Names.{Bytes}

-- how many bytes a text may have whose script or expression is kept for a later run; a loop keeps its own while it turns
abbrev pub most_kept_bytes : ℕ
most_kept_bytes = 4096

abbrev pub IsShort : Bytes → Type 0
IsShort text = length text ≤ most_kept_bytes
