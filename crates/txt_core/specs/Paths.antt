-- What the parts of paths and URLs stand between.
use Rattle.std.specs.Prelude.{ℕ, ◌==◌, Bool}
use Rattle.txt_core.specs.Names.{Bytes}
use Rattle.txt_core.specs.Texts.{begins_with}

-- the byte of a slash
abbrev pub slash : ℕ
slash = 47

abbrev pub is_slash : ℕ → Bool
is_slash byte = byte == slash

-- a path or a URL begins with a slash
abbrev pub begins_with_slash : Bytes → Bool
begins_with_slash text = begins_with slash text
