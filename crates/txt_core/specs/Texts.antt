-- What is asked of a text by its bytes.
use Rattle.std.specs.Prelude.{ℕ, ◌==◌, [], ◌∷◌, Bool, true, false}
use Rattle.txt_core.specs.Names.{Bytes}

-- a text that has a byte
abbrev pub is_filled : Bytes → Bool
is_filled [] = false
is_filled (byte ∷ rest) = true

-- a text whose first byte is this one
abbrev pub begins_with : ℕ → Bytes → Bool
begins_with byte [] = false
begins_with byte (first ∷ rest) = first == byte

-- the byte that ends a line
abbrev pub is_newline : ℕ → Bool
is_newline byte = byte == 10
