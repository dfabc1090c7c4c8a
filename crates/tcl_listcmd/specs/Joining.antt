-- Texts that are joined one behind the other.
use Rattle.std.specs.Prelude.{[], ◌∷◌, ◌++◌}
use Rattle.txt_core.specs.Names.{Bytes, Words}

-- A text behind what is joined already, with a space between the two; an empty text changes nothing,
-- and the first that isn't empty stands alone.
abbrev pub with_word : Bytes → Bytes → Bytes
with_word joined [] = joined
with_word [] (b ∷ word) = b ∷ word
with_word (a ∷ joined) (b ∷ word) = (a ∷ joined) ++ (32 ∷ b ∷ word)

-- texts, each behind those before it
abbrev pub with_words : Bytes → Words → Bytes
with_words joined [] = joined
with_words joined (word ∷ words) = with_words (with_word joined word) words
