-- `split` and `join`.
use Rattle.std.specs.Prelude.{ℕ, [], ◌∷◌, map, Bool, ◌==◌, if◌then◌else◌, codes, Ok}
use Rattle.std.specs.List.{list_any}
use Rattle.txt_core.specs.Names.{Bytes, Words}
use Rattle.txt_core.specs.Quoting.{quoting}
use Rattle.natives.specs.Answers.{Reply, unless}
use Rattle.natives.specs.Words.{arg, arg_or, usual_chars}
use Rattle.natives.specs.Checks.{list_error, items}
use Rattle.natives.specs.Lists.{joined}

-- whether a byte is one of these
abbrev pub is_one_of : Bytes → ℕ → Bool
is_one_of chars b = list_any (λ c. c == b) chars

-- a byte at the front of the first piece
abbrev pub in_first : ℕ → Words → Words
in_first b [] = (b ∷ []) ∷ []
in_first b (piece ∷ pieces) = (b ∷ piece) ∷ pieces

-- the pieces of a text between the bytes that cut it: always one more than these
abbrev pub pieces : (ℕ → Bool) → Bytes → Words
pieces cuts [] = [] ∷ []
pieces cuts (b ∷ t) = if cuts b then [] ∷ pieces cuts t else in_first b (pieces cuts t)

-- each byte by itself
abbrev pub single_bytes : Bytes → Words
single_bytes t = map (λ b. b ∷ []) t

-- the empty text has no piece, and no byte to cut at gives single bytes
abbrev pub split_text : Bytes → Bytes → Words
split_text [] chars = []
split_text (b ∷ t) [] = single_bytes (b ∷ t)
split_text (b ∷ t) (c ∷ chars) = pieces (is_one_of (c ∷ chars)) (b ∷ t)

-- `split text ?chars?`: the list of the text's pieces between the bytes of chars, which are space,
-- tab, newline and carriage return where they are left out
abbrev pub split_reply : Words → Reply
split_reply words = Ok (quoting (split_text (arg words 1) (arg_or words 2 usual_chars)))

-- `join list ?text?`: the elements with the text between each two, a space where it is left out
abbrev pub join_reply : Words → Reply
join_reply words = unless (list_error (arg words 1)) (Ok (joined (arg_or words 2 (codes " ")) (items (arg words 1))))
