-- `format`.
use Rattle.std.specs.Prelude.{ℕ, ◌-◌, ◌^◌, List, [], ◌∷◌, ◌++◌, drop, length, replicate, unsigned_abs, ℤ, pos, negsuc, Bool, false, ◌==◌, ◌&&◌, ◌||◌, not, nat_lt, nat_le, count_by, Option, None, Some, if◌then◌else◌, codes, decimal, encode_utf8, Ok, Err}
use Rattle.std.specs.Fmt.{digits}
use Rattle.txt_core.specs.Names.{Bytes, Words}
use Rattle.natives.specs.Answers.{Reply, unless}
use Rattle.txt_core.specs.ErrorTexts.{wrong_words, bad_value}
use Rattle.natives.specs.Words.{arg}
use Rattle.natives.specs.Checks.{integer_error, integer}
use Rattle.natives.specs.Parts.{Form, Part, itself, form, parts}

-- A text with its sign, filled up to the form's width in bytes: to the left with spaces behind it,
-- else with zeros between sign and text, or with spaces before both.
unfoldable pub filled : Form → Bytes → Bytes → Bytes
filled f sign text =
    let missing = f.width - length (sign ++ text) in
    if f.left then sign ++ text ++ replicate missing 32
    else if f.zeros then sign ++ replicate missing 48 ++ text
    else replicate missing 32 ++ sign ++ text

-- the number's sign, where it is below 0
abbrev pub sign_of : ℤ → Bytes
sign_of (pos n) = []
sign_of (negsuc n) = codes "-"

-- the number of 64 bits in two's complement
abbrev pub in_64_bits : ℤ → ℕ
in_64_bits (pos n) = n
in_64_bits (negsuc n) = 2 ^ 64 - 1 - n

-- whether a number is a character's: at most 10FFFF in hexadecimal, and none of D800 to DFFF
abbrev pub is_character : ℤ → Bool
is_character (pos n) = nat_lt n 55296 || (nat_le 57344 n && nat_lt n 1114112)
is_character (negsuc n) = false

abbrev pub character_error : Bytes → Option Bytes
character_error word = if is_character (integer word) then None else Some (bad_value word (codes "format"))

-- what is wrong with the word of a form: `d`, `x` and `c` want a number, `c` a character's
unfoldable pub form_error : ℕ → Bytes → Option Bytes
form_error letter word =
    if letter == 115 then None
    else if letter == 99 then either_error (integer_error word) (character_error word)
    else integer_error word
  where
    either_error : Option Bytes → Option Bytes → Option Bytes
    either_error None later = later
    either_error (Some text) later = Some text

-- what a form writes of its word: `d` the number in decimal, `x` its 64 bits in hexadecimal, `c` the
-- UTF-8 of the character with this number, `s` the word
unfoldable pub form_text : Form → Bytes → Bytes
form_text f word =
    if f.letter == 100 then filled f (sign_of (integer word)) (decimal (unsigned_abs (integer word)))
    else if f.letter == 120 then filled f [] (digits 16 false (in_64_bits (integer word)))
    else if f.letter == 99 then filled f [] (encode_utf8 (unsigned_abs (integer word)))
    else filled f [] word

-- whether a part takes a word: each form but `%%`
abbrev pub takes_word : Part → Bool
takes_word (itself b) = false
takes_word (form f) = not (f.letter == 37)

abbrev pub put_front : Bytes → Reply → Reply
put_front front (Ok text) = Ok (front ++ text)
put_front front (Err error) = Err error

-- The parts written from left to right: a byte as itself, `%%` as a filled `%`, and each other form
-- with the next word. The first word that a form can't take is the error.
unfoldable pub written : List Part → Words → Reply
written [] words = Ok []
written (itself b ∷ parts) words = put_front (b ∷ []) (written parts words)
written (form f ∷ parts) words =
    if f.letter == 37 then put_front (filled f [] (codes "%")) (written parts words)
    else unless (form_error f.letter (arg words 0)) (put_front (form_text f (arg words 0)) (written parts (drop 1 words)))

-- as many words as the parts take must be there; surplus words are passed over
abbrev pub written_with : List Part → Words → Reply
written_with parts words = if nat_lt (length words) (count_by takes_word parts) then Err (wrong_words (codes "format")) else written parts words

-- a `%` that begins no form is an error of the whole pattern, before all others
abbrev pub format_with : Bytes → Option (List Part) → Words → Reply
format_with pattern None words = Err (bad_value pattern (codes "format"))
format_with pattern (Some parts) words = written_with parts words

-- `format pattern word*`: the pattern with its forms filled in
abbrev pub format_reply : Words → Reply
format_reply words = format_with (arg words 1) (parts (arg words 1)) (drop 2 words)
