-- The code's forms and parts of a pattern, as those of the rules.
use Rattle.std.specs.Prelude.{ℕ, ◌+◌, ◌≤◌, ◌==◌, List, [], drop, length, count_by, Bool, Option, None, Some, option_map, if◌then◌else◌, Ok}
use Rattle.txt_core.specs.Names.{Bytes, Words}
use Rattle.txt_core.specs.Digits.{value_of}
use Rattle.natives.specs.Parts.{itself, form, all_digits, form_by, form_at}
use Rattle.natives.specs.Parts as parts
use Rattle.natives.specs.Answers.{Reply}
use Rattle.natives.specs.Formatting.{takes_word, written}
use Rattle.tcl_string.specs.declared.pattern.Letter.{Letter}
use Rattle.tcl_string.specs.declared.pattern.Letter.TheVariants.{Decimal, Word, Hexadecimal, Character, Percent}
use Rattle.tcl_string.specs.declared.pattern.Form.{Form}
use Rattle.tcl_string.specs.declared.pattern.Part as code
use Rattle.tcl_string.specs.declared.pattern.Part.TheVariants as part

abbrev pub letter_code : Letter → ℕ
letter_code Decimal = 100
letter_code Word = 115
letter_code Hexadecimal = 120
letter_code Character = 99
letter_code Percent = 37

abbrev pub form_of : Form → parts.Form
form_of f = record { left = f.left; zeros = f.zeros; width = f.width; letter = letter_code f.letter }

abbrev pub part_of : code.Part → parts.Part
part_of (part.Itself b) = itself b
part_of (part.Form f) = form (form_of f)

-- a form that takes so many bytes of a text, and what is behind them
abbrev pub with_rest : Bytes → Option (parts.Form × ℕ) → Option (parts.Form × Bytes)
with_rest t found = option_map (λ (f : parts.Form × ℕ). (f.0, drop f.1 t)) found

-- the form whose width and letter stand at the front of a text behind these flags, and what is behind it
abbrev pub behind_flags : Bool → Bool → Bytes → Option (parts.Form × Bytes)
behind_flags left zeros t =
    option_map (λ (f : parts.Form). (f, drop (length (all_digits t) + 1) t)) (form_by left zeros (value_of 10 (all_digits t)) (drop (length (all_digits t)) t))

-- a form as a part
abbrev pub as_part : Option (parts.Form × Bytes) → Option (parts.Part × Bytes)
as_part found = option_map (λ (f : parts.Form × Bytes). (form f.0, f.1)) found

-- the part that begins with a byte, and what is behind it: a `%` begins a form
abbrev pub first_part : ℕ → Bytes → Option (parts.Part × Bytes)
first_part b t = if b == 37 then as_part (with_rest t (form_at t)) else Some (itself b, t)

-- how many words the parts take
abbrev pub words_taken : Option (List parts.Part) → Option ℕ
words_taken found = option_map (count_by takes_word) found

-- there are parts, and words enough for them
abbrev pub Fits : Option (List parts.Part) → Words → Type 0
Fits None words = ⊥
Fits (Some ps) words = count_by takes_word ps ≤ length words

-- what the parts write
abbrev pub written_of : Option (List parts.Part) → Words → Reply
written_of None words = Ok []
written_of (Some ps) words = written ps words
