-- The parts of a pattern of `format`: bytes that stand for themselves, and forms.
use Rattle.std.specs.Prelude.{ℕ, zero, suc, ◌+◌, List, [], ◌∷◌, drop, length, Bool, ◌==◌, ◌||◌, ◌&&◌, nat_le, Option, None, Some, option_map, if◌then◌else◌}
use Rattle.txt_core.specs.Names.{Bytes}
use Rattle.txt_core.specs.Digits.{leading_digits, value_of}
use Rattle.txt_core.specs.Texts.{begins_with}

-- A form: `%`, then an optional `-`, which puts the text to the left of its width, then an optional
-- `0`, which fills up with zeros in place of spaces, then an optional width in digits, and a letter.
pub record Form : Type 0 where
  pub left : Bool
  pub zeros : Bool
  pub width : ℕ
  pub letter : ℕ

pub data Part : Type 0 where
  itself : ℕ → Part
  form : Form → Part

-- the letters d, s, x, c and %
abbrev pub is_letter : ℕ → Bool
is_letter b = (b == 100) || (b == 115) || (b == 120) || (b == 99) || (b == 37)

-- 1 where a flag stands, else 0
abbrev pub taken_by : Bool → ℕ
taken_by flag = if flag then 1 else 0

-- all digits at the front of a text
abbrev pub all_digits : Bytes → Bytes
all_digits t = leading_digits 10 (length t) t

-- how wide a form may be, in bytes
abbrev pub most_wide : ℕ
most_wide = 1000

-- a form with this letter, where the letter is one of the five and the width isn't over the widest
abbrev pub form_by : Bool → Bool → ℕ → Bytes → Option Form
form_by left zeros width [] = None
form_by left zeros width (letter ∷ t) =
    if is_letter letter && nat_le width most_wide then Some (record { left = left; zeros = zeros; width = width; letter = letter }) else None

-- the form whose flags, width and letter stand at the front of a text, and how many bytes these are
abbrev pub form_behind : Bool → Bool → Bytes → Option (Form × ℕ)
form_behind left zeros t =
    let digits = all_digits t in
    option_map (λ f. (f, taken_by left + taken_by zeros + length digits + 1)) (form_by left zeros (value_of 10 digits) (drop (length digits) t))

abbrev pub form_zeros : Bool → Bytes → Option (Form × ℕ)
form_zeros left t = let zeros = begins_with 48 t in form_behind left zeros (drop (taken_by zeros) t)

unfoldable pub form_at : Bytes → Option (Form × ℕ)
form_at t = let left = begins_with 45 t in form_zeros left (drop (taken_by left) t)

abbrev pub in_front : Part → Option (List Part) → Option (List Part)
in_front part None = None
in_front part (Some parts) = Some (part ∷ parts)

-- a form, and behind its bytes the parts that come after it
abbrev pub form_in_front : Option (Form × ℕ) → (ℕ → Option (List Part)) → Option (List Part)
form_in_front None behind = None
form_in_front (Some f) behind = in_front (form f.0) (behind f.1)

-- The parts of a pattern, where each `%` begins a form; so many bytes at its front belong to a form
-- that began before them.
unfoldable pub parts_behind : Bytes → ℕ → Option (List Part)
parts_behind [] skip = Some []
parts_behind (b ∷ t) (suc skip) = parts_behind t skip
parts_behind (b ∷ t) zero = if b == 37 then form_in_front (form_at t) (λ skip. parts_behind t skip) else in_front (itself b) (parts_behind t 0)

-- the parts of a whole pattern; none where a `%` begins no form
abbrev pub parts : Bytes → Option (List Part)
parts pattern = parts_behind pattern 0
