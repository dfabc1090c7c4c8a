-- Which bytes are escaped.
use Rattle.std.proofs.Common.{◌≡◌, ◌∙◌, ap, sym, refl, ℕ, ◌<◌, ◌≤◌, Bool, true, false, not, ◌||◌, ◌==◌, nat_lt, List, [], ◌∷◌, ◌++◌, inl, inr, arith}
use Rattle.std.specs.Prelude.{if◌then◌else◌, flat_map}
use Rattle.std.proofs.lemmas.Bool.{agree_below, agree_below_at, cases_lt}
use Rattle.std.proofs.lemmas.Bool.Decides.{nat_tests}
use Rattle.std.specs.Char.{is_ascii}
use Rattle.percent_encoding.specs.AsciiSet.{contains, should_percent_encode}
use Rattle.percent_encoding.specs.Percent.{percent_encode, percent_encode_byte, encode_byte}
use Rattle.conn_host.specs.declared.encoding.TheConstants.{RESERVED}
use Rattle.conn_host.specs.TextCommands.{is_unreserved, encoded}

agree : agree_below (contains RESERVED) (λ b. not (is_unreserved b)) 128 ≡ true
agree = refl

above : (b : ℕ) → 128 ≤ b → is_unreserved b ≡ false
above b ge = grind (arith, nat_tests)

within_ascii : (inside : Bool) (b : ℕ) → b < 128 → (not (is_ascii b) || inside) ≡ inside
within_ascii inside b lt = grind (arith, nat_tests)

beyond_ascii : (inside : Bool) (b : ℕ) → 128 ≤ b → (not (is_ascii b) || inside) ≡ true
beyond_ascii inside b ge = grind (arith, nat_tests)

reserved : (b : ℕ) → should_percent_encode RESERVED b ≡ not (is_unreserved b)
unfolding should_percent_encode
reserved b = elim (cases_lt b 128) [
  | inl lt ↦ within_ascii (contains RESERVED b) b lt ∙ agree_below_at (contains RESERVED) (λ b. not (is_unreserved b)) 128 b agree lt
  | inr ge ↦ beyond_ascii (contains RESERVED b) b ge ∙ sym (ap not (above b ge))
]

turned : (test : Bool) (x y : List ℕ) → (if not test then x else y) ≡ (if test then y else x)
turned true x y = refl
turned false x y = refl

one : (b : ℕ) → encode_byte RESERVED b ≡ (if is_unreserved b then b ∷ [] else percent_encode_byte b)
one b =
    ap (λ (test : Bool). if test then percent_encode_byte b else b ∷ []) (reserved b) ∙ turned (is_unreserved b) (percent_encode_byte b) (b ∷ [])

all : (bytes : List ℕ) → flat_map (encode_byte RESERVED) bytes ≡ encoded bytes
all [] = refl
all (b ∷ bytes) =
    ap (λ (front : List ℕ). front ++ flat_map (encode_byte RESERVED) bytes) (one b)
    ∙ ap (λ (rest : List ℕ). (if is_unreserved b then b ∷ [] else percent_encode_byte b) ++ rest) (all bytes)

-- the bytes outside the unreserved ones are escaped, and no others
pub reserved_are_escaped : (bytes : List ℕ) → percent_encode RESERVED bytes ≡ encoded bytes
unfolding percent_encode
reserved_are_escaped bytes = all bytes
