-- The table of the operators: from an operator and its operands, which are texts, to a text or the first fault that fits.
use Rattle.std.specs.Prelude.{◌≡◌, ℕ, Bool, true, false, not, ◌&&◌, ◌||◌, ◌==◌, nat_lt, if◌then◌else◌, ℤ, pos, negsuc, neg_ℤ, ◌+ℤ◌, ◌-ℤ◌, ◌*ℤ◌, Option, None, Some, Result, Ok, Err, bytes_eq}
use Rattle.std.specs.Int.{w64, int_bit_and, int_bit_or, int_bit_xor, int_bit_not}
use Rattle.std.specs.declared.cmp.Ordering.{Ordering}
use Rattle.std.specs.Ordering.{int_cmp, nat_cmp, is_eq, is_ne, is_lt, is_gt, is_le, is_ge}
use Rattle.std.specs.Cmp.Lexicographic.{slice_cmp}
use Rattle.std.specs.Fmt.{signed_decimal}
use Rattle.txt_core.specs.Names.{Bytes}
use Rattle.txt_core.specs.Number.{number, fits}
use Rattle.txt_core.specs.Truth.{truth, truth_text}
use Rattle.tcl_expr.specs.declared.operator.Op.{Op}
use Rattle.tcl_expr.specs.declared.operator.Op.TheVariants.{Minus, Plus, Invert, Not, Mul, Div, Rem, Add, Sub, Shl, Shr, Lt, Gt, Le, Ge, EqNumber, NeNumber, EqText, NeText, BitAnd, BitXor, BitOr, And, Or}
use Rattle.tcl_expr.specs.declared.operator.ExprFault.{ExprFault}
use Rattle.tcl_expr.specs.declared.operator.ExprFault.TheVariants.{NotNumber, NotBoolean, DivZero, Overflow, Shift, NoMemory}
use Rattle.tcl_expr.specs.Arithmetic.{quotient, remainder, shifted_left, shifted_right}

-- What an operator gives: a text, or a fault.
abbrev pub Applied : Type 0
Applied = Result Bytes ExprFault

-- a number, where 64 bits hold it
abbrev pub held : ℤ → Result ℤ ExprFault
held n = if fits n then Ok n else Err Overflow

-- a shift by a count, which must be one of 0 to 63
abbrev pub shifted : (ℕ → ℤ) → ℤ → Result ℤ ExprFault
shifted by (pos k) = if nat_lt k 64 then held (by k) else Err Shift
shifted by (negsuc k) = Err Shift

-- division, whose divisor must not be 0
abbrev pub divided : (ℤ → ℤ) → ℤ → Result ℤ ExprFault
divided by (pos n) = if n == 0 then Err DivZero else held (by (pos n))
divided by (negsuc n) = held (by (negsuc n))

-- The operators on two numbers. Those on bits take a number as 64 bits in two's complement.
abbrev pub combined : Op → ℤ → ℤ → Result ℤ ExprFault
combined Mul m n = held (m *ℤ n)
combined Div m n = divided (quotient m) n
combined Rem m n = divided (remainder m) n
combined Add m n = held (m +ℤ n)
combined Sub m n = held (m -ℤ n)
combined Shl m n = shifted (shifted_left m) n
combined Shr m n = shifted (shifted_right m) n
combined BitAnd m n = Ok (int_bit_and w64 m n)
combined BitXor m n = Ok (int_bit_xor w64 m n)
combined BitOr m n = Ok (int_bit_or w64 m n)
combined _ m n = Err NotNumber

-- a number in decimal form
abbrev pub in_decimal : Result ℤ ExprFault → Applied
in_decimal (Ok n) = Ok (signed_decimal n)
in_decimal (Err e) = Err e

-- both operands must be numbers
abbrev pub on_numbers : (ℤ → ℤ → Result ℤ ExprFault) → Option ℤ → Option ℤ → Applied
on_numbers by (Some m) (Some n) = in_decimal (by m n)
on_numbers by (Some m) None = Err NotNumber
on_numbers by None n = Err NotNumber

-- the operand must be a number
abbrev pub on_number : (ℤ → Result ℤ ExprFault) → Option ℤ → Applied
on_number by (Some n) = in_decimal (by n)
on_number by None = Err NotNumber

-- the operand must have a truth
abbrev pub on_truth : (Bool → Bool) → Option Bool → Applied
on_truth by (Some p) = Ok (truth_text (by p))
on_truth by None = Err NotBoolean

-- two truths joined by `&&`, or else by `||`
abbrev pub joined : Op → Bool → Bool → Bool
joined And p q = p && q
joined _ p q = p || q

-- both operands must have a truth
abbrev pub on_truths : (Bool → Bool → Bool) → Option Bool → Option Bool → Applied
on_truths by (Some p) (Some q) = Ok (truth_text (by p q))
on_truths by (Some p) None = Err NotBoolean
on_truths by None q = Err NotBoolean

-- How two texts compare: as numbers where both are numbers, else byte by byte, a front before the whole.
abbrev pub by_number : Option ℤ → Option ℤ → Ordering → Ordering
by_number (Some m) (Some n) o = int_cmp m n
by_number (Some m) None o = o
by_number None n o = o

abbrev pub compared : Bytes → Bytes → Ordering
compared l r = by_number (number l) (number r) (slice_cmp nat_cmp l r)

-- The operators before one operand.
abbrev pub unary : Op → Bytes → Applied
unary Minus v = on_number (λ n. held (neg_ℤ n)) (number v)
unary Plus v = on_number Ok (number v)
unary Invert v = on_number (λ n. Ok (int_bit_not w64 n)) (number v)
unary Not v = on_truth not (truth v)
unary _ v = Err NotNumber

-- The operators between two operands. Comparisons, `&&` and `||` give 1 or 0; `eq` and `ne` compare bytes.
abbrev pub binary : Op → Bytes → Bytes → Applied
binary Lt l r = Ok (truth_text (is_lt (compared l r)))
binary Gt l r = Ok (truth_text (is_gt (compared l r)))
binary Le l r = Ok (truth_text (is_le (compared l r)))
binary Ge l r = Ok (truth_text (is_ge (compared l r)))
binary EqNumber l r = Ok (truth_text (is_eq (compared l r)))
binary NeNumber l r = Ok (truth_text (is_ne (compared l r)))
binary EqText l r = Ok (truth_text (bytes_eq l r))
binary NeText l r = Ok (truth_text (not (bytes_eq l r)))
binary And l r = on_truths (joined And) (truth l) (truth r)
binary Or l r = on_truths (joined Or) (truth l) (truth r)
binary op l r = on_numbers (combined op) (number l) (number r)

-- whether an operator compares its operands
abbrev pub is_comparison : Op → Bool
is_comparison Lt = true
is_comparison Gt = true
is_comparison Le = true
is_comparison Ge = true
is_comparison EqNumber = true
is_comparison NeNumber = true
is_comparison EqText = true
is_comparison NeText = true
is_comparison _ = false

-- The value of a whole expression: its decimal form where it is a number, else its text.
abbrev pub value_by : Option ℤ → Bytes → Bytes
value_by (Some n) t = signed_decimal n
value_by None t = t

abbrev pub value_of : Bytes → Bytes
value_of t = value_by (number t) t

-- What a call answers is what the table gives, unless memory ran out.
abbrev pub Gives : Applied → Applied → Type 0
Gives (Ok t) a = a ≡ Ok t
Gives (Err NoMemory) a = Unit {0}
Gives (Err e) a = a ≡ Err e
