-- What stands between operands.
use Rattle.std.specs.Prelude.{ℕ, zero, suc, ◌≤◌, [], ◌∷◌, length, Bool, ◌==◌, ◌&&◌, ◌||◌, if◌then◌else◌, Option, None, Some}
use Rattle.std.specs.Option.{option_map}
use Rattle.txt_core.specs.Names.{Bytes}
use Rattle.txt_core.specs.Number.{trimmed_front}
use Rattle.tcl_expr.specs.declared.operator.Op.{Op}
use Rattle.tcl_expr.specs.declared.operator.Op.TheVariants.{Minus, Plus, Invert, Not, Mul, Div, Rem, Add, Sub, Shl, Shr, Lt, Gt, Le, Ge, EqNumber, NeNumber, EqText, NeText, BitAnd, BitXor, BitOr, And, Or}

-- the binary operators of two bytes: `<<` `>>` `<=` `>=` `==` `!=` `eq` `ne` `&&` `||`
abbrev pub double : ℕ → ℕ → Option Op
double b c =
    if (b == 60) && (c == 60) then Some Shl
    else if (b == 62) && (c == 62) then Some Shr
    else if (b == 60) && (c == 61) then Some Le
    else if (b == 62) && (c == 61) then Some Ge
    else if (b == 61) && (c == 61) then Some EqNumber
    else if (b == 33) && (c == 61) then Some NeNumber
    else if (b == 101) && (c == 113) then Some EqText
    else if (b == 110) && (c == 101) then Some NeText
    else if (b == 38) && (c == 38) then Some And
    else if (b == 124) && (c == 124) then Some Or
    else None

-- the binary operators of one byte: `*` `/` `%` `+` `-` `<` `>` `&` `^` `|`
abbrev pub single : ℕ → Option Op
single b =
    if b == 42 then Some Mul
    else if b == 47 then Some Div
    else if b == 37 then Some Rem
    else if b == 43 then Some Add
    else if b == 45 then Some Sub
    else if b == 60 then Some Lt
    else if b == 62 then Some Gt
    else if b == 38 then Some BitAnd
    else if b == 94 then Some BitXor
    else if b == 124 then Some BitOr
    else None

-- the unary operators: `-` `+` `~` `!`
abbrev pub sign : ℕ → Option Op
sign b =
    if b == 45 then Some Minus
    else if b == 43 then Some Plus
    else if b == 126 then Some Invert
    else if b == 33 then Some Not
    else None

-- How loosely an operator binds: a unary one binds tightest, and of the binary ones `*`, `/` and `%` do.
abbrev pub level : Op → ℕ
level Minus = 0
level Plus = 0
level Invert = 0
level Not = 0
level Mul = 1
level Div = 1
level Rem = 1
level Add = 2
level Sub = 2
level Shl = 3
level Shr = 3
level Lt = 4
level Gt = 4
level Le = 4
level Ge = 4
level EqNumber = 5
level NeNumber = 5
level EqText = 6
level NeText = 6
level BitAnd = 7
level BitXor = 8
level BitOr = 9
level And = 10
level Or = 11

-- the loosest level of binary operators
abbrev pub loosest : ℕ
loosest = 11

-- it has a level of the binary operators
abbrev pub Binds : Op → Type 0
Binds op = (1 ≤ level op) × (level op ≤ loosest)

-- an operator, where there is one, and what is left behind it
abbrev pub before : Option Op → Bytes → Option (Op × Bytes)
before None t = None
before (Some op) t = Some (op, t)

-- the first of two, where it is one, else the second
abbrev pub either : Option (Op × Bytes) → Option (Op × Bytes) → Option (Op × Bytes)
either None o = o
either (Some x) o = Some x

-- the binary operator at the front, of two bytes where it can be, and what is left behind it
abbrev pub operator_at : Bytes → Option (Op × Bytes)
operator_at [] = None
operator_at (b ∷ []) = before (single b) []
operator_at (b ∷ c ∷ t) = either (before (double b c) t) (before (single b) (c ∷ t))

-- the unary operator at the front
abbrev pub sign_at : Bytes → Option (Op × Bytes)
sign_at [] = None
sign_at (b ∷ t) = before (sign b) t

-- this byte at the front, and what is left behind it and the blanks after it
abbrev pub behind : ℕ → Bytes → Option Bytes
behind c [] = None
behind c (b ∷ t) = if b == c then Some (trimmed_front t) else None

-- What is taken as one more operator: with how many may still come behind it, and what is left behind it and the blanks after it. Where no more may come, none is taken.
abbrev pub counted : ℕ → Option (Op × Bytes) → Option (Op × ℕ × Bytes)
counted zero o = None
counted (suc n) o = option_map (λ x. (x.0, n, trimmed_front x.1)) o

-- the binary operator that comes next
abbrev pub next_operator : ℕ → Bytes → Option (Op × ℕ × Bytes)
next_operator n t = counted n (operator_at t)

-- the unary operator that comes next
abbrev pub next_sign : ℕ → Bytes → Option (Op × ℕ × Bytes)
next_sign n t = counted n (sign_at t)

-- the question mark that comes next; it counts as an operator
abbrev pub next_question : ℕ → Bytes → Option (ℕ × Bytes)
next_question zero t = None
next_question (suc n) t = option_map (λ r. (n, r)) (behind 63 t)

-- the colon that comes next; it doesn't count
abbrev pub next_colon : Bytes → Option Bytes
next_colon t = behind 58 t

-- half of an operator of two bytes: `=` `!` `e` `n`
abbrev pub is_half : ℕ → Bool
is_half b = (b == 61) || (b == 33) || (b == 101) || (b == 110)

-- How many bytes are left from the first one on that can't go on, where a whole operand stands before the text and none of its operators, closing parentheses and colons follow:
-- the byte behind half of an operator, where one may still come, else the first.
abbrev pub stuck : ℕ → Bytes → ℕ
stuck n [] = 0
stuck zero (b ∷ t) = length (b ∷ t)
stuck (suc n) (b ∷ t) = if is_half b then length t else length (b ∷ t)
