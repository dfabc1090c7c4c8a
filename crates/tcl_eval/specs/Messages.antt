-- What is said of an error. The texts that other parts give too are those of `txt_core` and `tcl_frame`.
use Rattle.std.specs.Prelude.{ℕ, [], ◌++◌, decimal, codes}
use Rattle.txt_core.specs.Names.{Bytes}
pub use Rattle.txt_core.specs.ErrorTexts.{bad_value, unknown_command, no_list, too_long, outside_loop, unknown_subcommand}
pub use Rattle.tcl_frame.specs.FaultTexts.{variable_fault}
use Rattle.txt_core.specs.ErrorTexts.{overflow}
use Rattle.tcl_parse.specs.declared.fault.Kind.{Kind}
use Rattle.tcl_parse.specs.declared.fault.Kind.TheVariants.{Quote, Brace, Bracket, Variable, Extra, Deep}
use Rattle.tcl_expr.specs.declared.operator.ExprFault.{ExprFault}
use Rattle.tcl_expr.specs.declared.operator.ExprFault.TheVariants as faults
use Rattle.tcl_expr.specs.declared.operator.Op.{Op}
use Rattle.tcl_expr.specs.declared.operator.Op.TheVariants as operators

-- a text in double quotes
abbrev pub quoted : Bytes → Bytes
quoted text = codes "\"" ++ text ++ codes "\""

-- a name is that of a command, or of none
abbrev pub command_exists : Bytes → Bytes
command_exists name = codes "command " ++ quoted name ++ codes " exists"

abbrev pub no_command : Bytes → Bytes
no_command name = codes "no command " ++ quoted name

-- what is wrong with a script
abbrev pub fault_name : Kind → Bytes
fault_name Quote = codes "unclosed quote"
fault_name Brace = codes "unclosed brace"
fault_name Bracket = codes "unclosed bracket"
fault_name Variable = codes "unclosed variable"
fault_name Extra = codes "extra bytes"
fault_name Deep = codes "nested too deep"

-- a text is no script: its fault stands at this place
abbrev pub script_fault : Kind → ℕ → Bytes
script_fault kind place = fault_name kind ++ codes " at " ++ decimal place

-- a name is that of no procedure
abbrev pub no_procedure : Bytes → Bytes
no_procedure name = codes "no procedure " ++ quoted name

-- a text is no expression: it is bad at this place
abbrev pub bad_expression : ℕ → Bytes
bad_expression place = codes "syntax error in expression at " ++ decimal place

-- a value has no truth
abbrev pub no_boolean : Bytes → Bytes
no_boolean value = codes "expected boolean but got " ++ quoted value

-- how an operator is written
abbrev pub operator_name : Op → Bytes
operator_name operators.Minus = codes "-"
operator_name operators.Plus = codes "+"
operator_name operators.Invert = codes "~"
operator_name operators.Not = codes "!"
operator_name operators.Mul = codes "*"
operator_name operators.Div = codes "/"
operator_name operators.Rem = codes "%"
operator_name operators.Add = codes "+"
operator_name operators.Sub = codes "-"
operator_name operators.Shl = codes "<<"
operator_name operators.Shr = codes ">>"
operator_name operators.Lt = codes "<"
operator_name operators.Gt = codes ">"
operator_name operators.Le = codes "<="
operator_name operators.Ge = codes ">="
operator_name operators.EqNumber = codes "=="
operator_name operators.NeNumber = codes "!="
operator_name operators.EqText = codes "eq"
operator_name operators.NeText = codes "ne"
operator_name operators.BitAnd = codes "&"
operator_name operators.BitXor = codes "^"
operator_name operators.BitOr = codes "|"
operator_name operators.And = codes "&&"
operator_name operators.Or = codes "||"

-- why an operator gives no value, where this operand has no truth (want of memory is no such reason, and its text is never
-- looked at)
abbrev pub operator_fault : ExprFault → Op → Bytes → Bytes
operator_fault faults.NotNumber op operand = codes "can't use non-numeric string as operand of " ++ quoted (operator_name op)
operator_fault faults.NotBoolean op operand = no_boolean operand
operator_fault faults.DivZero op operand = codes "divide by zero"
operator_fault faults.Overflow op operand = overflow
operator_fault faults.Shift op operand = codes "bad shift count"
operator_fault faults.NoMemory op operand = []
