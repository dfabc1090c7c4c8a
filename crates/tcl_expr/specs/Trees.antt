-- Expressions as trees.
use Rattle.txt_core.specs.Names.{Bytes}
use Rattle.tcl_parse.specs.Tree.{Word}
use Rattle.tcl_expr.specs.declared.operator.Op.{Op}

pub data Tree : Type 0 where
  -- a number or a word of truth, as it stands
  value : Bytes → Tree
  -- a word in quotes or braces, a variable, an element or a bracket: the parts whose values are joined
  word : Word → Tree
  -- an operator before its operand
  unary : Op → Tree → Tree
  -- an operator between its operands
  binary : Op → Tree → Tree → Tree
  -- `x ? y : z`
  choice : Tree → Tree → Tree → Tree
