-- The frames of an interpreter.
use Rattle.std.specs.Prelude.{List}
use Rattle.txt_core.specs.Names.{Bytes}
use Rattle.tcl_frame.specs.Variables.{Table}
use Rattle.tcl_frame.specs.declared.frame.Frame.{Frame}

-- a base scalar that was kept: its name and its value
abbrev pub Kept : Type 0
Kept = Bytes × Bytes

-- the global variables, the frames above them, the topmost first, and the keeps that stand, the first one first
pub record Stack : Type 0 where
  pub global : Table
  pub above : List Frame
  pub keeps : List Kept
