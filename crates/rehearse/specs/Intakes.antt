-- What is read in pieces.
use Rattle.std.specs.Prelude.{ℕ, Option}
use Rattle.txt_core.specs.Names.{Bytes}
use Rattle.rehearse.specs.declared.intake.Stopped.{Stopped}

-- What was read and not played, from some place of the file on, and why no more is read.
pub record IntakeState : Type 0 where
  pub left : Bytes
  pub place : ℕ
  pub stopped : Option Stopped
