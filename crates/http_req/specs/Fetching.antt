-- What a fetch of bytes does: what is read is put behind what is carried.
use Rattle.std.specs.Prelude.{◌≡◌, ℕ, ◌≤◌, [], ◌++◌, Option, Some, ⊤}
use Rattle.txt_core.specs.Names.{Bytes}
use Rattle.outside.specs.Faults.{Rose}
use Rattle.outside.specs.Reading.{Gives}
use Rattle.http_req.specs.declared.carry.Stop.{Stop}
use Rattle.http_req.specs.declared.carry.Stop.TheVariants as stop

-- the source gave some bytes, which are carried behind the others, and its count didn't fall
pub record Moves (carry : Bytes) (rest : Option Bytes) (faults : ℕ) (carry_after : Bytes) (rest_after : Option Bytes) (faults_after : ℕ)
    : Type 0 where
  pub given : Bytes
  pub gives : Gives rest given rest_after
  pub kept : carry_after ≡ carry ++ given
  pub counts : faults ≤ faults_after

-- where the source told what was left, that was all given
abbrev pub HasEnded : Option Bytes → Option Bytes → Type 0
HasEnded rest rest_after = (input : Bytes) → rest ≡ Some input → rest_after ≡ Some []

-- why a fetch stopped: at the end of the input, at a fault, or for want of memory
abbrev pub Stopped : Option Bytes → ℕ → Stop → Option Bytes → ℕ → Type 0
Stopped rest faults stop.End rest_after faults_after = HasEnded rest rest_after
Stopped rest faults stop.Fault rest_after faults_after = Rose faults faults_after
Stopped rest faults stop.NoMemory rest_after faults_after = ⊤
