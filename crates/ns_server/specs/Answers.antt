-- The status of a rehearsal, and of a load.
use Rattle.std.specs.Prelude.{◌≡◌, ◌<◌, ℕ, length, take, Option}
use Rattle.txt_core.specs.Names.{Bytes}
use Rattle.outside.specs.Faults.{Rose}
use Rattle.outside.specs.Writing.{Gains}
use Rattle.rehearse.specs.declared.answer.Rehearsal.{Rehearsal}
use Rattle.rehearse.specs.declared.answer.Rehearsal.TheVariants as rehearsal
use Rattle.ns_server.specs.declared.status.Status.{Status}
use Rattle.ns_server.specs.declared.status.Status.TheVariants.{Done, BadEvent, BadWords, ReadFault, WriteFault, NoMemory}

-- The lines were written whole, or the output failed when it had taken a front of them; or memory ran out before.
abbrev pub WritesSummary : Bytes → Option Bytes → ℕ → Status → Option Bytes → ℕ → Type 0
WritesSummary text output faults Done output_after faults_after = Gains output text output_after
WritesSummary text output faults WriteFault output_after faults_after =
    (sent : ℕ) × (sent < length text) × Gains output (take sent text) output_after × Rose faults faults_after
WritesSummary text output faults NoMemory output_after faults_after = (output_after ≡ output) × (faults_after ≡ faults)
WritesSummary text output faults (BadEvent event) output_after faults_after = ⊥
WritesSummary text output faults BadWords output_after faults_after = ⊥
WritesSummary text output faults ReadFault output_after faults_after = ⊥

-- the status to which a rehearsal's answer leads
abbrev pub status_of : Rehearsal → Status
status_of rehearsal.Done = Done
status_of (rehearsal.BadEvent event) = BadEvent event
status_of rehearsal.ReadFault = ReadFault
status_of (rehearsal.WriteFault sent) = WriteFault
status_of rehearsal.NoMemory = NoMemory
