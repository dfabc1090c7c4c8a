-- What writing a response to a sink does.
use Rattle.std.specs.Prelude.{ℕ, ◌≡◌, Option}
use Rattle.txt_core.specs.Names.{Bytes}
use Rattle.outside.specs.Sending.{Sends}
use Rattle.outside.specs.declared.sending.Sent.TheVariants as sent
use Rattle.http_resp.specs.declared.delivery.Wrote.{Wrote}
use Rattle.http_resp.specs.declared.delivery.Wrote.TheVariants.{Whole, WriteFault, NoMemory}

-- The bytes were sent, whole or up to a fault; or memory ran out, and the sink is as it was.
abbrev pub Delivers : Option Bytes → ℕ → Bytes → Wrote → Option Bytes → ℕ → Type 0
Delivers taken_before faults_before bytes (Whole count) taken_after faults_after =
    Sends taken_before faults_before bytes (sent.Whole count) taken_after faults_after
Delivers taken_before faults_before bytes (WriteFault count) taken_after faults_after =
    Sends taken_before faults_before bytes (sent.WriteFault count) taken_after faults_after
Delivers taken_before faults_before bytes NoMemory taken_after faults_after =
    (taken_after ≡ taken_before) × (faults_after ≡ faults_before)
