-- What a function returned, carried from one fact about outcomes to another.
use Rattle.std.proofs.Common.{ℕ, List, Result, Ok, Err}
use Rattle.tcl_parse.specs.declared.fault.Kind.{Kind}
use Rattle.tcl_parse.specs.declared.fault.Fault.{Fault}
use Rattle.txt_core.specs.declared.stop.Stop.{Stop}
use Rattle.txt_core.specs.declared.stop.Stop.TheVariants as stop
use Rattle.tcl_parse.specs.Outcome.{Outcome, done, fault, Stopped, Gives}

pub stopped_map : {Y Z : Type 0} (P : Outcome Y → Type 0) (Q : Outcome Z → Type 0) → ((k : Kind) (n : ℕ) → P (fault k n) → Q (fault k n)) → (e : Stop Fault) → Stopped e P → Stopped e Q
stopped_map P Q f stop.NoMemory h = tt
stopped_map P Q f (stop.Fault x) h = f x.kind x.left h

pub gives_map : {X Y : Type 0} (view : X → Y) (rest : X → List ℕ) (P Q : Outcome Y → Type 0) → ((o : Outcome Y) → P o → Q o) → (r : Result X (Stop Fault)) → Gives view rest r P → Gives view rest r Q
gives_map view rest P Q f (Ok x) h = f (done (view x) (rest x)) h
gives_map view rest P Q f (Err stop.NoMemory) h = tt
gives_map view rest P Q f (Err (stop.Fault x)) h = f (fault x.kind x.left) h
