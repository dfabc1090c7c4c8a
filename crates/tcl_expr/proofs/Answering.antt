-- What a function returned, carried from one fact about outcomes to another.
use Rattle.std.proofs.Common.{ℕ, List, Result, Ok, Err}
use Rattle.txt_core.specs.declared.stop.Stop.{Stop}
use Rattle.txt_core.specs.declared.stop.Stop.TheVariants as stop
use Rattle.tcl_expr.specs.Outcome.{Outcome, done, bad}
use Rattle.tcl_expr.specs.Trees.{Tree}
use Rattle.tcl_expr.specs.Answers.{Stopped, Gives}

pub stopped_map : (P Q : Outcome → Type 0) → ((k : ℕ) → P (bad k) → Q (bad k)) → (e : Stop ℕ) → Stopped e P → Stopped e Q
stopped_map P Q f stop.NoMemory h = tt
stopped_map P Q f (stop.Fault k) h = f k h

pub gives_map : {X : Type 0} (view : X → Tree) (count : X → ℕ) (rest : X → List ℕ) (P Q : Outcome → Type 0) → ((o : Outcome) → P o → Q o) → (r : Result X (Stop ℕ)) → Gives view count rest r P → Gives view count rest r Q
gives_map view count rest P Q f (Ok x) h = f (done (view x) (count x) (rest x)) h
gives_map view count rest P Q f (Err e) h = stopped_map P Q (λ k. f (bad k)) e h
