-- Interpreters that are renewed.
use Rattle.std.proofs.Common.{◌≡◌, ℕ, ◌+◌, List, Result, Ok, Err, OnOk, arith}
use Rattle.std.specs.Prelude.{IfOk}
use Rattle.cmd_table.specs.declared.definition.Def.{Def}
use Rattle.ictl.specs.Interps.{IsNew}
use Rattle.ictl.specs.Renewing.{IsUnmarked, Builds}
use Rattle.ictl.specs.declared.interp.Interp.{Interp}

-- one that is newly made
pub newly_built : {E : Type 0} (result : Result Interp E) (names : List (List ℕ)) (epoch : ℕ) (defs : List Def)
    → IfOk result (λ made. IsNew names made) → IfOk result (λ made. made.blueprint.value ≡ record { epoch = epoch; defs = defs }) → IfOk result (λ made. IsUnmarked made)
    → IfOk result (λ made. Builds names epoch defs made)
newly_built (Ok made) names epoch defs new is free = (new, is, free)
newly_built (Err e) names epoch defs new is free = tt

-- where nothing is new, nothing is written
pub nothing_written : {A E : Type 0} (result : Result A E) (steps : ℕ) → OnOk result (steps ≡ steps + 0)
nothing_written (Ok a) steps = omega arith
nothing_written (Err e) steps = tt
