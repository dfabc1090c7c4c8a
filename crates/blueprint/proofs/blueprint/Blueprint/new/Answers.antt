use Rattle.std.proofs.Common.{◌≡◌, ℕ, List, [], sym, ap, ◌∙◌}
use Rattle.cmd_table.specs.Table.{names_of}
use Rattle.cmd_table.specs.Commands.{Commands}
use Rattle.blueprint.proofs.Keeping.{keeps_new, names_new}
use Rattle.blueprint.proofs.blueprint.Blueprint.new.Goals as goal

pub invariant_of-result : goal.invariant_of-result
invariant_of-result g c =
    let natives = c.in_ok-natives.natives in
    let built : c.in_ok-built.built ≡ names_of (Commands natives []) = c.in_ok-built.ensures ∙ ap (λ (ns : List (List ℕ)). names_of (Commands ns [])) (sym c.in_ok-natives.ensures) in
    keeps_new natives c.in_ok-built.built c.in_ok-names.names.slots c.new-3.result c.new-4.result.items built c.new-3.ensures c.new-4.ensures.items
    (names_new natives c.as_slice.result.now c.in_ok-names.names.slots (c.as_slice.ensures ∙ built) c.in_ok-names.ensures)
