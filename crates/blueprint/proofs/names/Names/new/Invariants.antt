use Rattle.std.proofs.Common.{◌≡◌, ℕ, List, take}
use Rattle.std.specs.List.{list_any}
use Rattle.blueprint.specs.Kept.{is_there, same_name}
use Rattle.blueprint.proofs.names.Names.new.Given as goal

abbrev pub invariant-loop-name : goal.invariant-loop-name
invariant-loop-name l = (q : List ℕ) → is_there l.slots q ≡ list_any (λ name. same_name name q) (take l.name-index l.names)
