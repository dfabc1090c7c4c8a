use Rattle.std.proofs.Common.{◌≡◌, true, take}
use Rattle.std.specs.List.{list_all}
use Rattle.blueprint.specs.Reading.{is_parameter}
use Rattle.blueprint.proofs.definition.are_parameters.Given as goal

abbrev pub invariant-loop-text : goal.invariant-loop-text
invariant-loop-text l = list_all is_parameter (take l.text-index l.text-items) ≡ true
