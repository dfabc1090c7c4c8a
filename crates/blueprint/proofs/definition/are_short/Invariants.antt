use Rattle.std.proofs.Common.{◌≡◌, true, take}
use Rattle.std.specs.List.{list_all}
use Rattle.blueprint.specs.Reading.{is_short}
use Rattle.blueprint.proofs.definition.are_short.Given as goal

abbrev pub invariant-words : goal.invariant-words
invariant-words l = list_all is_short (take l.word-index l.words) ≡ true
