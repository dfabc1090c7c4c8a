use Rattle.std.proofs.Common.{◌≡◌, ◌++◌, drop}
use Rattle.blueprint.specs.Kept.{all_of}
use Rattle.blueprint.proofs.blueprint.add_all_copies.Given as goal

-- the definitions so far, with those of the lists left
abbrev pub invariant-lists : goal.invariant-lists
invariant-lists l = l.all ++ all_of (drop l.defs-index l.lists) ≡ l.initial.all ++ all_of l.lists
