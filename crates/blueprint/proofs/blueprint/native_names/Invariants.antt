use Rattle.std.proofs.Common.{◌≡◌, ◌≤◌, length, take}
use Rattle.natives.specs.Names.{names_of as native_names}
use Rattle.blueprint.proofs.blueprint.native_names.Given as goal

-- the names so far
abbrev pub invariant-loop-at : goal.invariant-loop-at
invariant-loop-at g l = (l.at-end ≡ length (native_names l.natives)) × (l.at ≤ l.at-end) × (l.names ≡ take l.at (native_names l.natives))
