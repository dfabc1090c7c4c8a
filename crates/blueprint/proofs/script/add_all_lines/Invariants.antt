use Rattle.std.proofs.Common.{◌≡◌, ◌++◌, drop}
use Rattle.blueprint.specs.Kept.{lines_of}
use Rattle.blueprint.proofs.script.add_all_lines.Given as goal

-- the script so far, with the lines of the lists left
abbrev pub invariant-lists : goal.invariant-lists
invariant-lists l = l.script ++ lines_of (drop l.defs-index l.lists) ≡ l.initial.script ++ lines_of l.lists
