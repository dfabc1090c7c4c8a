use Rattle.std.proofs.Common.{◌≡◌, ◌++◌, drop}
use Rattle.blueprint.specs.Scripts.{script_of}
use Rattle.blueprint.proofs.script.add_lines.Given as goal

-- the script so far, with the lines of the definitions left
abbrev pub invariant-defs : goal.invariant-defs
invariant-defs l = l.script ++ script_of (drop l.def-index l.defs) ≡ l.initial.script ++ script_of l.defs
