use Rattle.std.proofs.Common.{◌≡◌, drop, map}
use Rattle.tcl_parse.specs.View.{command_of}
use Rattle.blueprint.specs.Reading.{commands_from}
use Rattle.blueprint.specs.Kept.{put_defs}
use Rattle.blueprint.proofs.reading.command_defs.Given as goal

-- the definitions so far, in front of those that are left
abbrev pub invariant-commands : goal.invariant-commands
invariant-commands l = put_defs l.defs (commands_from l.number (map command_of (drop l.number l.commands))) ≡ commands_from 0 (map command_of l.commands)
