use Rattle.std.proofs.Common.{◌≤◌, []}
use Rattle.natives.specs.Names.{names_of}
use Rattle.tcl_eval.specs.Eval.{nested, run_commands}
use Rattle.tcl_eval.specs.Places.{tree_of, commands_from, commands_size}
use Rattle.tcl_eval.specs.Straight.{Alike, Straightly}
use Rattle.tcl_eval.specs.Engine.{Holds}
use Rattle.tcl_eval.proofs.engine.Engine.commands_straight.Given as goal

abbrev pub invariant-commands : goal.invariant-commands
invariant-commands g l =
    let t = g.H.Host.table in
    let ns = names_of l.natives in
    let tree = tree_of l.script in
    let inner = nested ns t l.levels in
    record {
      means : Alike l.self l.fn.self (run_commands ns t inner (commands_from l.at tree) []) (run_commands ns t inner (commands_from l.fn.from tree) []);
      size : commands_size (commands_from l.at tree) ≤ commands_size (commands_from l.fn.from tree);
      straight : Straightly l.self l.fn.self;
      holds : Holds l.self l.fn.self;
    }

abbrev pub decreases-commands : goal.decreases-commands
decreases-commands g l = commands_size (commands_from l.at (tree_of l.script))
