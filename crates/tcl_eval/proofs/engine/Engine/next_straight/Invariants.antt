use Rattle.std.proofs.Common.{◌≤◌, [], length}
use Rattle.natives.specs.Names.{names_of}
use Rattle.tcl_eval.specs.Eval.{nested, run_words}
use Rattle.tcl_eval.specs.Places.{tree_of, command_at, words_from, words_size}
use Rattle.tcl_eval.specs.Straight.{Alike, Straightly}
use Rattle.tcl_eval.specs.Engine.{Holds}
use Rattle.tcl_eval.proofs.engine.Engine.next_straight.Given as goal

abbrev pub invariant-words : goal.invariant-words
invariant-words g l =
    let t = g.H.Host.table in
    let ns = names_of l.natives in
    let inner = nested ns t l.levels in
    let all = command_at l.at (tree_of l.script) in
    record {
      means : Alike l.self l.fn.self (run_words ns t inner (words_from (length l.values) all) l.values) (run_words ns t inner all []);
      size : words_size (words_from (length l.values) all) ≤ words_size all;
      straight : Straightly l.self l.fn.self;
      holds : Holds l.self l.fn.self;
    }

abbrev pub decreases-words : goal.decreases-words
decreases-words g l = words_size (words_from (length l.values) (command_at l.at (tree_of l.script)))
