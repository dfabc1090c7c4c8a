use Rattle.std.proofs.Common.{◌≤◌, ℕ, map, length}
use Rattle.txt_core.specs.Names.{Names}
use Rattle.tcl_parse.specs.Tree.{words}
use Rattle.tcl_parse.specs.View.{word_of}
use Rattle.tcl_eval.specs.Eval.{run_words, nested}
use Rattle.tcl_eval.specs.Straight.{Alike}
use Rattle.tcl_eval.specs.Places.{words_from, words_size}
use Rattle.tcl_eval.proofs.engine.Engine.simple_words.Given as goal

abbrev pub invariant-words : goal.invariant-words
invariant-words g l =
    let t = g.H.Host.table in
    let all = words (map word_of l.all) in
    record {
      means : (ns : Names) (levels : ℕ) → Alike l.self l.self (run_words ns t (nested ns t levels) (words_from (length l.values) all) l.values) (run_words ns t (nested ns t levels) (words_from (length l.fn.values) all) l.fn.values);
      shorter : words_size (words_from (length l.values) all) ≤ words_size (words_from (length l.fn.values) all);
    }

abbrev pub decreases-words : goal.decreases-words
decreases-words g l = words_size (words_from (length l.values) (words (map word_of l.all)))
