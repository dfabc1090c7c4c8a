use Rattle.std.proofs.Common.{◌∙◌, length, ap, arith}
use Rattle.tcl_parse.specs.Tree.{Words}
use Rattle.tcl_eval.specs.Places.{words_from, words_size}
use Rattle.tcl_eval.proofs.Choices.{none_sized}
use Rattle.tcl_eval.proofs.Counts.{held_both}
use Rattle.tcl_eval.proofs.engine.Engine.try_whole.Goals as goal

pub returns-in_ok-tried-in-Left-clause-means : goal.returns-in_ok-tried-in-Left-clause-means
returns-in_ok-tried-in-Left-clause-means g c = λ ws none k gv.
    let did = rw c.in-Left.is at c.in_ok-tried.ensures.means in
    let size = rw c.in-Left.is at c.in_ok-tried.ensures.size in
    let gone = none_sized (words_from (length c.in-Left.values) ws) (omega (arith, size ws, ap (λ (x : Words). words_size x) none)) in
    c.in_ok-tried-in-Left.ensures.means ws gone k gv ∙ did c.args.levels ws none k gv

pub returns-in_ok-tried-in-Left-clause-size : goal.returns-in_ok-tried-in-Left-clause-size
returns-in_ok-tried-in-Left-clause-size g c = λ ws.
    let size = rw c.in-Left.is at c.in_ok-tried.ensures.size in
    omega (arith, c.in_ok-tried-in-Left.ensures.size ws, size ws)

pub returns-in_ok-tried-in-Left-clause-straight : goal.returns-in_ok-tried-in-Left-clause-straight
returns-in_ok-tried-in-Left-clause-straight g c =
    let after = c.in_ok-tried-in-Left.ensures.straight in
    let before = c.in_ok-tried.ensures.straight in
    (omega (arith, after.0, before.0), after.1 ∙ before.1, after.2 ∙ before.2)

pub returns-in_ok-tried-in-Left-clause-holds : goal.returns-in_ok-tried-in-Left-clause-holds
returns-in_ok-tried-in-Left-clause-holds g c =
    held_both c.try_if.new.self c.try_command.new.self c.args.self.now c.in_ok-tried-in-Left.ensures.holds c.in_ok-tried.ensures.holds

pub returns-in_default : goal.returns-in_default
returns-in_default g c = record {
  means = λ ws none. c.in_ok-tried.ensures.means c.args.levels ws none;
  size = c.in_ok-tried.ensures.size;
  straight = c.in_ok-tried.ensures.straight;
  holds = c.in_ok-tried.ensures.holds;
}
