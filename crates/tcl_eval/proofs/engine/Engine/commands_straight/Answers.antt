use Rattle.std.proofs.Common.{◌∙◌, ◌+◌, [], arith}
use Rattle.natives.specs.Names.{names_of}
use Rattle.tcl_eval.specs.Eval.{nested, run_commands}
use Rattle.tcl_eval.specs.Places.{tree_of, commands_from}
use Rattle.tcl_eval.specs.Straight.{behind_command}
use Rattle.tcl_eval.specs.Engine.{state_of}
use Rattle.tcl_eval.proofs.Counts.{held_both}
use Rattle.tcl_eval.proofs.Commands.{any_value, ended_so, less_left, next_from, none_at_all, none_left}
use Rattle.tcl_eval.proofs.engine.Engine.commands_straight.Goals as goal

pub returns-then-value-ne-OK-clause-means : goal.returns-then-value-ne-OK-clause-means
returns-then-value-ne-OK-clause-means g c = λ k gv.
    let ns = names_of c.args.natives.now in
    let t = g.H.Host.table in
    let e = c.commands.self in
    let new = c.next_straight.new.self in
    let tree = tree_of c.args.script.now in
    let inner = nested ns t c.args.levels in
    let did = rw c.in-Gives.is at c.in_ok-value.ensures.means in
    next_from ns t inner tree c.commands.at [] k (state_of e) e.budget gv _ (rw c.commands-test.true at c.has_command.ensures.there)
    (ended_so (λ v k'. run_commands ns t inner (commands_from (c.commands.at + 1) tree) v k') k c.in-Gives.value (state_of new) new.budget gv c.if-value-ne-OK.true
    ∙ did (behind_command ns t inner tree c.commands.at k) gv)
    ∙ c.commands.invariant.means k gv

pub returns-then-not-has_command-clause-means : goal.returns-then-not-has_command-clause-means
returns-then-not-has_command-clause-means g c = λ k gv.
    let ns = names_of c.args.natives.now in
    let t = g.H.Host.table in
    let e = c.commands.self in
    let new = c.next_straight.new.self in
    let tree = tree_of c.args.script.now in
    let inner = nested ns t c.args.levels in
    let did = rw c.in-Gives.is at c.in_ok-value.ensures.means in
    next_from ns t inner tree c.commands.at [] k (state_of e) e.budget gv _ (rw c.commands-test.true at c.has_command.ensures.there)
    (none_left ns t inner tree (c.commands.at + 1) c.in-Gives.value k (state_of new) new.budget gv c.if-value-ne-OK.false c.if-not-has_command.ensures.there
    ∙ did (behind_command ns t inner tree c.commands.at k) gv)
    ∙ c.commands.invariant.means k gv

pub returns-in-Spent-clause-means : goal.returns-in-Spent-clause-means
returns-in-Spent-clause-means g c = λ k gv.
    let ns = names_of c.args.natives.now in
    let t = g.H.Host.table in
    let e = c.commands.self in
    let tree = tree_of c.args.script.now in
    let inner = nested ns t c.args.levels in
    let did = rw c.in-Spent.is at c.in_ok-value.ensures.means in
    next_from ns t inner tree c.commands.at [] k (state_of e) e.budget gv _ (rw c.commands-test.true at c.has_command.ensures.there) (did (behind_command ns t inner tree c.commands.at k) gv)
    ∙ c.commands.invariant.means k gv

pub returns-in-Left-clause-means : goal.returns-in-Left-clause-means
returns-in-Left-clause-means g c = λ k gv.
    let ns = names_of c.args.natives.now in
    let t = g.H.Host.table in
    let e = c.commands.self in
    let tree = tree_of c.args.script.now in
    let inner = nested ns t c.args.levels in
    let did = rw c.in-Left.is at c.in_ok-value.ensures.means in
    next_from ns t inner tree c.commands.at [] k (state_of e) e.budget gv _ (rw c.commands-test.true at c.has_command.ensures.there) (did (behind_command ns t inner tree c.commands.at k) gv)
    ∙ c.commands.invariant.means k gv

pub returns-in-Costly-clause-means : goal.returns-in-Costly-clause-means
returns-in-Costly-clause-means g c = λ k gv.
    let ns = names_of c.args.natives.now in
    let t = g.H.Host.table in
    let e = c.commands.self in
    let tree = tree_of c.args.script.now in
    let inner = nested ns t c.args.levels in
    let did = rw c.in-Costly.is at c.in_ok-value.ensures.means in
    next_from ns t inner tree c.commands.at [] k (state_of e) e.budget gv _ (rw c.commands-test.true at c.has_command.ensures.there) (did (behind_command ns t inner tree c.commands.at k) gv)
    ∙ c.commands.invariant.means k gv

pub returns-in-Evaluates-clause-means : goal.returns-in-Evaluates-clause-means
returns-in-Evaluates-clause-means g c = λ k gv.
    let ns = names_of c.args.natives.now in
    let t = g.H.Host.table in
    let e = c.commands.self in
    let tree = tree_of c.args.script.now in
    let inner = nested ns t c.args.levels in
    let did = rw c.in-Evaluates.is at c.in_ok-value.ensures.means in
    next_from ns t inner tree c.commands.at [] k (state_of e) e.budget gv _ (rw c.commands-test.true at c.has_command.ensures.there) (did (behind_command ns t inner tree c.commands.at k) gv)
    ∙ c.commands.invariant.means k gv

pub returns-clause-means : goal.returns-clause-means
returns-clause-means g c = λ k gv.
    let ns = names_of c.args.natives.now in
    let t = g.H.Host.table in
    let e = c.commands.self in
    none_at_all ns t (nested ns t c.args.levels) (tree_of c.args.script.now) c.commands.at c.done.result k (state_of e) e.budget gv c.done.ensures (rw c.commands-test.false at c.has_command.ensures.there)
    ∙ c.commands.invariant.means k gv

pub commands-preserved : goal.commands-preserved
commands-preserved g c =
    let ns = names_of c.args.natives.now in
    let t = g.H.Host.table in
    let e = c.commands.self in
    let new = c.next_straight.new.self in
    let tree = tree_of c.args.script.now in
    let did = rw c.in-Gives.is at c.in_ok-value.ensures.means in
    let straight = c.in_ok-value.ensures.straight in
    let before = c.commands.invariant.straight in
    record {
      means = λ k gv.
          let inner = nested ns t c.args.levels in
          next_from ns t inner tree c.commands.at [] k (state_of e) e.budget gv _ (rw c.commands-test.true at c.has_command.ensures.there)
          (any_value ns t inner tree (c.commands.at + 1) c.in-Gives.value k (state_of new) new.budget gv c.if-value-ne-OK.false c.if-not-has_command.ensures.there
          ∙ did (behind_command ns t inner tree c.commands.at k) gv)
          ∙ c.commands.invariant.means k gv;
      size = omega (arith, less_left tree c.commands.at (rw c.commands-test.true at c.has_command.ensures.there), c.commands.invariant.size);
      straight = (omega (arith, straight.0, before.0), straight.1 ∙ before.1, straight.2 ∙ before.2);
      holds = held_both c.next_straight.new.self e c.args.self.now c.in_ok-value.ensures.holds c.commands.invariant.holds;
    }

pub commands-smaller : goal.commands-smaller
commands-smaller g c =
    omega (arith, less_left (tree_of c.args.script.now) c.commands.at (rw c.commands-test.true at c.has_command.ensures.there))

pub returns-in-Left-clause-size : goal.returns-in-Left-clause-size
returns-in-Left-clause-size g c =
    let did = rw c.in-Left.is at c.in_ok-value.ensures.size in
    omega (arith, less_left (tree_of c.args.script.now) c.commands.at (rw c.commands-test.true at c.has_command.ensures.there), did, c.commands.invariant.size)

pub returns-in-Costly-clause-size : goal.returns-in-Costly-clause-size
returns-in-Costly-clause-size g c =
    let did = rw c.in-Costly.is at c.in_ok-value.ensures.size in
    omega (arith, less_left (tree_of c.args.script.now) c.commands.at (rw c.commands-test.true at c.has_command.ensures.there), did, c.commands.invariant.size)

pub returns-in-Evaluates-clause-size : goal.returns-in-Evaluates-clause-size
returns-in-Evaluates-clause-size g c =
    let did = rw c.in-Evaluates.is at c.in_ok-value.ensures.size in
    omega (arith, less_left (tree_of c.args.script.now) c.commands.at (rw c.commands-test.true at c.has_command.ensures.there), did, c.commands.invariant.size)
