use Rattle.std.proofs.Common.{ap, arith, refl, ◌+◌}
use Rattle.tcl_parse.specs.declared.tree.Script.{Script}
use Rattle.tcl_eval.specs.Places.{tree_of, commands_from, commands_size}
use Rattle.tcl_eval.specs.Engine.{state_of}
use Rattle.tcl_eval.proofs.Stacks.{freed, weighed}
use Rattle.tcl_eval.proofs.Commands.{waits_behind}
use Rattle.tcl_eval.proofs.engine.Engine.push_following.Goals as goal

pub returns-clause-means : goal.returns-clause-means
returns-clause-means g c = λ ns way gv.
    let e = c.args.self.now in
    waits_behind ns g.H.Host.table e.stack.items c.push.new.self.items c.args.script.now.value c.in_ok-again.again c.args.at c.args.levels way (state_of e) e.budget gv c.in_ok-push.ensures.items c.in_ok-again.ensures.cases

pub returns-clause-weighs : goal.returns-clause-weighs
returns-clause-weighs g c =
    let e = weighed _ _ _ c.in_ok-push.ensures.items in
    let same = ap (λ (s : Script). commands_size (commands_from (c.args.at + 1) (tree_of s))) c.in_ok-again.ensures.cases in
    omega (arith, e, same)

pub returns-clause-keeps : goal.returns-clause-keeps
returns-clause-keeps g c =
    let more = freed _ _ _ c.in_ok-push.ensures.items in
    (omega arith, refl, omega (arith, more))
