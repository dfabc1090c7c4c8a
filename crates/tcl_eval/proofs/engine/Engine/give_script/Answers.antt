use Rattle.std.proofs.Common.{◌∙◌}
use Rattle.natives.specs.Names.{names_of}
use Rattle.tcl_eval.specs.Eval.{nested, on_ok, run_commands}
use Rattle.tcl_eval.specs.Places.{tree_of, commands_from}
use Rattle.tcl_eval.specs.Straight.{stand_next}
use Rattle.tcl_eval.proofs.Commands.{alike_same}
use Rattle.tcl_eval.proofs.engine.Engine.give_script.Goals as goal

pub returns-clause-means : goal.returns-clause-means
returns-clause-means g c = λ gv.
    let ns = names_of c.args.natives.now in
    let t = g.H.Host.table in
    let inner = nested ns t c.args.levels in
    let tree = tree_of c.args.script.value in
    let did = rw c.deref.ensures at c.in_ok-stand.ensures.means in
    c.in_ok-step.ensures.means ns gv
    ∙ alike_same ns t c.run_straight.new.self c.args.self.now
    (λ k. stand_next ns t inner tree c.in_ok-stand.stand k)
    (λ k. on_ok (λ result. run_commands ns t inner (commands_from c.args.next tree) result k) k c.args.value.code c.args.value.result)
    did c.in_ok-stand.ensures.straight.2 gv
