use Rattle.std.proofs.Common.{◌≡◌, suc, ◌-◌, arith, refl}
use Rattle.tcl_eval.specs.Engine.{state_of}
use Rattle.tcl_eval.proofs.Acts.{text_step}
use Rattle.tcl_eval.proofs.engine.Engine.enter_reading.Goals as goal

pub returns-in_ok-push-in-Script-clause-means : goal.returns-in_ok-push-in-Script-clause-means
returns-in_ok-push-in-Script-clause-means g c = λ text reads ns ws gv.
    let e = c.args.self.now in
    let l : c.args.levels ≡ suc (c.args.levels - 1) = omega arith in
    text_step ns g.H.Host.table e.stack.items c.push.new.self.items c.in-Script.script c.in-Script.script.value c.args.levels (c.args.levels - 1) text c.done.result (state_of e) e.budget gv c.in_ok-push-in-Script.ensures.items l c.done.ensures refl (rw c.in-Script.is at reads)
