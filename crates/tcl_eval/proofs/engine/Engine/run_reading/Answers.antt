use Rattle.std.proofs.Common.{◌≡◌, ◌∙◌, suc, ◌-◌, arith}
use Rattle.natives.specs.Names.{names_of}
use Rattle.tcl_eval.specs.Engine.{state_of}
use Rattle.tcl_eval.proofs.Looping.{script_read}
use Rattle.tcl_eval.proofs.engine.Engine.run_reading.Goals as goal

pub returns-in_ok-ran-in-Script-clause-means : goal.returns-in_ok-ran-in-Script-clause-means
returns-in_ok-ran-in-Script-clause-means g c = λ text reads k gv.
    let e = c.args.self.now in
    let l : c.args.levels ≡ suc (c.args.levels - 1) = omega arith in
    c.in_ok-ran-in-Script.ensures.means k gv
    ∙ script_read (names_of c.args.natives.now) g.H.Host.table c.in-Script.script.value c.args.levels (c.args.levels - 1) text k (state_of e) e.budget gv l (rw c.in-Script.is at reads)
