use Rattle.std.proofs.Common.{◌≡◌, ◌∙◌, suc, ◌-◌, arith}
use Rattle.natives.specs.Names.{names_of}
use Rattle.tcl_eval.specs.Loops.{in_loop}
use Rattle.tcl_eval.specs.Engine.{state_of}
use Rattle.tcl_eval.proofs.Looping.{script_read}
use Rattle.tcl_eval.proofs.engine.Engine.part_straight.Goals as goal

pub returns-in_ok-each-in-Script-clause-means : goal.returns-in_ok-each-in-Script-clause-means
returns-in_ok-each-in-Script-clause-means g c = λ go k gv.
    let e = c.args.self.now in
    let l : c.args.levels ≡ suc (c.args.levels - 1) = omega arith in
    let reads = rw c.in-Script.is at c.as_reading.ensures in
    c.in_ok-each-in-Script.ensures.means go k gv
    ∙ script_read (names_of c.args.natives.now) g.H.Host.table c.in-Script.script.value c.args.levels (c.args.levels - 1) c.args.text.now (in_loop go k) (state_of e) e.budget gv l reads
