use Rattle.std.proofs.Common.{◌∙◌}
use Rattle.natives.specs.Names.{names_of}
use Rattle.tcl_eval.specs.Loops.{in_loop}
use Rattle.tcl_eval.specs.Engine.{state_of}
use Rattle.tcl_eval.proofs.Looping.{part_good}
use Rattle.tcl_eval.proofs.engine.Engine.part_commands.Goals as goal

pub returns-then-value-eq-OK-clause-means : goal.returns-then-value-eq-OK-clause-means
returns-then-value-eq-OK-clause-means g c = λ go k gv.
    let e = c.commands_straight.new.self in
    let did = rw (c.in-Ends.is, c.deref.ensures) at c.in_ok-stand.ensures.means in
    part_good c.in-Ends.value go k (state_of e) e.budget gv c.if-value-eq-OK.true
    ∙ did (in_loop go k) gv

pub returns-else-value-eq-OK-clause-means : goal.returns-else-value-eq-OK-clause-means
returns-else-value-eq-OK-clause-means g c = λ go k gv.
    let did = rw (c.in-Ends.is, c.deref.ensures) at c.in_ok-stand.ensures.means in
    c.part_ended.ensures.means (names_of c.args.natives.now) go k gv
    ∙ did (in_loop go k) gv

pub returns-in_ok-each-in_default : goal.returns-in_ok-each-in_default
returns-in_ok-each-in_default g c =
    let did = rw c.deref.ensures at c.in_ok-stand.ensures.means in
    record {
      means = λ go k gv. c.in_ok-each-in_default.ensures.means (names_of c.args.natives.now) go k gv ∙ did (in_loop go k) gv;
      set = c.in_ok-each-in_default.ensures.set;
      straight = c.in_ok-stand.ensures.straight;
      holds = c.in_ok-stand.ensures.holds;
    }
