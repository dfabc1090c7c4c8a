use Rattle.std.proofs.Common.{arith, refl}
use Rattle.tcl_eval.specs.Eval.{nested}
use Rattle.tcl_eval.specs.Places.{place_parts}
use Rattle.tcl_eval.specs.Engine.{state_of}
use Rattle.tcl_eval.proofs.Stacks.{freed, weighed}
use Rattle.tcl_eval.proofs.Steps.{pieces_begin}
use Rattle.tcl_eval.proofs.engine.Engine.enter_pieces.Goals as goal

pub returns-clause-means : goal.returns-clause-means
returns-clause-means g c = λ ns gv.
    let t = g.H.Host.table in
    let e = c.args.self.now in
    pieces_begin ns t (nested ns t c.args.levels) e.stack.items c.push.new.self.items c.args.waits (place_parts c.args.place) _ (state_of e) e.budget gv c.in_ok-push.ensures.items c.empty.ensures

pub returns-clause-weighs : goal.returns-clause-weighs
returns-clause-weighs g c =
    let more = weighed _ _ _ c.in_ok-push.ensures.items in
    omega (arith, more)

pub returns-clause-keeps : goal.returns-clause-keeps
returns-clause-keeps g c =
    let more = freed _ _ _ c.in_ok-push.ensures.items in
    (omega arith, refl, omega (arith, more, c.requires))
