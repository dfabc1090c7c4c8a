use Rattle.tcl_eval.proofs.Acts.{ran, fell_lower}
use Rattle.std.proofs.Common.{sym}
use Rattle.natives.specs.Names.{names_of}
use Rattle.tcl_eval.specs.Eval.{eval}
use Rattle.tcl_eval.specs.Engine.{state_of, comes_to}
use Rattle.tcl_eval.proofs.Fronts.{front_same, outcome_front}
use Rattle.tcl_eval.proofs.engine.Engine.start.Goals as goal

pub returns-in-Ok-clause-lower : goal.returns-in-Ok-clause-lower
returns-in-Ok-clause-lower g c = fell_lower c.in-Ok.outcome c.begin.new.self c.args.budget c.in-Ok.ensures.falls

pub returns-in-Ok-clause-falls : goal.returns-in-Ok-clause-falls
returns-in-Ok-clause-falls g c = ran c.in-Ok.outcome _ c.in-Ok.ensures.falls

pub returns-in-Ok-clause-front : goal.returns-in-Ok-clause-front
returns-in-Ok-clause-front g c = λ gv.
    let ns = names_of c.args.natives.now in
    let t = g.H.Host.table in
    let new = c.begin.new.self in
    front_same new.made (comes_to ns t c.in-Ok.outcome new gv) (eval ns t c.args.depth c.args.work (state_of c.args.self.now) c.args.budget gv) (sym (c.in-Ok.ensures.stands gv)) (outcome_front ns t c.in-Ok.outcome new gv)
