use Rattle.tcl_eval.proofs.Commands.{own_first}
use Rattle.tcl_eval.proofs.engine.Engine.notes_own.Goals as goal

pub returns-in-Some-clause-own : goal.returns-in-Some-clause-own
returns-in-Some-clause-own g c = λ own.
    own_first c.args.self.now.table.table c.args.words.now c.in-Some.first.now c.in-Some.ensures (c.is_own.ensures.own.0 own)
