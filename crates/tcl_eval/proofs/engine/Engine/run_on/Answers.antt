use Rattle.natives.specs.Names.{names_of}
use Rattle.tcl_eval.specs.State.{Given}
use Rattle.tcl_eval.specs.Engine.{acted_next, gives}
use Rattle.tcl_eval.specs.Laws.{state_in, IsFront}
use Rattle.tcl_eval.specs.declared.stack.Acted.TheVariants.{Gives}
use Rattle.tcl_eval.proofs.Fronts.{on_err}
use Rattle.tcl_eval.proofs.engine.Engine.run_on.Goals as goal

pub returns-in_err-outcome-in-Gives-clause-front : goal.returns-in_err-outcome-in-Gives-clause-front
returns-in_err-outcome-in-Gives-clause-front g c =
    let ns = names_of c.args.natives.now in
    let t = g.H.Host.table in
    let e = c.args.self.now in
    let front : (given : Given) → IsFront c.run.new.self.made (state_in (gives ns t (acted_next ns t (Gives c.in-Gives.value) e.question) e given)).made = c.in_err-outcome-in-Gives.ensures.front in
    rw c.in-Gives.is (on_err _ front)
