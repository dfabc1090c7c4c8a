use Rattle.tcl_eval.proofs.engine.Engine.run_first.Goals as goal

pub returns-in-Ends-clause-means : goal.returns-in-Ends-clause-means
returns-in-Ends-clause-means g c = rw (c.in-Ends.is, c.deref.ensures) at c.in_ok-stand.ensures.means

pub returns-in_default : goal.returns-in_default
returns-in_default g c =
    let did = rw c.deref.ensures at c.in_ok-stand.ensures.means in
    record {
      means = did;
      set = c.in_ok-stand.ensures.within;
      straight = c.in_ok-stand.ensures.straight;
      holds = c.in_ok-stand.ensures.holds;
    }
