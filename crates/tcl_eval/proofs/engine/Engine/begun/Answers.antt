use Rattle.tcl_eval.proofs.engine.Engine.begun.Goals as goal

pub returns-in-Some : goal.returns-in-Some
returns-in-Some g c = rw (c.in-Some.is, c.deref.ensures) at c.in_ok-begun_by_test.ensures
