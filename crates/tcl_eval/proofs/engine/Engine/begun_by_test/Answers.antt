use Rattle.tcl_eval.proofs.engine.Engine.begun_by_test.Goals as goal

pub returns-in_ok-found-in-Choice : goal.returns-in_ok-found-in-Choice
returns-in_ok-found-in-Choice g c = rw c.in-Choice.is c.in_ok-found-in-Choice.ensures
