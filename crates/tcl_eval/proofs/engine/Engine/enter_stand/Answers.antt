use Rattle.tcl_eval.proofs.engine.Engine.enter_stand.Goals as goal

pub enter_command-requires : goal.enter_command-requires
enter_command-requires g c = rw c.in-Waits.is at c.requires

pub enter_costly-requires : goal.enter_costly-requires
enter_costly-requires g c = rw c.in-Costly.is at c.requires

pub returns-in-Waits-clause-means : goal.returns-in-Waits-clause-means
returns-in-Waits-clause-means g c = rw c.in-Waits.is c.enter_command.ensures.means

pub returns-in-Costly-clause-means : goal.returns-in-Costly-clause-means
returns-in-Costly-clause-means g c = rw c.in-Costly.is c.enter_costly.ensures.means

pub returns-in-Waits-clause-falls : goal.returns-in-Waits-clause-falls
returns-in-Waits-clause-falls g c = rw c.in-Waits.is c.enter_command.ensures.falls

pub returns-in-Costly-clause-falls : goal.returns-in-Costly-clause-falls
returns-in-Costly-clause-falls g c = rw c.in-Costly.is c.enter_costly.ensures.falls

pub enter_evaluation-requires : goal.enter_evaluation-requires
enter_evaluation-requires g c = rw c.in-Evaluates.is at c.requires

pub returns-in-Evaluates-clause-means : goal.returns-in-Evaluates-clause-means
returns-in-Evaluates-clause-means g c = rw c.in-Evaluates.is c.enter_evaluation.ensures.means

pub returns-in-Evaluates-clause-falls : goal.returns-in-Evaluates-clause-falls
returns-in-Evaluates-clause-falls g c = rw c.in-Evaluates.is c.enter_evaluation.ensures.falls
