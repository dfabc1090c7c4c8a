use Rattle.blueprint.proofs.Later.{one_state, equal_definitions, unchanged}
use Rattle.blueprint.proofs.law.equal_epochs_are_one_state.Goals as goal

pub returns-clause-states : goal.returns-clause-states
returns-clause-states c = one_state

pub returns-clause-definitions : goal.returns-clause-definitions
returns-clause-definitions c = equal_definitions

pub returns-clause-same : goal.returns-clause-same
returns-clause-same c = unchanged
