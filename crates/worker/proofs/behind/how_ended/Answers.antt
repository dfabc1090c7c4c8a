use Rattle.worker.proofs.behind.how_ended.Goals as goal

pub returns-clause-way : goal.returns-clause-way
returns-clause-way c = rw c.next.ensures.next at c.outcome_of.ensures
