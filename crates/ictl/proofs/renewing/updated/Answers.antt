use Rattle.ictl.proofs.renewing.updated.Goals as goal

pub update-requires-clause-is_new : goal.update-requires-clause-is_new
update-requires-clause-is_new g c = let may = rw c.in-Some.is at c.requires in may.0

pub update-requires-clause-applies : goal.update-requires-clause-applies
update-requires-clause-applies g c = let may = rw c.in-Some.is at c.requires in may.1

pub returns-in-Ok-clause-of : goal.returns-in-Ok-clause-of
returns-in-Ok-clause-of g c = rw c.in-Some.is (c.in-Ok.ensures.ok, c.in-Ok.ensures.blueprint, c.update.ensures.marked)
