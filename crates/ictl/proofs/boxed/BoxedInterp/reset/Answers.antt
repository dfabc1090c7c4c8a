use Rattle.ictl.proofs.boxed.BoxedInterp.reset.Goals as goal

pub returns-clause-is_new : goal.returns-clause-is_new
returns-clause-is_new g c = rw (← c.self.view_is, ← c.deref_mut.ensures.value) c.reset.ensures.is_new

pub returns-clause-steps : goal.returns-clause-steps
returns-clause-steps g c = rw (← c.self.view_is, ← c.deref_mut.ensures.value) c.reset.ensures.steps
