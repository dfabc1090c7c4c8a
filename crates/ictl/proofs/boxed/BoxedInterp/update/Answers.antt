use Rattle.ictl.proofs.boxed.BoxedInterp.update.Goals as goal

pub returns-clause-ok : goal.returns-clause-ok
returns-clause-ok g c = rw (← c.self.view_is, ← c.deref_mut.ensures.value) c.update.ensures.ok

pub returns-clause-err : goal.returns-clause-err
returns-clause-err g c = rw (← c.self.view_is, ← c.deref_mut.ensures.value) c.update.ensures.err
