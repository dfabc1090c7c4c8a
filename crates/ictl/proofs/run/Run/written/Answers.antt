use Rattle.ictl.proofs.run.Run.written.Goals as goal

pub returns-clause-stands : goal.returns-clause-stands
returns-clause-stands g c = rw (← c.self.view_is, ← c.self-inside.view_is, ← c.deref_mut.ensures.value) c.written.ensures.stands
