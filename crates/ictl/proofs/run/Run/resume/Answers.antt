use Rattle.ictl.proofs.run.Run.resume.Goals as goal

pub returns-clause-step : goal.returns-clause-step
returns-clause-step g c = rw (← c.self.view_is, ← c.self-inside.view_is, ← c.deref_mut.ensures.value) c.resume.ensures.step
