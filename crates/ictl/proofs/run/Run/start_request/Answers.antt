use Rattle.ictl.proofs.run.Run.start_request.Goals as goal

pub returns-clause-stands : goal.returns-clause-stands
returns-clause-stands g c = rw (← c.interp.view_is, ← c.deref_mut.ensures.value) c.start_request-next.ensures.stands

pub returns-clause-most : goal.returns-clause-most
returns-clause-most g c = rw (← c.interp.view_is, ← c.deref_mut.ensures.value) c.start_request-next.ensures.most

pub returns-clause-visit : goal.returns-clause-visit
returns-clause-visit g c = rw (← c.interp.view_is, ← c.deref_mut.ensures.value) c.start_request-next.ensures.visit
