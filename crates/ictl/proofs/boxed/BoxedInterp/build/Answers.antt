use Rattle.ictl.proofs.boxed.BoxedInterp.build.Goals as goal

pub returns-clause-is_new : goal.returns-clause-is_new
returns-clause-is_new g c = rw c.in_ok-interp.ensures.ok c.in_ok-made.ensures.is_new
