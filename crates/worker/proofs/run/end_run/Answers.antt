use Rattle.worker.proofs.run.end_run.Goals as goal

pub returns : goal.returns
returns g c = record {
  next = c.into_parts-last.ensures.next;
  stands = c.into_parts-last.ensures.stands;
  is_new = rw c.into_parts-last.ensures.interp at c.reset.ensures.is_new;
  steps = rw c.into_parts-last.ensures.interp at c.reset.ensures.steps;
  blueprint = rw c.into_parts-last.ensures.interp at c.reset.ensures.blueprint;
  marked = rw c.into_parts-last.ensures.interp at c.reset.ensures.marked;
}
