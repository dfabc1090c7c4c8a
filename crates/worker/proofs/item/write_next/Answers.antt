use Rattle.std.proofs.Common.{refl, sym, ◌∙◌}
use Rattle.worker.proofs.item.write_next.Goals as goal

pub returns-in-Write-clause-wrote : goal.returns-in-Write-clause-wrote
returns-in-Write-clause-wrote g c = (_, sym c.next.ensures.next ∙ c.in-Write.is, c.write.ensures)
