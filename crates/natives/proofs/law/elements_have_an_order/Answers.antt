use Rattle.natives.specs.SortingLaws.{sorts_by_order}
use Rattle.natives.proofs.law.elements_have_an_order.Goals as goal

pub returns : goal.returns
returns c = sorts_by_order
