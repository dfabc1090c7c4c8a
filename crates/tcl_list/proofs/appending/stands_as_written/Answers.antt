use Rattle.std.proofs.Common.{◌≡◌, ◌∷◌, rules}
use Rattle.tcl_list.specs.Appending.{Begins}
use Rattle.tcl_list.proofs.Behind.{last_element, more_elements}
use Rattle.tcl_list.proofs.appending.stands_as_written.Goals as goal

pub returns-in-None : goal.returns-in-None
returns-in-None c =
    λ yes. c.elements.invariant (last_element c.elements.rest.now c.in-Some.left.now c.in-Some.ensures c.in-None.ensures.cases)

pub elements-preserved : goal.elements-preserved
elements-preserved c =
    let space : c.in-Some.left.now ≡ 32 ∷ c.in-Some-split_first.after.now = search rules in
    let begins : Begins c.elements.rest.now (32 ∷ c.in-Some-split_first.after.now) = rw space at c.in-Some.ensures in
    λ later. c.elements.invariant (more_elements c.elements.rest.now c.in-Some-split_first.after.now begins later)
