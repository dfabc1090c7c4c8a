use Rattle.std.proofs.Common.{◌≡◌, ap, ◌∙◌}
use Rattle.std.specs.FinMap as map
use Rattle.tcl_frame.proofs.Tables.{at_some, element_removed}
use Rattle.tcl_frame.proofs.table.Table.remove_element.Goals as goal

pub returns-in-Some : goal.returns-in-Some
returns-in-Some c =
    let new = c.remove_element.new.self in
    at_some c.get_mut.result c.in-Some.variable (c.get_mut.follows.lender new ≡ map.insert c.args.self.now c.args.array.now new) c.in-Some.is (c.get_mut.follows.holds new)
    ∙ ap (map.insert c.args.self.now c.args.array.now)
    (c.remove_element.ensures ∙ element_removed c.in-Some.variable.now (map.get c.args.self.now c.args.array.now) c.args.index.now c.in-Some.ensures.value c.requires)
