use Rattle.std.proofs.Common.{◌≡◌}
use Rattle.std.specs.FinMap as map
use Rattle.tcl_frame.proofs.Tables.{at_some}
use Rattle.tcl_frame.proofs.table.Table.insert.Goals as goal

pub returns-in-Some-clause-ok : goal.returns-in-Some-clause-ok
returns-in-Some-clause-ok c =
    let new = c.args.variable in
    at_some c.get_mut.result c.in-Some.place (c.get_mut.follows.lender new ≡ map.insert c.args.self.now c.args.name.now new) c.in-Some.is (c.get_mut.follows.holds new)
