use Rattle.std.proofs.Common.{◌≡◌, ap, ◌∙◌}
use Rattle.std.specs.FinMap as map
use Rattle.tcl_frame.specs.Globals.{set_aside, with_aside_one}
use Rattle.tcl_frame.proofs.Tables.{at_some}
use Rattle.tcl_frame.proofs.base.Bases.set_aside.Goals as goal

pub returns-in-Some : goal.returns-in-Some
returns-in-Some c =
    let bases = c.args.self.now in
    let name = c.args.name.now in
    let new = set_aside c.in-Some.base.now in
    at_some c.get_mut.result c.in-Some.base (c.get_mut.follows.lender new ≡ map.insert bases name new) c.in-Some.is (c.get_mut.follows.holds new)
    ∙ ap (with_aside_one bases name) c.in-Some.ensures.value
