use Rattle.std.proofs.Common.{◌<◌, length, rules}
use Rattle.tcl_string.proofs.Places.{last_found}
use Rattle.tcl_string.proofs.searching.last_place.Goals as goal

pub returns : goal.returns
returns c =
    let some : 0 < length c.args.text.now = search rules in
    last_found c.args.text.now c.args.within.now c.rfind.result some c.rfind.ensures
