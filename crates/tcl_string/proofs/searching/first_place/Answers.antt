use Rattle.std.proofs.Common.{◌<◌, length, rules}
use Rattle.tcl_string.proofs.Places.{first_found}
use Rattle.tcl_string.proofs.searching.first_place.Goals as goal

pub returns : goal.returns
returns c =
    let some : 0 < length c.args.text.now = search rules in
    first_found c.args.text.now c.args.within.now c.find.result some c.find.ensures
