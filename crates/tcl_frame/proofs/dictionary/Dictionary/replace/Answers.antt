use Rattle.std.proofs.Common.{◌≡◌, ap, ◌∙◌}
use Rattle.std.specs.FinMap as map
use Rattle.tcl_frame.proofs.Tables.{at_some}
use Rattle.tcl_frame.proofs.dictionary.Dictionary.replace.Goals as goal

pub returns-in-Some-clause-ok : goal.returns-in-Some-clause-ok
returns-in-Some-clause-ok g c =
    let values = c.args.self.now in
    let key = c.args.key.now in
    let new = c.replace.new.dest in
    at_some c.get_mut.result c.in-Some.place (c.get_mut.follows.lender new ≡ map.insert values key new) c.in-Some.is (c.get_mut.follows.holds new)
    ∙ ap (map.insert values key) c.replace.ensures.after
