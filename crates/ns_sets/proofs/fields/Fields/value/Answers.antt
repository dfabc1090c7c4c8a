use Rattle.std.proofs.Common.{◌≡◌, get_or, arith, sym, ◌∙◌}
use Rattle.ns_sets.specs.Fields.{has_key}
use Rattle.ns_sets.specs.Matching.{same}
use Rattle.ns_sets.proofs.Places.{found, not_found}
use Rattle.ns_sets.proofs.fields.Fields.value.Goals as goal

pub returns-in-Some : goal.returns-in-Some
returns-in-Some c =
    let seen = c.self.view_is in
    let read = c.index.ensures in
    let item : c.index.result.now ≡ get_or c.args.self.now c.in-Some.at c.index.result.now = cc in
    let here = found (has_key (same c.args.matching) c.args.key.now) c.args.self.now c.in-Some.at c.index.result.now (sym c.find.ensures.place ∙ c.in-Some.is) c.in-Some.ensures.within item in
    grind (arith, here)

pub returns-in-None : goal.returns-in-None
returns-in-None c =
    let none = not_found (has_key (same c.args.matching) c.args.key.now) c.args.self.now (sym c.find.ensures.place ∙ c.in-None.is) in
    grind (arith, none)
