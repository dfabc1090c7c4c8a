use Rattle.std.proofs.Common.{◌≡◌, sym, ap, ◌∙◌, is_some}
use Rattle.std.specs.Prelude.{if◌then◌else◌}
use Rattle.std.specs.FinMap as map
use Rattle.txt_core.specs.Keyed.{given_back}
use Rattle.tcl_frame.proofs.Tables.{at_some}
use Rattle.tcl_frame.proofs.dictionary.Dictionary.put_back.Goals as goal

pub returns-in-Some-get_mut : goal.returns-in-Some-get_mut
returns-in-Some-get_mut g c =
    let values = c.args.self.now in
    let key = c.args.key.now in
    let value = c.in-Some.value in
    at_some c.get_mut.result c.in-Some-get_mut.place (c.get_mut.follows.lender value ≡ map.insert values key value) c.in-Some-get_mut.is (c.get_mut.follows.holds value)
    ∙ ap (λ o. if is_some o then map.insert values key value else values) c.in-Some-get_mut.ensures.value
    ∙ ap (given_back values key) (sym c.in-Some.is)
