use Rattle.blueprint.proofs.Rows.{whole_defs}
use Rattle.blueprint.proofs.blueprint.Blueprint.definitions.Goals as goal

pub returns : goal.returns
returns c =
    let a = c.self.inside in
    whole_defs a.natives a.base a.saved c.as_slice.result.now a.later.items c.as_slice-2.result.now c.args.self.now c.new-defs.result c.append_copies.new.all c.add_all_copies.new.all
    c.self.view_is c.new-defs.ensures c.as_slice.ensures c.as_slice-2.ensures.value c.in_ok-append_copies.ensures.ok c.in_ok-add_all_copies.ensures
