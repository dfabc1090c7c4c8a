use Rattle.blueprint.proofs.Rows.{whole_script}
use Rattle.blueprint.proofs.blueprint.Blueprint.script.Goals as goal

pub returns : goal.returns
returns c =
    let a = c.self.inside in
    whole_script a.natives a.base a.saved c.as_slice.result.now a.later.items c.as_slice-2.result.now c.args.self.now c.empty-script.result c.add_lines.new.script c.add_all_lines.new.script
    c.self.view_is c.empty-script.ensures c.as_slice.ensures c.as_slice-2.ensures.value c.in_ok-add_lines.ensures c.in_ok-add_all_lines.ensures
