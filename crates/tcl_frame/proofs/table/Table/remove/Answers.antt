use Rattle.std.proofs.Common.{ap, ◌∙◌, not, rules}
use Rattle.std.specs.FinMap as map
use Rattle.std.proofs.lemmas.Fn.{filter_same}
use Rattle.tcl_frame.specs.Few.{is_named, in_front}
use Rattle.tcl_frame.proofs.Fronts.{front_taken}
use Rattle.tcl_frame.proofs.table.Table.remove.Goals as goal

pub returns : goal.returns
returns c =
    let few = c.self.inside.few.items in
    let rest = c.self.inside.rest in
    let name = c.args.name.now in
    ap (in_front c.retain.new.self.items) c.remove.ensures
    ∙ ap (λ f. in_front f (map.remove rest name)) (filter_same _ (λ e. not (is_named name e)) _ (λ x b f' k. search rules) _ _ c.retain.ensures.filtered)
    ∙ front_taken few rest name
    ∙ ap (λ m. map.remove m name) c.self.view_is
