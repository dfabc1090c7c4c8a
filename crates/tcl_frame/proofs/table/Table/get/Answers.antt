use Rattle.std.proofs.Common.{find, ap, sym, ◌∙◌}
use Rattle.std.specs.FinMap as map
use Rattle.tcl_frame.specs.Few.{is_named}
use Rattle.tcl_frame.proofs.Fronts.{first_or, front_get}
use Rattle.tcl_frame.proofs.table.Table.get.Goals as goal

pub returns-in-Some : goal.returns-in-Some
returns-in-Some c =
    let few = c.self.inside.few.items in
    let rest = c.self.inside.rest in
    let name = c.args.name.now in
    ap (λ first. first_or first (map.get rest name)) (c.in-Some.ensures ∙ ap (find (is_named name)) c.deref.ensures.value)
    ∙ sym (front_get few rest name) ∙ ap (λ m. map.get m name) c.self.view_is

pub returns-in-None : goal.returns-in-None
returns-in-None c =
    let few = c.self.inside.few.items in
    let rest = c.self.inside.rest in
    let name = c.args.name.now in
    c.get.ensures
    ∙ ap (λ first. first_or first (map.get rest name)) (c.in-None.ensures ∙ ap (find (is_named name)) c.deref.ensures.value)
    ∙ sym (front_get few rest name) ∙ ap (λ m. map.get m name) c.self.view_is
