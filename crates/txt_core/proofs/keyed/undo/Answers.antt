use Rattle.std.proofs.Common.{sym, ap, ◌∙◌}
use Rattle.txt_core.specs.Undoing.{undone}
use Rattle.txt_core.proofs.Undoing.{undone_last}
use Rattle.txt_core.proofs.keyed.undo.Goals as goal

pub changes-preserved : goal.changes-preserved
changes-preserved g c =
    let left = c.pop.new.self.items in
    let change = c.in-Some.change in
    let texts = g.K.Keyed.texts c.changes.keyed in
    ap (undone left) c.give_back.ensures
    ∙ sym (undone_last left change texts)
    ∙ ap (λ items. undone items texts) (sym c.in-Some.ensures.items)
    ∙ c.changes.invariant
