use Rattle.std.proofs.Common.{ap, ◌∙◌, [], ◌∷◌, ◌++◌}
use Rattle.txt_core.specs.declared.keyed.Change.{Change}
use Rattle.txt_core.specs.Undoing.{undone}
use Rattle.txt_core.proofs.Undoing.{undone_written}
use Rattle.txt_core.proofs.keyed.write_one.Goals as goal

pub returns-clause-noted : goal.returns-clause-noted
returns-clause-noted g c =
    let noted = c.args.journal.now.items in
    let change : Change = record { key = c.args.key; before = c.in_ok-before.before } in
    ap (λ items. undone items (g.K.Keyed.texts c.exchange.new.self)) (c.push_reserved.ensures.items ∙ ap (λ items. items ++ change ∷ []) c.reserve.ensures.items)
    ∙ ap (undone (noted ++ change ∷ [])) c.in_ok-before.ensures.ok
    ∙ undone_written noted change (g.K.Keyed.texts c.args.keyed.now) c.in_ok-text.text c.in_ok-before.ensures.before
