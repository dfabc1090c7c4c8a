use Rattle.std.proofs.Common.{◌++◌, ◌∷◌, [], sym, ap, ◌∙◌}
use Rattle.tcl_varcmd.specs.declared.names.NewLink.{NewLink}
use Rattle.tcl_varcmd.specs.Linking.{unlinked_all}
use Rattle.tcl_varcmd.proofs.Linking.{unlinked_new, linked_again}
use Rattle.tcl_varcmd.proofs.names.link_noting.Goals as goal

pub returns-then-was_linked-clause-noted : goal.returns-then-was_linked-clause-noted
returns-then-was_linked-clause-noted c =
    let items = c.args.links.now.items in
    ap (λ links. unlinked_all links c.link_name.new.frames) c.in_ok-reserve.ensures.items
    ∙ ap (unlinked_all items) (c.in_ok-link_name.ensures.change.1
    ∙ linked_again c.args.frames.now c.args.name.now (sym c.is_linked-was_linked.ensures ∙ c.if-was_linked.true))

pub returns-clause-noted : goal.returns-clause-noted
returns-clause-noted c =
    let items = c.args.links.now.items in
    let link : NewLink = record { name = c.args.name } in
    ap (λ links. unlinked_all links c.link_name.new.frames) (c.push_reserved.ensures.items ∙ ap (λ links. links ++ link ∷ []) c.in_ok-reserve.ensures.items)
    ∙ ap (unlinked_all (items ++ link ∷ [])) c.in_ok-link_name.ensures.change.1
    ∙ unlinked_new items link c.args.frames.now (sym c.is_linked-was_linked.ensures ∙ c.if-was_linked.false)
