use Rattle.std.proofs.Common.{sym, ap, ◌∙◌}
use Rattle.ns_server.specs.Made.{Made}
use Rattle.ns_server.proofs.Making.{some_at_hand}
use Rattle.ns_server.proofs.made.MadeFile.fill.Goals as goal

pub returns-else-is_empty-clause-some : goal.returns-else-is_empty-clause-some
returns-else-is_empty-clause-some c = λ none.
    some_at_hand c.left.result.now c.args.self.now.behind (sym c.if-is_empty.false ∙ c.is_empty.ensures) (c.left.ensures ∙ ap (λ (m : Made). m.at_hand) c.self.view_is ∙ none)
