use Rattle.std.proofs.Common.{◌≡◌, List, [], sym, ap, ◌∙◌}
use Rattle.url_tables.specs.declared.filters.Passing.{Passing}
use Rattle.url_tables.specs.Searching.{passed}
use Rattle.url_tables.proofs.Passed.{passed_is, none_there}
use Rattle.url_tables.proofs.routes.Routes.has_filters.Goals as goal

pub returns : goal.returns
returns c = λ defs b lacks when method path.
    let none : c.args.self.now.filters.items ≡ [] = sym c.as_slice.ensures.value ∙ none_there _ _ c.is_empty.ensures lacks in
    sym (passed_is when method path defs) ∙ ap (passed when method path) (sym b.filters ∙ none)
