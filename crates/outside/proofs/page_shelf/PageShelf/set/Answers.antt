use Rattle.std.proofs.Common.{ap, ◌∙◌}
use Rattle.std.specs.FinMap as map
use Rattle.outside.specs.Paging.{PageMap}
use Rattle.outside.proofs.PageMaps.{one_put}
use Rattle.outside.proofs.page_shelf.PageShelf.set.Goals as goal

pub returns-clause-ok : goal.returns-clause-ok
returns-clause-ok c =
    one_put c.self.inside.pages.entries c.insert.new.self.entries c.args.path c.args.page c.in_ok-insert.ensures.updates.0
    ∙ ap (λ (p : PageMap). map.insert p c.args.path c.args.page) c.self.view_is
