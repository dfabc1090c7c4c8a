use Rattle.std.proofs.Common.{sym, ap, ◌∙◌}
use Rattle.std.specs.FinMap as map
use Rattle.outside.specs.Paging.{PageMap}
use Rattle.outside.proofs.PageMaps.{got}
use Rattle.outside.proofs.page_shelf.PageShelf.get.Goals as goal

pub returns : goal.returns
returns c = c.get.ensures.value ∙ sym (got c.self.inside.pages.entries c.args.path.now) ∙ ap (λ (p : PageMap). map.get p c.args.path.now) c.self.view_is
