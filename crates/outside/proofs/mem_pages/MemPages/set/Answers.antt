use Rattle.std.proofs.Common.{ap, ◌∙◌}
use Rattle.std.specs.FinMap as map
use Rattle.outside.specs.Paging.{PageMap}
use Rattle.outside.specs.Shelves.{Shelf}
use Rattle.outside.proofs.mem_pages.MemPages.set.Goals as goal

pub returns-clause-ok : goal.returns-clause-ok
returns-clause-ok c =
    ap (λ (p : PageMap). let s : Shelf = record { pages = p; calls = c.self.inside.calls } in s) c.in_ok-set.ensures.ok
    ∙ ap (λ (s : Shelf). let t : Shelf = record { pages = map.insert s.pages c.args.path c.args.page; calls = s.calls } in t) c.self.view_is
