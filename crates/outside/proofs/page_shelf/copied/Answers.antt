use Rattle.std.proofs.Common.{rules}
use Rattle.outside.proofs.PageMaps.{copied_more}
use Rattle.outside.proofs.page_shelf.copied.Goals as goal

pub loop-path-preserved-in_ok-insert : goal.loop-path-preserved-in_ok-insert
loop-path-preserved-in_ok-insert c =
    copied_more c.args.pages.now.entries c.loop-path.copy.entries c.insert.new.self.entries c.loop-path.path-iterator c.next.new.self
    c.in-Some.path.now c.in-Some.page.now c.in_ok-path.path c.in_ok-page.page
    c.into_iter-path-iterator.ensures.into_iter_gives.5 c.loop-path.invariant (search rules) c.in_ok-path.ensures c.in_ok-page.ensures c.in_ok-insert.ensures.entries

pub loop-path-preserved : goal.loop-path-preserved
loop-path-preserved c =
    copied_more c.args.pages.now.entries c.loop-path.copy.entries c.insert.new.self.entries c.loop-path.path-iterator c.next.new.self
    c.in-Some.path.now c.in-Some.page.now c.in_ok-path.path c.in_ok-page.page
    c.into_iter-path-iterator.ensures.into_iter_gives.5 c.loop-path.invariant (search rules) c.in_ok-path.ensures c.in_ok-page.ensures c.in_ok-insert.ensures.entries
