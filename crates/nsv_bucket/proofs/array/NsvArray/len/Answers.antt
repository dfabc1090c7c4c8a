use Rattle.std.proofs.Common.{sym, ap, ◌∙◌, length}
use Rattle.std.specs.FinMap as map
use Rattle.std.specs.FinMap.{len-entries}
use Rattle.nsv_bucket.proofs.Maps.{listed}
use Rattle.nsv_bucket.proofs.array.NsvArray.len.Goals as goal

pub returns : goal.returns
returns c =
    c.len.ensures.len ∙ sym (len-entries (map.from_entries c.self.inside.values.entries) ∙ ap length (listed c.self.inside.values.entries c.len.ensures.ordered))
    ∙ ap map.len c.self.view_is
