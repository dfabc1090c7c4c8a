use Rattle.std.proofs.Common.{ap, ◌∙◌}
use Rattle.std.specs.FinMap as map
use Rattle.tcl_frame.specs.Entries.{by_bytes}
use Rattle.tcl_frame.proofs.Maps.{inserted}
use Rattle.tcl_frame.proofs.dictionary.Dictionary.put.Goals as goal

pub returns-clause-ok : goal.returns-clause-ok
returns-clause-ok g c =
    let updates = c.in_ok-insert.ensures.updates in
    inserted c.in_ok-key.key.items c.args.value c.self.inside.values.entries c.insert.new.self.entries updates.1 updates.3
    ∙ ap (λ k. map.insert (map.from_entries (by_bytes c.self.inside.values.entries)) k c.args.value) c.in_ok-key.ensures.items
    ∙ ap (λ m. map.insert m c.args.key.now c.args.value) c.self.view_is
