use Rattle.std.proofs.Common.{ap, ◌∙◌}
use Rattle.std.specs.FinMap as map
use Rattle.tcl_frame.proofs.Maps.{taken}
use Rattle.tcl_frame.proofs.dictionary.Dictionary.remove.Goals as goal

pub returns : goal.returns
returns g c =
    let updates = c.remove.ensures.updates in
    taken c.args.key.now c.self.inside.values.entries c.remove.new.self.entries updates.1 updates.3 ∙ ap (λ m. map.remove m c.args.key.now) c.self.view_is
