use Rattle.std.proofs.Common.{refl, ap, ◌∙◌}
use Rattle.std.specs.FinMap as map
use Rattle.tcl_frame.proofs.Tops.{top_linked}
use Rattle.tcl_frame.proofs.frames.Frames.link.Goals as goal

pub returns-clause-ok : goal.returns-clause-ok
returns-clause-ok c =
    top_linked c.self.inside.global.table c.self.inside.global.keeps c.self.inside.above.items c.self.inside.above.len c.in-Some.frame.now c.args.self.now c.args.name.now c.insert.new.self
    c.self.inside.above.ok.0 (c.in-Some.ensures.variant.0 refl) c.in-Some.ensures.value c.self.view_is
    (c.in_ok-insert.ensures.ok ∙ ap (λ n. map.insert c.in-Some.frame.now.links n tt) c.bytes-bytes.ensures)
