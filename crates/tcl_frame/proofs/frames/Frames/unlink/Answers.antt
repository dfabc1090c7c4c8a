use Rattle.std.proofs.Common.{refl, ap, ◌∙◌}
use Rattle.std.specs.FinMap as map
use Rattle.tcl_frame.proofs.Tops.{top_unlinked}
use Rattle.tcl_frame.proofs.frames.Frames.unlink.Goals as goal

pub returns-clause-change : goal.returns-clause-change
returns-clause-change c =
    top_unlinked c.self.inside.global.table c.self.inside.global.keeps c.self.inside.above.items c.self.inside.above.len c.in-Some.frame.now c.args.self.now c.args.name.now c.remove.new.self
    c.self.inside.above.ok.0 (c.in-Some.ensures.variant.0 refl) c.in-Some.ensures.value c.self.view_is
    (c.remove.ensures ∙ ap (λ n. map.remove c.in-Some.frame.now.links n) c.bytes.ensures)
