use Rattle.std.proofs.Common.{sym, ap, ◌∙◌}
use Rattle.tcl_varcmd.specs.Linking.{unlinked_all}
use Rattle.tcl_varcmd.proofs.Linking.{unlinked_last}
use Rattle.tcl_varcmd.proofs.names.unlink_all.Goals as goal

pub links-preserved : goal.links-preserved
links-preserved c =
    let left = c.pop.new.self.items in
    let link = c.in-Some.link in (
      ap (unlinked_all left) c.unlink.ensures.change
          ∙ sym (unlinked_last left link c.links.frames)
          ∙ ap (λ links. unlinked_all links c.links.frames) (sym c.in-Some.ensures.items)
          ∙ c.links.invariant.0,
      c.unlink.ensures.depth ∙ c.links.invariant.1,
    )
