use Rattle.std.proofs.Common.{refl, ap, sym, ◌∙◌}
use Rattle.tcl_frame.proofs.Tops.{top_changed, top_own}
use Rattle.tcl_frame.proofs.frames.Frames.own_mut.Goals as goal

pub returns-in-Some : goal.returns-in-Some
returns-in-Some c =
    let global = c.self.inside.global in
    let above = c.self.inside.above in
    let frame = c.in-Some.frame.now in
    let name = c.args.name.now in
    let some = c.in-Some.ensures.variant.0 refl in
    let own = sym c.contains.ensures ∙ c.if-not-contains.true in (
      (
        refl,
        λ w. top_changed global.table global.keeps above.items above.len frame c.args.self.now name w above.ok.0 some c.in-Some.ensures.value c.self.view_is own,
        refl,
      ),
      record {
        writes_back = tt;
        value = top_own above.items above.len frame c.args.self.now.above name above.ok.0 some c.in-Some.ensures.value (ap (λ s. s.above) c.self.view_is) own;
      },
    )
