use Rattle.std.proofs.Common.{position, refl, ap, sym, ◌∙◌}
use Rattle.std.specs.FinMap as map
use Rattle.tcl_frame.specs.Few.{is_named, in_front}
use Rattle.tcl_frame.proofs.Tables.{on_some}
use Rattle.tcl_frame.proofs.Fronts.{front_put, front_there, get_past, put_past}
use Rattle.tcl_frame.proofs.table.Table.get_mut.Goals as goal

pub returns-in-Some-get_mut : goal.returns-in-Some-get_mut
returns-in-Some-get_mut c =
    let few = c.self.inside.few.items in
    let rest = c.self.inside.rest in
    let name = c.args.name.now in
    let entry = c.in-Some-get_mut.entry.now in
    let place = sym (c.in-Some.ensures ∙ ap (position (is_named name)) c.deref.ensures.value) in (
      (
        refl,
        λ w. front_put few rest name c.in-Some.place entry place c.in-Some-get_mut.ensures.value w ∙ ap (λ m. map.insert m name w) c.self.view_is,
        refl,
      ),
      record {
        writes_back = tt;
        value = front_there few rest name c.in-Some.place entry place c.in-Some-get_mut.ensures.value ∙ ap (λ m. map.get m name) c.self.view_is;
      },
    )

pub returns-in-None : goal.returns-in-None
returns-in-None c =
    let few = c.self.inside.few.items in
    let rest = c.self.inside.rest in
    let name = c.args.name.now in
    let none = sym (c.in-None.ensures ∙ ap (position (is_named name)) c.deref.ensures.value) in
    let lent = c.get_mut-in-None in (
      (
        refl,
        λ w. on_some lent.result _ _ (λ is. ap (in_front few) is ∙ put_past few rest name none w ∙ ap (λ m. map.insert m name w) c.self.view_is) (lent.follows.holds w),
        ap (in_front few) lent.follows.holds-at-none ∙ c.self.view_is,
      ),
      record {
        writes_back = tt;
        value = lent.ensures.value ∙ sym (get_past few rest name none) ∙ ap (λ m. map.get m name) c.self.view_is;
      },
    )
