use Rattle.std.proofs.Common.{◌≡◌, refl, ap, sym, ◌∙◌}
use Rattle.std.specs.FinMap as map
use Rattle.tcl_frame.specs.declared.variable.Variable.TheVariants.{Scalar}
use Rattle.tcl_frame.specs.Texts.{text_of_scalar}
use Rattle.tcl_frame.proofs.Tables.{at_some, same_inserted}
use Rattle.tcl_frame.proofs.table.Table.scalar_mut.Goals as goal

pub returns-in-Some-text_mut : goal.returns-in-Some-text_mut
returns-in-Some-text_mut c =
    let table = c.args.self.now in
    let name = c.args.name.now in (
      (
        refl,
        λ w. at_some c.get_mut.result c.in-Some.variable (c.get_mut.follows.lender (Scalar w) ≡ map.insert table name (Scalar w)) c.in-Some.is (c.get_mut.follows.holds (Scalar w)),
        refl,
      ),
      record {
        writes_back = tt;
        value = c.in-Some-text_mut.ensures.value ∙ ap text_of_scalar c.in-Some.ensures.value;
      },
    )

pub returns-in-None-text_mut : goal.returns-in-None-text_mut
returns-in-None-text_mut c =
    let table = c.args.self.now in
    let name = c.args.name.now in
    let old = c.in-Some.variable.now in (
      (
        refl,
        λ w. tt,
        at_some c.get_mut.result c.in-Some.variable (c.get_mut.follows.lender old ≡ map.insert table name old) c.in-Some.is (c.get_mut.follows.holds old)
            ∙ same_inserted table name old (sym c.in-Some.ensures.value),
      ),
      record {
        writes_back = tt;
        value = c.in-None-text_mut.ensures.value ∙ ap text_of_scalar c.in-Some.ensures.value;
      },
    )
