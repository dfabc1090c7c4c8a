use Rattle.std.proofs.Common.{◌≡◌, ◌⊎◌, inl, inr, Some, None, refl, sym, ap, subst, ◌∙◌}
use Rattle.std.specs.FinMap as map
use Rattle.std.specs.Option.{option_copied_mut}
use Rattle.tcl_frame.specs.declared.variable.Variable.TheVariants.{Scalar}
use Rattle.tcl_frame.specs.Globals.{Globals, together, standing_value, keeps_of}
use Rattle.tcl_frame.proofs.Tables.{on_some}
use Rattle.tcl_frame.specs.NotLending.{IsNoScalar, IsBase}
use Rattle.tcl_frame.specs.Texts.{text_of_scalar}
use Rattle.tcl_frame.proofs.Scalars.{scalar_is, if_some, none_is, if_none}
use Rattle.tcl_frame.proofs.Bases.{changed, get_beside, put_beside, standing_kept}
use Rattle.tcl_frame.proofs.globals.Globals.scalar_mut.Goals as goal

pub returns-in-None : goal.returns-in-None
returns-in-None c =
    let base = c.self.inside.base in
    let own = c.self.inside.own in
    let keeps = keeps_of c.self.inside.keeps.items in
    let name = c.args.name.now in
    let seen = c.args.self.now in
    let gone : standing_value (map.get base name) ≡ None = sym c.in-None.ensures in
    let lent = c.scalar_mut in (
      (
        refl,
        λ w. on_some lent.result _ _ (λ is.
            changed seen keeps (together base own) (together base (lent.follows.lender w)) (λ t. map.insert t name (Scalar w)) c.self.view_is
            (ap (together base) is ∙ put_beside base name gone own (Scalar w))) (lent.follows.holds w),
        ap (λ o. record { table = together base o; keeps = keeps }) lent.follows.holds-at-none ∙ c.self.view_is,
      ),
      record {
        writes_back = tt;
        value = if_some (option_copied_mut lent.result) (λ text. map.get own name ≡ Some (Scalar text)) (λ text. map.get seen.table name ≡ Some (Scalar text)) (λ text is.
            sym (ap (λ (g : Globals). map.get g.table name) c.self.view_is) ∙ get_beside base name gone own ∙ is)
            (scalar_is (option_copied_mut lent.result) (map.get own name) lent.ensures.value);
        none = if_none lent.result (text_of_scalar (map.get own name) ≡ None) (IsNoScalar seen.table name ⊎ IsBase seen.keeps name) (λ is.
            inl (ap text_of_scalar (sym (ap (λ (g : Globals). map.get g.table name) c.self.view_is) ∙ get_beside base name gone own) ∙ is))
            (none_is lent.result (text_of_scalar (map.get own name)) lent.ensures.value);
      },
    )

pub returns-in-Some : goal.returns-in-Some
returns-in-Some c =
    let base = c.self.inside.base in
    let keeps = keeps_of c.self.inside.keeps.items in
    let name = c.args.name.now in
    let known = standing_kept base keeps name c.in-Some.field-0.now c.self.invariant.0 c.in-Some.ensures in (
      (refl, λ w. tt, c.self.view_is),
      record {
        writes_back = tt;
        value = tt;
        none = inr (subst (λ (g : Globals). IsBase g.keeps name) c.self.view_is known);
      },
    )
