use Rattle.std.proofs.Common.{◌≡◌, ◌++◌, ◌∷◌, [], false, sym, ap, subst, ◌∙◌}
use Rattle.std.specs.FinMap as map
use Rattle.tcl_frame.specs.declared.keep.Keep.{Keep}
use Rattle.tcl_frame.specs.declared.variable.Variable.TheVariants.{Scalar}
use Rattle.tcl_frame.specs.Base.{base_of, as_variables}
use Rattle.tcl_frame.specs.Globals.{Globals, together, values_of, keeps_of, value_before, KnowBefore}
use Rattle.tcl_frame.proofs.Bases.{put_base, as_put, values_get}
use Rattle.tcl_frame.proofs.Keeping.{base_last, keeps_last, know_last, values_put}
use Rattle.tcl_frame.proofs.globals.Globals.keep.Goals as goal

pub invariant_of-self-2 : goal.invariant_of-self-2
invariant_of-self-2 c =
    let base = c.self.inside.base in
    let items = c.self.inside.keeps.items in
    let name = c.args.name in
    let value = c.args.value in
    let keep : Keep = record { name = name; value = c.share.new.self; before = c.in_ok-before.before } in
    let noted : c.push_reserved.new.self.items ≡ items ++ keep ∷ [] = c.push_reserved.ensures.items ∙ ap (λ xs. xs ++ keep ∷ []) c.in_ok-reserve.ensures.items in
    let put : c.replace.new.self ≡ map.insert base name (record { value = value; aside = false }) =
    c.in_ok-before.ensures.ok
    ∙ ap (λ k. map.insert base k (record { value = c.in_ok-shared.shared; aside = false })) c.bytes.ensures
    ∙ ap (λ v. map.insert base name (record { value = v; aside = false })) c.in_ok-shared.ensures.value in (
      ap values_of put
          ∙ values_put base name (record { value = value; aside = false })
          ∙ ap (λ m. map.insert m name value) c.self.invariant.0
          ∙ sym (base_last (keeps_of items) name value)
          ∙ sym (ap base_of (ap keeps_of noted ∙ keeps_last items keep ∙ ap (λ v. keeps_of items ++ (name, v) ∷ []) c.share.ensures.kept)),
      subst (KnowBefore map.empty) (sym noted) (know_last items keep c.self.invariant.1
          (ap value_before (c.in_ok-before.ensures.before ∙ ap (map.get base) c.bytes.ensures) ∙ sym (values_get base name) ∙ ap (λ m. map.get m name) c.self.invariant.0)),
    )

pub returns-clause-table : goal.returns-clause-table
returns-clause-table c =
    let base = c.self.inside.base in
    let own = c.self.inside.own in
    let name = c.args.name in
    let value = c.args.value in
    let keeps = c.args.self.now.keeps in
    let put : c.replace.new.self ≡ map.insert base name (record { value = value; aside = false }) =
    c.in_ok-before.ensures.ok
    ∙ ap (λ k. map.insert base k (record { value = c.in_ok-shared.shared; aside = false })) c.bytes.ensures
    ∙ ap (λ v. map.insert base name (record { value = v; aside = false })) c.in_ok-shared.ensures.value in
    ap (λ b. together b own) put
    ∙ put_base base own name value
    ∙ ap (λ t. map.insert t name (Scalar value)) (ap (λ (g : Globals). g.table) c.self.view_is ∙ c.requires)
    ∙ sym (as_put (base_of keeps) name value)
    ∙ sym (ap as_variables (base_last keeps name value))
