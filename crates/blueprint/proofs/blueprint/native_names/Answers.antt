use Rattle.std.proofs.Common.{◌≡◌, ◌<◌, List, ℕ, ◌∷◌, [], ◌++◌, length, Some, ◌∙◌, sym, ap, subst, arith}
use Rattle.std.specs.List.{slice_get}
use Rattle.natives.specs.Names.{names_of as native_names}
use Rattle.blueprint.proofs.Words.{name_more, name_there}
use Rattle.blueprint.proofs.blueprint.native_names.Goals.{in-Some+in_ok-copy+in_ok-add, in_default}
use Rattle.blueprint.proofs.blueprint.native_names.Goals as goal

pub loop-at-preserved : goal.loop-at-preserved
loop-at-preserved g c =
    let i = c.loop-at.at in
    let names = native_names c.args.natives.now in
    let before = c.loop-at.invariant in
    let within : i < length names = subst (λ (n : ℕ). i < n) before.0 c.loop-at-test.true in
    elim c.match-get.branch [
      | in-Some+in_ok-copy+in_ok-add w ↦
          let named : Some w.in_ok-copy.field-0 ≡ slice_get names i = ap (λ (n : List ℕ). Some n) (w.in_ok-copy.ensures ∙ w.name.ensures) ∙ w.in-Some.ensures in
          (before.0, omega arith, w.names-is ∙ w.in_ok-add.ensures.ok ∙ ap (λ (ns : List (List ℕ)). ns ++ w.in_ok-copy.field-0 ∷ []) before.2 ∙ sym (name_more names i w.in_ok-copy.field-0 named))
      | in_default w ↦ absurd (name_there names i within w.in_default.ensures)
    ]
