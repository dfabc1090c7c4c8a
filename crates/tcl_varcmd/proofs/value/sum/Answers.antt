use Rattle.std.proofs.Common.{◌≡◌, ◌∙◌, sym, subst, ℤ, ◌+ℤ◌}
use Rattle.std.specs.Int.{w64}
use Rattle.std.specs.Int.RustNames.{FitsSigned}
use Rattle.std.proofs.lemmas.Int.{to_z-of_z}
use Rattle.txt_core.specs.ErrorTexts.{overflow}
use Rattle.tcl_varcmd.specs.Errors.{sum_error}
use Rattle.tcl_varcmd.proofs.Exits.{tried_said}
use Rattle.tcl_varcmd.proofs.Values.{sum_fits, sum_overflows}
use Rattle.tcl_varcmd.proofs.value.sum.Goals as goal

pub returns-in-Some : goal.returns-in-Some
returns-in-Some c =
    let left = to_z-of_z w64 c.args.left c.ranges.left in
    let right = to_z-of_z w64 c.args.right c.ranges.right in
    let is : c.in-Some.sum ≡ c.args.left +ℤ c.args.right = c.in-Some.ensures.1 ∙ (λ i. left i +ℤ right i) in
    let fits : FitsSigned w64 (c.args.left +ℤ c.args.right) = subst (FitsSigned w64) (λ i. left i +ℤ right i) c.in-Some.ensures.0 in
    (sum_fits (c.args.left +ℤ c.args.right) fits, to_z-of_z w64 c.in-Some.sum (subst (FitsSigned w64) (sym is) fits) ∙ is)

pub returns-in-None : goal.returns-in-None
returns-in-None c =
    let left = to_z-of_z w64 c.args.left c.ranges.left in
    let right = to_z-of_z w64 c.args.right c.ranges.right in
    let over : FitsSigned w64 (c.args.left +ℤ c.args.right) → ⊥ = λ fits. c.in-None.ensures (subst (FitsSigned w64) (sym (λ i. left i +ℤ right i)) fits) in
    tried_said (λ (n : ℤ). n ≡ c.args.left +ℤ c.args.right) (sum_error (c.args.left +ℤ c.args.right)) overflow c.overflow.result (sum_overflows (c.args.left +ℤ c.args.right) over) c.overflow.ensures
