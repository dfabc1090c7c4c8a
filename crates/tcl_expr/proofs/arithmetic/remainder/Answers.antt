use Rattle.std.proofs.Common.{rules, inl, inr, FitsSigned, w64}
use Rattle.std.proofs.lemmas.Int.{to_z-of_z}
use Rattle.tcl_expr.proofs.Quotients.{moved, kept}
use Rattle.tcl_expr.proofs.arithmetic.remainder.Goals as goal
use Rattle.tcl_expr.proofs.arithmetic.remainder.Goals.{else-rest-ne0-via-then-rest-ne0+else-m-n, else-rest-ne0-via-else-rest-ne0}

pub returns-then-m-n : goal.returns-then-m-n
returns-then-m-n c =
    let f = c.ranges.m in
    let g = c.ranges.n in
    let e = simp to_z-of_z at c.wrapping_rem-rest.ensures in
    let h = simp to_z-of_z at c.if-m-n.true in
    moved c.args.m c.args.n c.wrapping_rem-rest.result f g c.requires e c.if-rest-ne0.true h

pub returns-else-rest-ne0 : goal.returns-else-rest-ne0
returns-else-rest-ne0 c =
    let f = c.ranges.m in
    let g = c.ranges.n in
    let e = simp to_z-of_z at c.wrapping_rem-rest.ensures in
    let r : FitsSigned w64 c.wrapping_rem-rest.result = search rules in
    elim c.else-rest-ne0.branch [
      | else-rest-ne0-via-then-rest-ne0+else-m-n w ↦ let h = simp to_z-of_z at w.if-m-n.false in kept c.args.m c.args.n c.wrapping_rem-rest.result r g c.requires e (inr h)
      | else-rest-ne0-via-else-rest-ne0 w ↦ kept c.args.m c.args.n c.wrapping_rem-rest.result r g c.requires e (inl w.if-rest-ne0.false)
    ]
