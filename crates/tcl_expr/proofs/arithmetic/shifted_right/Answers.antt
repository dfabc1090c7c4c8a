use Rattle.std.proofs.Common.{rules, FitsSigned, w64}
use Rattle.std.specs.Int.{int_shr}
use Rattle.tcl_expr.proofs.Quotients.{shifts}
use Rattle.tcl_expr.proofs.arithmetic.shifted_right.Goals as goal

pub returns : goal.returns
returns c =
    let f = c.ranges.m in
    let g : FitsSigned w64 (int_shr c.args.m c.args.count) = search rules in
    shifts c.args.m c.args.count f g
