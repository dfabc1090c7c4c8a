use Rattle.std.proofs.Common.{◌∙◌, sym, arith}
use Rattle.tcl_list.proofs.Braces.{none_closes}
use Rattle.tcl_list.proofs.brace.in_braces.Goals as goal

pub returns-clause-same : goal.returns-clause-same
returns-clause-same c =
    sym (none_closes c.args.bytes.now c.bytes.at c.bytes.nesting.braces c.bytes.nesting.passes (omega arith)) ∙ c.bytes.invariant.same
