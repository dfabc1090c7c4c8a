use Rattle.std.proofs.Common.{refl}
use Rattle.tcl_list.proofs.Braces.{written_slashed}
use Rattle.tcl_list.proofs.writing.manner_of.Goals as goal

pub returns-in-None : goal.returns-in-None
returns-in-None c =
    written_slashed c.args.text.now c.bytes.rest.now c.in-Some.tail.now c.in-Some.b.now c.bytes.nesting.braces c.bytes.plain c.bytes.nesting.passes
    c.in-Some.ensures.cases.0 (c.in-None.ensures.brace refl) c.bytes.invariant.plain c.bytes.invariant.same c.in-None.ensures.balances
