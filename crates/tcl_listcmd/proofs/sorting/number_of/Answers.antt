use Rattle.std.proofs.Common.{◌∙◌, None, Some, rules, FitsSigned}
use Rattle.std.specs.Int.{w64}
use Rattle.std.proofs.lemmas.Int.{to_z-of_z}
use Rattle.tcl_listcmd.proofs.Numbers.{integer_is}
use Rattle.tcl_listcmd.proofs.sorting.number_of.Goals as goal

pub returns-in-Some : goal.returns-in-Some
returns-in-Some c =
    let fits : FitsSigned w64 c.in-Some.number = search rules in
    to_z-of_z w64 c.in-Some.number fits ∙ integer_is c.args.element.now (Some c.in-Some.number) c.in-Some.ensures

pub returns-in-None : goal.returns-in-None
returns-in-None c = integer_is c.args.element.now None c.in-None.ensures
