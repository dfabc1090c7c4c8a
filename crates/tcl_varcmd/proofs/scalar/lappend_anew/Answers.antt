use Rattle.std.proofs.Common.{◌++◌, ◌∙◌, ap, sym}
use Rattle.txt_core.specs.Quoting.{quoting}
use Rattle.natives.specs.Checks.{list_error, items}
use Rattle.tcl_varcmd.proofs.InPlace.{lappending_anew}
use Rattle.tcl_varcmd.proofs.scalar.lappend_anew.Goals as goal

pub returns-clause-came : goal.returns-clause-came
returns-clause-came c =
    let place = c.args.place.now in
    let same = c.in_ok-old.ensures in
    lappending_anew place c.in_ok-whole.whole c.args.values.now c.store_at.result
    (ap list_error (sym same) ∙ c.in_ok-whole.ensures.0)
    (c.in_ok-whole.ensures.1 ∙ ap (λ t. quoting (items t ++ c.args.values.now)) same) c.store_at.ensures.came
