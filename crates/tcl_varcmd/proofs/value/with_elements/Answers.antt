use Rattle.std.proofs.Common.{◌≡◌, ◌++◌, List, ℕ}
use Rattle.txt_core.specs.Quoting.{quoting}
use Rattle.natives.specs.Checks.{items}
use Rattle.tcl_varcmd.proofs.Values.{appended, bad_to_append, bad_list_said}
use Rattle.tcl_varcmd.proofs.value.with_elements.Goals as goal

pub returns-in-Ok : goal.returns-in-Ok
returns-in-Ok c = appended c.args.list c.args.others.now c.in-Ok.text c.in-Ok.ensures

pub returns-in-Err : goal.returns-in-Err
returns-in-Err c =
    bad_list_said (λ (text : List ℕ). text ≡ quoting (items c.args.list ++ c.args.others.now)) c.args.list c.in-Err.fault c.bad_list.result
    (bad_to_append c.args.list c.args.others.now c.in-Err.fault c.in-Err.ensures) c.bad_list.ensures
