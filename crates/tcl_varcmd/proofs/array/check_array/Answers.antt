use Rattle.std.proofs.Common.{◌∙◌, sym}
use Rattle.txt_core.specs.ErrorTexts.{is_no_array}
use Rattle.tcl_frame.specs.declared.fault.VarFault.TheVariants.{NotArray}
use Rattle.tcl_varcmd.specs.Errors.{array_error}
use Rattle.tcl_varcmd.proofs.Exits.{tried_said}
use Rattle.tcl_varcmd.proofs.Faults.{fault_said}
use Rattle.tcl_varcmd.proofs.Making.{element_making, array_making, scalar_making, absent_making}
use Rattle.tcl_varcmd.proofs.array.check_array.Goals as goal

pub returns-then-is_element_name : goal.returns-then-is_element_name
returns-then-is_element_name c =
    let name = c.args.name.now in
    tried_said {A = Unit {0}} (λ _. Unit {0}) (array_error c.args.frames.now name) (is_no_array name) c.refusal.result
    (element_making c.args.frames.now name (sym c.is_element_name.ensures ∙ c.if-is_element_name.true)) (fault_said NotArray name c.refusal.result c.refusal.ensures)

pub returns-then-is_array : goal.returns-then-is_array
returns-then-is_array c =
    let name = c.args.name.now in
    (array_making c.args.frames.now name (sym c.is_element_name.ensures ∙ c.if-is_element_name.false) (sym c.is_array.ensures ∙ c.if-is_array.true), tt)

pub returns-then-has : goal.returns-then-has
returns-then-has c =
    let name = c.args.name.now in
    tried_said {A = Unit {0}} (λ _. Unit {0}) (array_error c.args.frames.now name) (is_no_array name) c.refusal-then-has.result
    (scalar_making c.args.frames.now name (sym c.is_element_name.ensures ∙ c.if-is_element_name.false) (sym c.is_array.ensures ∙ c.if-is_array.false) (sym c.has.ensures ∙ c.if-has.true)) (fault_said NotArray name c.refusal-then-has.result c.refusal-then-has.ensures)

pub returns : goal.returns
returns c =
    let name = c.args.name.now in
    (absent_making c.args.frames.now name (sym c.is_element_name.ensures ∙ c.if-is_element_name.false) (sym c.is_array.ensures ∙ c.if-is_array.false) (sym c.has.ensures ∙ c.if-has.false), tt)
