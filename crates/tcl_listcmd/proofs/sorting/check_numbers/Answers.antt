use Rattle.std.proofs.Common.{◌≡◌, ◌∙◌, sym, ◌+◌, drop, ℤ}
use Rattle.natives.specs.Checks.{integer, integer_error}
use Rattle.natives.specs.Sorting.{numbers_error}
use Rattle.tcl_listcmd.proofs.Numbers.{numbers_next, numbers_end, numbers_fail, numbers_pass}
use Rattle.tcl_listcmd.proofs.sorting.check_numbers.Goals as goal

pub returns-in-Err : goal.returns-in-Err
returns-in-Err c =
    numbers_fail (λ (n : ℤ). n ≡ integer c.element-item.result) (integer_error c.element-item.result) (numbers_error (drop (c.elements.element-index + 1) c.args.list.now)) (numbers_error c.args.list.now) c.in-Err.fault
    (sym (numbers_next c.args.list.now c.elements.element-index c.element-item.result c.elements-test.true c.element-item.is) ∙ c.elements.invariant) c.in-Err.ensures

pub elements-preserved : goal.elements-preserved
elements-preserved c =
    let next = numbers_next c.args.list.now c.elements.element-index c.element-item.result c.elements-test.true c.element-item.is in
    let pass = numbers_pass (integer_error c.element-item.result) (numbers_error (drop (c.elements.element-index + 1) c.args.list.now)) c.in_default.ensures.0 in
    sym (next ∙ pass) ∙ c.elements.invariant

pub returns : goal.returns
returns c = (sym c.elements.invariant ∙ numbers_end c.args.list.now c.elements.element-index c.elements-test.false, tt)
