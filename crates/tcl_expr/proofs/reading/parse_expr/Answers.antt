use Rattle.std.proofs.Common.{◌-◌, length, refl, arith, rules}
use Rattle.tcl_expr.specs.Reading.{IsBad}
use Rattle.tcl_expr.proofs.Slashes.{none_goes_past}
use Rattle.tcl_expr.proofs.Reached.{some_reaches}
use Rattle.tcl_expr.specs.Outcome.{bad, bad_from}
use Rattle.tcl_expr.specs.Grammar.{Reads}
use Rattle.tcl_expr.specs.Laws.Answers.{bad_within}
use Rattle.tcl_expr.proofs.reading.parse_expr.Goals as goal

pub overflow_sub-result : goal.overflow_sub-result
overflow_sub-result c =
    let read = rw c.skip.ensures.same at (rw c.in-Err-Fault.field-0-is at c.in-Err-Fault.ensures.same) in
    bad_within c.bytes-bytes.result.now c.in-Err-Fault.left (bad c.in-Err-Fault.left, read, refl)

pub returns-in-Err-Fault : goal.returns-in-Err-Fault
returns-in-Err-Fault c =
    let read = rw c.skip.ensures.same at (rw c.in-Err-Fault.field-0-is at c.in-Err-Fault.ensures.same) in
    let reads : Reads c.bytes-bytes.result.now (bad_from c.in-Err-Fault.left) = (bad c.in-Err-Fault.left, read, refl) in
    let left = bad_within c.bytes-bytes.result.now c.in-Err-Fault.left reads in
    let place : IsBad (length c.bytes-bytes.result.now - c.in-Err-Fault.left) c.args.text.now = (c.in-Err-Fault.left, rw (← c.bytes-bytes.ensures) (omega (arith, left)), rw (← c.bytes-bytes.ensures) reads) in
    record {
      same = place;
      least = none_goes_past (length c.bytes-bytes.result.now - c.in-Err-Fault.left) c.args.text.now place;
      reached = some_reaches (length c.bytes-bytes.result.now - c.in-Err-Fault.left) c.args.text.now place;
    }

pub returns-else-is_empty-clause-least : goal.returns-else-is_empty-clause-least
returns-else-is_empty-clause-least c =
    let place : IsBad (length c.bytes-bytes.result.now - c.stuck.result) c.args.text.now = search rules in
    none_goes_past (length c.bytes-bytes.result.now - c.stuck.result) c.args.text.now place

pub returns-else-is_empty-clause-reached : goal.returns-else-is_empty-clause-reached
returns-else-is_empty-clause-reached c =
    let place : IsBad (length c.bytes-bytes.result.now - c.stuck.result) c.args.text.now = search rules in
    some_reaches (length c.bytes-bytes.result.now - c.stuck.result) c.args.text.now place
