use Rattle.std.proofs.Common.{◌≤◌, [], arith, refl, length}
use Rattle.tcl_parse.specs.Outcome.{done, fault}
use Rattle.tcl_parse.specs.View.{script_of}
use Rattle.tcl_parse.specs.Laws.Within.{reads_within}
use Rattle.tcl_parse.specs.Reading.{reading_is}
use Rattle.tcl_parse.proofs.reading.parse.Goals as goal

pub overflow_sub-result : goal.overflow_sub-result
overflow_sub-result c =
    let read = rw c.in-Err-Fault.field-0-is at c.in-Err-Fault.ensures.same in
    let left : c.in-Err-Fault.fault.left ≤ length c.bytes-bytes.result.now = reads_within c.bytes-bytes.result.now (fault _ c.in-Err-Fault.fault.left) read in
    omega arith

pub returns-in-Err-Fault : goal.returns-in-Err-Fault
returns-in-Err-Fault c =
    let read = rw c.in-Err-Fault.field-0-is at c.in-Err-Fault.ensures.same in
    let left : c.in-Err-Fault.fault.left ≤ length c.bytes-bytes.result.now = reads_within c.bytes-bytes.result.now (fault _ c.in-Err-Fault.fault.left) read in
    (c.in-Err-Fault.fault.left, rw (← c.bytes-bytes.ensures) (omega arith), rw (← c.bytes-bytes.ensures) (reading_is c.bytes-bytes.result.now (fault _ c.in-Err-Fault.fault.left) read))

pub returns-in-Ok : goal.returns-in-Ok
returns-in-Ok c =
    let whole = rw (c.in-Ok.ensures.whole refl) at c.in-Ok.ensures.same in
    rw (← c.bytes-bytes.ensures) (reading_is c.bytes-bytes.result.now (done (script_of c.in-Ok.script) []) whole)
