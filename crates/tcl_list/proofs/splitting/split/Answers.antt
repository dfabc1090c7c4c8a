use Rattle.std.proofs.Common.{◌≤◌, ◌-◌, arith, length}
use Rattle.txt_core.specs.Lists.{elements, bad_at}
use Rattle.txt_core.specs.Listing.{bad_within, listing_is}
use Rattle.tcl_list.proofs.splitting.split.Goals as goal

pub overflow_sub-result : goal.overflow_sub-result
overflow_sub-result c = bad_within c.bytes-bytes.result.now c.in-Err-Fault.left (rw c.in-Err-Fault.field-0-is at c.in-Err-Fault.ensures)

pub returns-in-Ok : goal.returns-in-Ok
returns-in-Ok c = listing_is c.args.text.now (elements c.in-Ok.words) (rw (← c.bytes-bytes.ensures) c.in-Ok.ensures)

pub returns-in-Err-Fault : goal.returns-in-Err-Fault
returns-in-Err-Fault c =
    let read = rw c.in-Err-Fault.field-0-is at c.in-Err-Fault.ensures in
    let left : c.in-Err-Fault.left ≤ length c.bytes-bytes.result.now = bad_within c.bytes-bytes.result.now c.in-Err-Fault.left read in
    rw (← c.bytes-bytes.ensures) (listing_is c.bytes-bytes.result.now (bad_at (length c.bytes-bytes.result.now - c.in-Err-Fault.left)) (c.in-Err-Fault.left, omega arith, read))
