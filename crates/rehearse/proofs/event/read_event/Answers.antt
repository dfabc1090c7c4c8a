use Rattle.std.specs.Option.{option_map}
use Rattle.rehearse.specs.Reading.{event_of}
use Rattle.rehearse.proofs.EventReading.{no_line, no_head, event_found}
use Rattle.rehearse.proofs.event.read_event.Goals as goal

pub returns-in_err-line : goal.returns-in_err-line
returns-in_err-line c = rw c.from_residual.ensures (no_line c.args.bytes.now c.in_err-line.ensures)

pub returns-in_err-head : goal.returns-in_err-head
returns-in_err-head c =
    rw c.from_residual-in_err-head.ensures
    (no_head c.args.bytes.now c.in_ok-line.line.now c.in_ok-line.behind.now c.in_ok-line.ensures c.in_err-head.ensures)

pub returns : goal.returns
returns c =
    event_found c.args.bytes.now c.in_ok-line.line.now c.in_ok-line.behind.now c.in_ok-head.head (option_map event_of c.with_block.result)
    c.in_ok-line.ensures c.in_ok-head.ensures c.with_block.ensures
