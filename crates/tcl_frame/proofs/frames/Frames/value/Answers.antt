use Rattle.std.proofs.Common.{ap, sym, ◌∙◌}
use Rattle.tcl_frame.specs.Names.{named}
use Rattle.tcl_frame.specs.Meaning.{value_there, no_read}
use Rattle.tcl_frame.specs.Frames.{found_in}
use Rattle.tcl_frame.proofs.Scalars.{plain_read}
use Rattle.tcl_frame.proofs.frames.Frames.value.Goals as goal

pub returns-in-Some-clause-value : goal.returns-in-Some-clause-value
returns-in-Some-clause-value c =
    let stack = c.args.self.now in
    let name = c.bytes-bytes.result.now in
    let plain = sym c.is_closed.ensures ∙ c.if-not-is_closed.true in
    let found = plain_read stack name c.in-Some.value.now plain c.in-Some.ensures in
    sym (ap value_there found) ∙ ap (λ n. value_there (found_in stack (named n))) c.bytes-bytes.ensures

pub returns-in-Some-clause-refused : goal.returns-in-Some-clause-refused
returns-in-Some-clause-refused c =
    let stack = c.args.self.now in
    let name = c.bytes-bytes.result.now in
    let plain = sym c.is_closed.ensures ∙ c.if-not-is_closed.true in
    let found = plain_read stack name c.in-Some.value.now plain c.in-Some.ensures in
    sym (ap (λ n. no_read (found_in stack (named n))) c.bytes-bytes.ensures) ∙ ap no_read found
