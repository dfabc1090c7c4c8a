use Rattle.std.proofs.Common.{◌≡◌, ap, ◌∙◌, length}
use Rattle.tcl_frame.specs.Meaning.{no_write}
use Rattle.tcl_frame.specs.Frames.{written}
use Rattle.tcl_frame.proofs.Tables.{at_some}
use Rattle.tcl_frame.proofs.Scalars.{written_deep}
use Rattle.tcl_frame.proofs.frames.Frames.write.Goals as goal

pub returns-in-Some-clause-ok : goal.returns-in-Some-clause-ok
returns-in-Some-clause-ok c =
    let stack = c.args.self.now in
    let value = c.args.value in
    at_some c.scalar_mut.result c.in-Some.place (c.scalar_mut.follows.lender value ≡ written stack c.args.name.now value) c.in-Some.is (c.scalar_mut.follows.holds value)

pub returns-in-Some-clause-refused : goal.returns-in-Some-clause-refused
returns-in-Some-clause-refused c = ap no_write c.in-Some.ensures.value

pub returns-in-Some-clause-depth : goal.returns-in-Some-clause-depth
returns-in-Some-clause-depth c =
    let stack = c.args.self.now in
    let value = c.args.value in
    ap (λ s. length s.above) (at_some c.scalar_mut.result c.in-Some.place (c.scalar_mut.follows.lender value ≡ written stack c.args.name.now value) c.in-Some.is (c.scalar_mut.follows.holds value))
    ∙ written_deep stack c.args.name.now value
