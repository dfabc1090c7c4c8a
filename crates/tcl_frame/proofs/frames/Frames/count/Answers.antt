use Rattle.std.proofs.Common.{ap, sym, ◌∙◌, length}
use Rattle.std.specs.FinMap as map
use Rattle.tcl_frame.specs.Names.{named}
use Rattle.tcl_frame.specs.Meaning.{elements_there}
use Rattle.tcl_frame.specs.Frames.{found_in}
use Rattle.tcl_frame.proofs.Findings.{no_elements}
use Rattle.tcl_frame.proofs.frames.Frames.count.Goals as goal

pub returns-in_default : goal.returns-in_default
returns-in_default c =
    let is = c.find.ensures ∙ ap (found_in c.args.self.now) (c.new.ensures ∙ ap named c.bytes.ensures) in
    sym (ap length (no_elements c.find.result c.in_default.not-AnArray)) ∙ ap (λ f. length (map.entries (elements_there f))) is
