use Rattle.std.proofs.Common.{subst, sym}
use Rattle.tcl_parse.specs.declared.fault.Fault.{Fault}
use Rattle.tcl_parse.specs.Outcome.{fault}
use Rattle.tcl_parse.specs.Answers.{BraceGives}
use Rattle.tcl_parse.proofs.Closing.{brace_none, brace_some}
use Rattle.tcl_parse.proofs.reading.braced_word.Goals as goal

pub returns-in-None-clause-same : goal.returns-in-None-clause-same
returns-in-None-clause-same c =
    subst (λ (f : Fault). BraceGives c.args.bytes.now (fault f.kind f.left)) (sym c.before-in-None.ensures) (brace_none c.args.bytes.now (rw c.in-None.is at c.in_ok-in_braces.ensures.same))

pub returns-in_ok-word-in-Some-clause-same : goal.returns-in_ok-word-in-Some-clause-same
returns-in_ok-word-in-Some-clause-same c = brace_some c.args.bytes.now c.in-Some.text.items c.in-Some.rest.now _ (rw c.in-Some.is at c.in_ok-in_braces.ensures.same) (rw c.new.ensures.items at c.in_ok-word-in-Some.ensures)
