use Rattle.tcl_parse.proofs.Gaps.{passed_is, passed_skip}
use Rattle.tcl_parse.proofs.law.passed_over.Goals as goal

pub returns-clause-passes : goal.returns-clause-passes
returns-clause-passes c = passed_skip

pub returns-clause-only : goal.returns-clause-only
returns-clause-only c = λ t r h. passed_is h
