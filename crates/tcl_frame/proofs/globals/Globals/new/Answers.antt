use Rattle.std.proofs.Common.{sym, ap, subst, ◌∙◌}
use Rattle.std.specs.FinMap as map
use Rattle.tcl_frame.specs.Base.{base_of}
use Rattle.tcl_frame.specs.Globals.{keeps_of, KnowBefore}
use Rattle.tcl_frame.proofs.Bases.{no_values, no_variables}
use Rattle.tcl_frame.proofs.globals.Globals.new.Goals as goal

pub invariant_of-result : goal.invariant_of-result
invariant_of-result c = (
  no_values c.new-base.result c.new-base.ensures ∙ sym (ap (λ keeps. base_of (keeps_of keeps)) c.new-keeps.ensures.items),
  subst (KnowBefore map.empty) (sym c.new-keeps.ensures.items) tt,
)

pub returns-clause-table : goal.returns-clause-table
returns-clause-table c = no_variables c.new-base.result c.new-own.result c.new-base.ensures c.new-own.ensures
