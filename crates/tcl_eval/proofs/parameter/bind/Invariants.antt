use Rattle.std.proofs.Common.{◌≡◌, length}
use Rattle.tcl_eval.specs.Parameters.{bind}
use Rattle.tcl_eval.specs.ParametersSeen.{ahead}
use Rattle.tcl_eval.proofs.parameter.bind.Given as goal

abbrev pub invariant-parameters : goal.invariant-parameters
invariant-parameters l = bind l.fn.parameters l.fn.words ≡ ahead l.values (bind l.left l.rest)

abbrev pub decreases-parameters : goal.decreases-parameters
decreases-parameters l = length l.left
