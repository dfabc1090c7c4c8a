use Rattle.std.proofs.Common.{◌≡◌, ◌++◌, map, drop}
use Rattle.tcl_eval.specs.declared.parameter.Parameter.{Parameter}
use Rattle.tcl_eval.proofs.info.names_of.Given as goal

abbrev pub invariant-loop-parameter : goal.invariant-loop-parameter
invariant-loop-parameter l =
    map (λ (p : Parameter). p.name) l.fn.parameters ≡ l.names ++ map (λ (p : Parameter). p.name) (drop l.parameter-index l.fn.parameters)
