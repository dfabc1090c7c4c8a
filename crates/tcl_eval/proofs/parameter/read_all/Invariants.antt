use Rattle.std.proofs.Common.{◌≡◌, drop}
use Rattle.tcl_eval.specs.Parameters.{read_all}
use Rattle.tcl_eval.specs.ParametersSeen.{in_front}
use Rattle.tcl_eval.proofs.parameter.read_all.Given as goal

abbrev pub invariant-texts : goal.invariant-texts
invariant-texts l = read_all l.texts ≡ in_front l.all.items (read_all (drop l.text-index l.texts))
