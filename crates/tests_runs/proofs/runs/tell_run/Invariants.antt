use Rattle.natives.specs.Names.{names_of}
use Rattle.ictl.specs.Interps.{IsSound}
use Rattle.tests_runs.proofs.runs.tell_run.Given as goal

abbrev pub invariant-answers : goal.invariant-answers
invariant-answers g l = IsSound (names_of l.natives) l.run.interp

abbrev pub invariant-rest : goal.invariant-rest
invariant-rest g l = IsSound (names_of l.natives) l.run.interp
