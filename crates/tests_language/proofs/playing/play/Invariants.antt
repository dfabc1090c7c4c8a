use Rattle.tcl_eval.specs.Engine.{Leaves}
use Rattle.tests_language.proofs.playing.play.Given as goal

abbrev pub invariant-answers : goal.invariant-answers
invariant-answers g l = Leaves l.outcome l.engine
