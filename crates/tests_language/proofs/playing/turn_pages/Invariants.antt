use Rattle.tcl_eval.specs.Engine.{Leaves}
use Rattle.tests_language.proofs.playing.turn_pages.Given as goal

abbrev pub invariant-pages : goal.invariant-pages
invariant-pages g l = Leaves l.outcome l.engine
