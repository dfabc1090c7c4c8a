use Rattle.natives.specs.Names.{names_of}
use Rattle.rehearse.specs.Playing.{setting_of}
use Rattle.rehearse.proofs.Settling.{SoFarDefined, questions_of}
use Rattle.rehearse.proofs.defining.Run.finish.Given as goal

abbrev pub invariant-questions : goal.invariant-questions
invariant-questions g l = SoFarDefined (setting_of (names_of l.natives) l.setting) l.fn.self l.fn.objects l.self l.objects

abbrev pub decreases-questions : goal.decreases-questions
decreases-questions g l = questions_of l.self.run.next l.self.run.interp
