use Rattle.ictl.proofs.Questions.{questions_are_asked}
use Rattle.ictl.proofs.law.questions_are_asked.Goals as goal

pub returns : goal.returns
returns c = questions_are_asked
