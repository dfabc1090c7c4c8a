use Rattle.server_host.proofs.Asking.{names_are_questions}
use Rattle.server_host.proofs.law.asked_names_are_questions.Goals as goal

pub returns : goal.returns
returns c = names_are_questions
