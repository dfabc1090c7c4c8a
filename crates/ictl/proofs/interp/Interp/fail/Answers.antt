use Rattle.std.proofs.Common.{refl}
use Rattle.ictl.specs.declared.ending.Ending.TheVariants.{Answered}
use Rattle.ictl.specs.declared.task.Task.TheVariants.{Writing}
use Rattle.ictl.proofs.interp.Interp.fail.Goals as goal

pub returns-in_err-response-clause-rest : goal.returns-in_err-response-clause-rest
returns-in_err-response-clause-rest c = (c.args.self.now.task, refl)

pub returns-clause-rest : goal.returns-clause-rest
returns-clause-rest c = (Writing Answered, c.respond.ensures.task)
