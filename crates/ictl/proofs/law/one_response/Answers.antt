use Rattle.ictl.proofs.Silent.{one_response}
use Rattle.ictl.proofs.law.one_response.Goals as goal

pub returns : goal.returns
returns c = one_response
