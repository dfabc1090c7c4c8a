use Rattle.http_req.proofs.LineFacts.{bad_begins_none, cut_begins}
use Rattle.http_req.proofs.law.bad_at_the_first_byte.Goals as goal

pub returns-clause-bad : goal.returns-clause-bad
returns-clause-bad c = bad_begins_none

pub returns-clause-cut : goal.returns-clause-cut
returns-clause-cut c = cut_begins
