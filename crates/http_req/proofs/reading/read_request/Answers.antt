use Rattle.http_req.proofs.Answering.{answers_request, answers_other, consumes_request, consumes_other, undecided_other}
use Rattle.http_req.proofs.reading.read_request.Goals as goal

pub returns-in-Ok-clause-answers : goal.returns-in-Ok-clause-answers
returns-in-Ok-clause-answers g c = answers_request _ _ _ _ _ _ _ _ c.in-Ok.ensures

pub returns-in-Ok-clause-consumes : goal.returns-in-Ok-clause-consumes
returns-in-Ok-clause-consumes g c = consumes_request _ _ _ _ _ _ _ _ c.in-Ok.ensures

pub returns-in-Err-clause-answers : goal.returns-in-Err-clause-answers
returns-in-Err-clause-answers g c = answers_other _ _ _ _ _ _ _ _ c.in-Err.ensures

pub returns-in-Err-clause-consumes : goal.returns-in-Err-clause-consumes
returns-in-Err-clause-consumes g c = consumes_other _ _ _ _ _ _ _ _ c.in-Err.ensures

pub returns-in-Err-clause-undecided : goal.returns-in-Err-clause-undecided
returns-in-Err-clause-undecided g c = (undecided_other _ _ _ _ _ _ _ _ c.in-Err.ensures).0

pub returns-in-Err-clause-rose : goal.returns-in-Err-clause-rose
returns-in-Err-clause-rose g c = (undecided_other _ _ _ _ _ _ _ _ c.in-Err.ensures).1
