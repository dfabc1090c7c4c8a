-- Where a run stands: it is replayed from a fresh state, with all answers that it has had.
use Rattle.std.specs.Prelude.{List, Bool, true, false}
use Rattle.txt_core.specs.Names.{Names}
use Rattle.outside.specs.declared.question.Answer.{Answer}
use Rattle.outside.specs.declared.question.Question.{Question}
use Rattle.http_resp.specs.declared.response.Response.{Response}
use Rattle.tcl_eval.specs.declared.outcome.Outcome.{Outcome}
use Rattle.ictl.specs.Main.{Progress, asks, writes, ends, Main, Script, behind_response}
use Rattle.rehearse.specs.World.{Open, OpenScript}

-- Where a run stands.
pub data Stand : Type 0 where
  -- at a question
  asking : (question : Question) → Stand
  -- its response is ready to be written
  ready : (response : Response) → Stand
  -- it has ended
  over : (outcome : Outcome) → Stand

abbrev pub stand_of : Progress → Stand
stand_of (asks question state inside) = asking question
stand_of (writes response ending state inside left) = ready response
stand_of (ends outcome state inside left) = over outcome

-- ---- requests

-- where its response was written, whole, it goes on with what comes behind it, on the answers that are left
abbrev pub by_written : Names → Bool → Open → Progress → Progress
by_written natives true request progress = behind_response natives request.blueprint request.moment true request.request progress
by_written natives false request progress = progress

-- How far a request comes with these answers, on natives of these names: its run begins in the fresh state of the blueprint and the
-- moment at which the request began.
abbrev pub request_progress : Names → Open → List Answer → Progress
request_progress natives request answers =
    by_written natives request.written request (Main natives request.blueprint request.request request.moment answers)

abbrev pub request_stand : Names → Open → Stand
request_stand natives request = stand_of (request_progress natives request request.answers)

-- ---- scheduled scripts

-- the same of a scheduled script, which has no response
abbrev pub script_progress : Names → OpenScript → List Answer → Progress
script_progress natives script answers = Script natives script.blueprint script.script script.moment answers

abbrev pub script_stand : Names → OpenScript → Stand
script_stand natives script = stand_of (script_progress natives script script.answers)
