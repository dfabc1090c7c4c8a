-- The steps of a worker.
use Rattle.std.specs.Prelude.{◌≡◌, ℕ, List, [], ◌∷◌, ◌++◌, true, false, Some, None}
use Rattle.txt_core.specs.Names.{Bytes}
use Rattle.outside.specs.declared.question.Answer.{Answer}
use Rattle.outside.specs.declared.question.Question.{Question}
use Rattle.http_req.specs.Outcomes.{Gets, Whole, End, Truncated, Refused}
use Rattle.http_req.specs.declared.request.Request.{Request}
pub use Rattle.http_resp.specs.Replies.{refusal_bytes}
use Rattle.http_resp.specs.ResponseBytes.{response_bytes}
use Rattle.http_resp.specs.declared.response.Response.{Response}
use Rattle.tcl_eval.specs.declared.outcome.Outcome.{Outcome}
use Rattle.ictl.specs.Falls.{IsEnd}
use Rattle.serving.specs.Connections as connections
use Rattle.serving.specs.declared.connection.Behind.{Behind}
use Rattle.serving.specs.declared.connection.Behind.TheVariants.{GoesOn, Closing, Spent}
use Rattle.rehearse.specs.Lines.{Line, response, closed, ended, closing, truncated, refused, spent}
use Rattle.rehearse.specs.Objects.{Setting, Answers}
use Rattle.rehearse.specs.declared.objects.Objects.{Objects}
use Rattle.rehearse.specs.Runs.{asking, ready, over, request_stand}
use Rattle.rehearse.specs.World.{Open, Connection, Worker, idle, connected, peer, with_request, with_answer, with_written, without_request}

-- A worker, and the objects.
pub record Position : Type 0 where
  pub worker : Worker
  pub objects : Objects

-- the worker is this one now, and the objects are as they were
abbrev pub with_worker : Position → Worker → Position
with_worker place worker = record { worker = worker; objects = place.objects }

-- The bytes of a response of the request under way. It says that the connection closes where the request asked so, where it is the
-- last that a connection may have, and where the answers have passed what a connection may have.
abbrev pub reply_bytes : Connection → Open → Response → Bytes
reply_bytes connection request reply =
    response_bytes reply request.moment (connections.is_head_only request.request)
    (connections.closes (connections.asks_close request.request) connection.requests connection.answer_bytes)

-- the connection closes behind a request, or stays
abbrev pub end_lines : ℕ → Behind → List Line
end_lines number Closing = closed number closing ∷ []
end_lines number Spent = closed number spent ∷ []
end_lines number GoesOn = []

abbrev pub end_worker : Connection → Behind → Worker
end_worker connection Closing = idle
end_worker connection Spent = idle
end_worker connection GoesOn = connected (without_request connection)

-- what follows the request under way
abbrev pub behind : Connection → Open → Behind
behind connection request = connections.after_request (connections.asks_close request.request) connection.requests connection.answer_bytes

-- the worker serves this request
abbrev pub IsServing : Worker → Connection → Open → Type 0
IsServing worker connection request = (worker ≡ connected connection) × (connection.request ≡ Some request)

-- the worker has this connection, and no request is under way
abbrev pub IsBetween : Worker → Connection → Type 0
IsBetween worker connection = (worker ≡ connected connection) × (connection.request ≡ None)

-- A step of the worker of this number, and what it tells. What fits a worker is one of these.
pub data Step (number : ℕ) (setting : Setting) (before : Position) (lines : List Line) (after : Position) : Type 0 where
  -- an idle worker does nothing
  rests : before.worker ≡ idle → lines ≡ [] → after ≡ before → Step number setting before lines after
  -- it answers the open question, from the objects and the pages as they are now
  answers : (connection : Connection) (request : Open) (question : Question) (answer : Answer) (objects : Objects)
      → IsServing before.worker connection request
      → request_stand setting.natives request ≡ asking question
      → Answers setting request.moment question before.objects answer objects
      → lines ≡ []
      → after ≡ record { worker = connected (with_answer connection request answer); objects = objects }
      → Step number setting before lines after
  -- it writes the response that stands ready, by the blueprint and the moment of the request
  writes : (connection : Connection) (request : Open) (reply : Response)
      → IsServing before.worker connection request
      → request_stand setting.natives request ≡ ready reply
      → lines ≡ response number (Some request.blueprint.epoch) reply.status (reply_bytes connection request reply) ∷ []
      → after ≡ with_worker before (connected (with_written connection request))
      → Step number setting before lines after
  -- it ends a request whose run has ended, and closes the connection where that is to close; want of memory is no end
  ends : (connection : Connection) (request : Open) (outcome : Outcome)
      → IsServing before.worker connection request
      → request_stand setting.natives request ≡ over outcome
      → IsEnd outcome
      → lines ≡ end_lines number (behind connection request)
      → after ≡ with_worker before (end_worker connection (behind connection request))
      → Step number setting before lines after
  -- it begins the next request of the input, with the blueprint and the clock as they are then
  begins : (connection : Connection) (request : Request) (used : ℕ)
      → IsBetween before.worker connection
      → Gets connection.input peer (Whole request used)
      → lines ≡ []
      → after ≡ with_worker before (connected (with_request setting before.objects connection request used))
      → Step number setting before lines after
  -- it closes the connection at the end of the input
  closes : (connection : Connection)
      → IsBetween before.worker connection
      → Gets connection.input peer End
      → lines ≡ closed number ended ∷ []
      → after ≡ with_worker before idle
      → Step number setting before lines after
  -- it closes the connection where the input ends inside a request
  cuts : (connection : Connection) (have : ℕ)
      → IsBetween before.worker connection
      → Gets connection.input peer (Truncated have)
      → lines ≡ closed number (truncated have) ∷ []
      → after ≡ with_worker before idle
      → Step number setting before lines after
  -- it closes the connection at a refusal, whose reply it writes first, at the moment that the clock shows
  refuses : (connection : Connection) (status : ℕ)
      → IsBetween before.worker connection
      → Gets connection.input peer (Refused status)
      → lines ≡ response number None status (refusal_bytes status setting.moment) ∷ closed number (refused status) ∷ []
      → after ≡ with_worker before idle
      → Step number setting before lines after

-- Steps, at least one, until the worker is idle.
pub data RunsUntilIdle (number : ℕ) (setting : Setting) : Position → List Line → Position → Type 0 where
  last : {before after : Position} {lines : List Line}
      → Step number setting before lines after → after.worker ≡ idle → RunsUntilIdle number setting before lines after
  more : {before between after : Position} (lines others : List Line)
      → Step number setting before lines between → ¬ (between.worker ≡ idle)
      → RunsUntilIdle number setting between others after → RunsUntilIdle number setting before (lines ++ others) after
