-- The machine of one thread: its workers, its scheduler, and what they share.
use Rattle.std.specs.Prelude.{ℕ, ◌+◌, List, [], ◌∷◌, ◌++◌, drop, replicate, Bool, true, false, codes, Option, Some, None}
use Rattle.txt_core.specs.Names.{Bytes, Names, Moment}
use Rattle.outside.specs.declared.question.Answer.{Answer}
use Rattle.http_req.specs.declared.request.Request.{Request}
use Rattle.sched_core.specs.declared.call.DueScript.{DueScript}
use Rattle.server_host.specs.declared.edition.Edition.{Edition}
use Rattle.serving.specs.Connections as connections
use Rattle.rehearse.specs.Objects.{Setting, first_setting, new_objects, published_now}
use Rattle.rehearse.specs.declared.objects.Objects.{Objects}

-- ---- workers

-- A request under way.
pub record Open : Type 0 where
  pub request : Request
  -- the blueprint and the moment at which it began, by which the whole of it is served
  pub blueprint : Edition
  pub moment : Moment
  -- what its questions were answered so far, in order
  pub answers : List Answer
  -- its response was written
  pub written : Bool

pub record Connection : Type 0 where
  -- the input that no request took yet
  pub input : Bytes
  -- how many requests began
  pub requests : ℕ
  -- how many bytes of answers they have had, together
  pub answer_bytes : ℕ
  -- the request under way, if any
  pub request : Option Open

pub data Worker : Type 0 where
  -- it has no connection
  idle : Worker
  connected : (connection : Connection) → Worker

-- where all connections come from
abbrev pub peer : Bytes
peer = codes "127.0.0.1"

-- a connection with this input, of which nothing was used
abbrev pub new_connection : Bytes → Connection
new_connection input = record { input = input; requests = 0; answer_bytes = 0; request = None }

-- a request begins, on the blueprint and at the moment as they are now
abbrev pub begun_request : Setting → Objects → Request → Open
begun_request setting objects request =
    record { request = request; blueprint = published_now objects; moment = setting.moment; answers = []; written = false }

-- it took so many bytes of the input
abbrev pub with_request : Setting → Objects → Connection → Request → ℕ → Connection
with_request setting objects connection request used = record {
  input = drop used connection.input;
  requests = connection.requests + 1;
  answer_bytes = connection.answer_bytes;
  request = Some (begun_request setting objects request);
}

-- its question was answered
abbrev pub with_answer : Connection → Open → Answer → Connection
with_answer connection request answer = record connection {
  answer_bytes = connection.answer_bytes + connections.answer_bytes answer;
  request = Some (record request { answers = request.answers ++ answer ∷ [] });
}

-- its response was written
abbrev pub with_written : Connection → Open → Connection
with_written connection request = record connection { request = Some (record request { written = true }) }

-- it has ended
abbrev pub without_request : Connection → Connection
without_request connection = record connection { request = None }

-- ---- the scheduler

-- A scheduled script under way.
pub record OpenScript : Type 0 where
  pub id : ℕ
  pub script : Bytes
  -- the blueprint and the moment at which it began
  pub blueprint : Edition
  pub moment : Moment
  -- what its questions were answered so far, in order
  pub answers : List Answer

pub record Scheduler : Type 0 where
  -- the scripts that were taken and haven't begun, in their order
  pub waiting : List DueScript
  -- the script under way, if any
  pub running : Option OpenScript

-- it has no script
abbrev pub resting : Scheduler
resting = record { waiting = []; running = None }

-- a script begins, on the blueprint and at the moment as they are now
abbrev pub begun_script : Setting → Objects → DueScript → OpenScript
begun_script setting objects due =
    record { id = due.id; script = due.script; blueprint = published_now objects; moment = setting.moment; answers = [] }

abbrev pub with_script_answer : OpenScript → Answer → OpenScript
with_script_answer script answer = record script { answers = script.answers ++ answer ∷ [] }

-- ---- all together

pub record World : Type 0 where
  -- an event came
  pub started : Bool
  pub setting : Setting
  pub objects : Objects
  pub scheduler : Scheduler
  -- by their numbers, from 0
  pub workers : List Worker

-- so many idle workers
abbrev pub all_idle : ℕ → List Worker
all_idle count = replicate count idle

-- the world before the first event, with natives of these names; there is one worker
abbrev pub opening : Names → World
opening natives = record {
  started = false;
  setting = first_setting natives;
  objects = new_objects natives;
  scheduler = resting;
  workers = all_idle 1;
}

abbrev pub with_setting : World → Setting → World
with_setting world setting = record world { setting = setting }

abbrev pub with_objects : World → Objects → World
with_objects world objects = record world { objects = objects }

abbrev pub with_workers : World → List Worker → World
with_workers world workers = record world { workers = workers }

abbrev pub as_started : World → World
as_started world = record world { started = true }
