-- One request that was served: what is told of it, and what stands behind that.
use Rattle.std.specs.Prelude.{◌≡◌, ◌≤◌, ◌<◌, ℕ, ◌+◌, ◌-◌, Bool, true, List, [], ◌++◌, length, sum_by}
use Rattle.txt_core.specs.Names.{Bytes, Names, Moment}
use Rattle.outside.specs.declared.question.Answer.{Answer}
use Rattle.http_req.specs.declared.request.Request.{Request}
use Rattle.http_resp.specs.declared.response.Response.{Response}
use Rattle.http_resp.specs.Replies.{no_memory_bytes}
use Rattle.server_host.specs.Hosts.{HostState}
use Rattle.blueprint.specs.States as blueprints
use Rattle.tcl_eval.specs.State.{State}
use Rattle.tcl_eval.specs.declared.outcome.Outcome.{Outcome}
use Rattle.ictl.specs.Falls.{IsEnd}
use Rattle.ictl.specs.Main.{Progress, writes, ends, Main}
use Rattle.ictl.specs.declared.ending.Ending.{Ending}
use Rattle.shared_state.specs.Views.{BlueEntry}
use Rattle.serving.specs.Connections.{answer_bytes, asks_close, closes}
use Rattle.worker.specs.Turns.{Turn, IsLook, IsAnsweredLook, AreAsked, AtMostOneMore}
use Rattle.worker.specs.Runs.{Course, Finished, CutShort, WantsBefore, WantsBehind, run_in, edition_of, bytes_for, served_outcome}
use Rattle.worker.specs.declared.served.Served.{Served}
use Rattle.worker.specs.declared.served.ServedOutcome.{ServedOutcome}
use Rattle.worker.specs.declared.served.ServedOutcome.TheVariants as ways

-- ---- what stands behind an item

-- What a worker did for an item that it tells of: the request that it had read, the look by which it began it, the turns that answered
-- its questions, and one turn more at most whose answer was lost for want of memory; how the run went; and the reply, with what that says
-- of the connection. All that is promised of an item is said of one such record.
pub record Item : Type 0 where
  pub request : Request
  pub look : BlueEntry
  pub turns : List Turn
  pub more : List Turn
  pub course : Course
  pub close : Bool
  pub reply : Bytes

-- the turns behind its look
abbrev pub all_turns : Item → List Turn
all_turns item = item.turns ++ item.more

-- The run that it tells of, with the first answers: on a fresh interpreter of the blueprint that the look found.
abbrev pub run_of : Names → Item → Moment → List Answer → Progress
run_of names item moment answers = run_in item.course names item.look.before item.request moment answers

-- ---- answers in bytes

-- all answers of a list together have so many bytes
abbrev pub bytes_of : List Answer → ℕ
bytes_of answers = sum_by answer_bytes answers

-- those that had come when so many were left
abbrev pub bytes_had : List Answer → List Answer → ℕ
bytes_had answers left = bytes_of answers - bytes_of left

-- ---- what was written, and what was lost

-- So many bytes of a reply of this length were written: all; or fewer, where a fault cut it short, which may meet the named reply too.
abbrev pub IsWritten : Course → (wrote size : ℕ) → Type 0
IsWritten Finished wrote size = wrote ≡ size
IsWritten CutShort wrote size = wrote < size
IsWritten WantsBefore wrote size = wrote ≤ size
IsWritten WantsBehind wrote size = wrote ≡ size

-- no turn was taken but for the answers; or, where memory wanted, one more at most, for a question whose answer was never given
abbrev pub MayLoseOne : Course → Moment → (List Answer → Progress) → List Answer → List Turn → Type 0
MayLoseOne Finished moment f answers more = more ≡ []
MayLoseOne CutShort moment f answers more = more ≡ []
MayLoseOne WantsBefore moment f answers more = AtMostOneMore moment f answers more
MayLoseOne WantsBehind moment f answers more = AtMostOneMore moment f answers more

module _ (names : Names) where
  -- ---- the reply

  -- On a fresh interpreter of a blueprint, at a moment and with these answers, a request comes to a response, with these answers left.
  -- Its reply is the bytes of that response, which say whether the connection closes. Nothing else goes into it.
  pub record Responds (request : Request) (blueprint : blueprints.State) (moment : Moment) (answers : List Answer) (close : Bool)
      (reply : Bytes) (left : List Answer) : Type 0 where
    pub response : Response
    pub ending : Ending
    pub state : State HostState
    pub inside : ℕ
    pub main : Main names (edition_of blueprint) request moment answers ≡ writes response ending state inside left
    pub bytes : reply ≡ bytes_for request response moment close

  -- The request comes to its response, and behind it to its end, where no answer is left. How it ended is told.
  pub record Gives (course : Course) (request : Request) (blueprint : blueprints.State) (moment : Moment) (answers : List Answer) (close : Bool)
      (reply : Bytes) (left : List Answer) (way : ServedOutcome) : Type 0 where
    pub responds : Responds request blueprint moment answers close reply left
    pub outcome : Outcome
    pub last : State HostState
    pub inside_last : ℕ
    pub after : run_in course names blueprint request moment answers ≡ ends outcome last inside_last []
    pub is_end : IsEnd outcome
    pub way_is : way ≡ served_outcome outcome

  -- What a request comes to, which is the one of this number on its connection, with answers of so many bytes before it: the reply of its
  -- response, which closes the connection by its number and by the answers that were had when the response came; or the named reply,
  -- which closes it, where memory wanted before.
  abbrev pub ComesTo : Course → (number answered : ℕ) → Request → blueprints.State → ℕ → List Answer → Bool → Bytes → ServedOutcome → Type 0
  ComesTo Finished number answered request blueprint moment answers close reply way =
      (left : List Answer) × (close ≡ closes (asks_close request) number (answered + bytes_had answers left))
      × Gives Finished request blueprint moment answers close reply left way
  ComesTo CutShort number answered request blueprint moment answers close reply way =
      (left : List Answer) × (close ≡ closes (asks_close request) number (answered + bytes_had answers left))
      × Gives CutShort request blueprint moment answers close reply left way
  ComesTo WantsBefore number answered request blueprint moment answers close reply way =
      (close ≡ true) × (reply ≡ no_memory_bytes moment) × (way ≡ ways.NoMemory)
  ComesTo WantsBehind number answered request blueprint moment answers close reply way =
      (left : List Answer) × (close ≡ closes (asks_close request) number (answered + bytes_had answers left))
      × Responds request blueprint moment answers close reply left × (way ≡ ways.NoMemory)

  -- What is told of an item is true of what stands behind it: the place and the epoch of its look, its outcome, and how many bytes of its
  -- reply were written. On its connection so many were served before it, with answers of so many bytes.
  pub record Replied (count answered : ℕ) (x : Served) (item : Item) : Type 0 where
    pub place : item.look.place ≡ x.turn
    pub epoch : item.look.before.epoch ≡ x.epoch
    pub comes : ComesTo item.course (count + 1) answered item.request item.look.before x.moment x.answers item.close item.reply x.outcome
    pub wrote : IsWritten item.course x.wrote (length item.reply)

  -- ---- its turns

  -- Its look was one, and was answered; and its turns are those that its replay asks for, whose answers are told.
  pub record Backs (x : Served) (item : Item) : Type 0 where
    pub is_look : IsLook item.look.call
    pub is_told : IsAnsweredLook item.look
    pub place : item.look.place ≡ x.turn
    pub asked : AreAsked x.moment (run_of names item x.moment) item.turns x.answers
    pub one_more : MayLoseOne item.course x.moment (run_of names item x.moment) x.answers item.more
