-- What the parts of a session do, and those of runs of scripts.
use Rattle.std.specs.Prelude.{◌≡◌, ◌⊎◌, ◌≤◌, ◌<◌, ℕ, ◌+◌, Bool, List, [], ◌∷◌, ◌++◌, length, take, Option, None, Some}
use Rattle.txt_core.specs.Names.{Bytes, Names, Moment}
use Rattle.outside.specs.Faults.{Rose}
use Rattle.outside.specs.Paging.{PageMap}
use Rattle.outside.specs.Writing.{Gains}
use Rattle.outside.specs.declared.question.Answer.{Answer}
use Rattle.outside.specs.declared.sending.Sent.{Sent}
use Rattle.outside.specs.declared.sending.Sent.TheVariants as sending
use Rattle.cmd_table.specs.Commands.{Writes}
use Rattle.http_req.specs.declared.request.Request.{Request}
use Rattle.http_resp.specs.Replies.{no_memory_bytes}
use Rattle.blueprint.specs.States as blueprints
use Rattle.sched_core.specs.declared.call.DueScript.{DueScript}
use Rattle.tcl_eval.specs.declared.outcome.Outcome.{Outcome}
use Rattle.tcl_eval.specs.declared.outcome.Outcome.TheVariants as outcomes
use Rattle.ictl.specs.Interps.{interp_state}
use Rattle.ictl.specs.Main.{Progress}
use Rattle.ictl.specs.declared.interp.Interp.{Interp}
use Rattle.ictl.specs.declared.next.Next.{Next}
use Rattle.ictl.specs.declared.next.Next.TheVariants as next
use Rattle.shared_state.specs.Views.{BlueEntry}
use Rattle.shared_state.specs.declared.shared.Passes.{Passes}
use Rattle.serving.specs.Connections.{after_request}
use Rattle.serving.specs.declared.connection.Behind.{Behind}
use Rattle.serving.specs.declared.connection.Behind.TheVariants as connection
use Rattle.worker.specs.Lists.{listed}
use Rattle.worker.specs.Turns.{Turn, AreAsked, GainsTurns}
use Rattle.worker.specs.Runs.{Course, Finished, CutShort, WantsBefore, WantsBehind, run_in, is_marked, served_outcome}
use Rattle.worker.specs.Outside.{AreHeld, page_faults, RoseBy, Reads}
use Rattle.worker.specs.Cost.{run_cost}
use Rattle.worker.specs.Items.{Item, ComesTo, MayLoseOne}
use Rattle.worker.specs.Ends.{Wants, GoesOnBehind, refusal_bytes}
use Rattle.worker.specs.Sessions.{At, answered_by, Serves, Finishes, Last}
use Rattle.worker.specs.Claims.{Causes}
use Rattle.worker.specs.Scripts.{evaluated, RunsAll}
use Rattle.worker.specs.declared.scripts.DueRun.{DueRun}
use Rattle.worker.specs.declared.scripts.DueRun.TheVariants as runs
use Rattle.worker.specs.declared.scripts.EvalEnd.{EvalEnd}
use Rattle.worker.specs.declared.served.Served.{Served}
use Rattle.worker.specs.declared.served.ServedOutcome.{ServedOutcome}
use Rattle.worker.specs.declared.served.ServedOutcome.TheVariants as ways
use Rattle.worker.specs.declared.served.End.{End as SessionEnd}
use Rattle.worker.specs.declared.served.End.TheVariants as ends

-- ---- replies

-- so many bytes went out
abbrev pub bytes_sent : Sent → ℕ
bytes_sent (sending.Whole bytes) = bytes
bytes_sent (sending.WriteFault bytes) = bytes

-- A reply of this length was sent so: whole; or fewer bytes, which cut a response short, or the named reply.
abbrev pub IsSent : Course → Sent → ℕ → Type 0
IsSent Finished (sending.Whole bytes) size = bytes ≡ size
IsSent CutShort (sending.WriteFault bytes) size = bytes < size
IsSent WantsBefore (sending.Whole bytes) size = bytes ≡ size
IsSent WantsBefore (sending.WriteFault bytes) size = bytes < size
IsSent WantsBehind (sending.Whole bytes) size = bytes ≡ size
IsSent _ _ size = ⊥

-- ---- a request on its interpreter

-- the interpreter's mark is that with which the run ended; of a run that wanted memory nothing is said of it
abbrev pub IsMarkedBy : Course → Progress → Bool → Type 0
IsMarkedBy Finished run marked = marked ≡ is_marked run
IsMarkedBy CutShort run marked = marked ≡ is_marked run
IsMarkedBy WantsBefore run marked = Unit {0}
IsMarkedBy WantsBehind run marked = Unit {0}

-- A request was run on an interpreter as newly made from this state, and its reply written; before the reset. It is the request of this
-- number on its connection, with answers of so many bytes before it.
pub record RunsRequest (names : Names) (held : Option PageMap) (state : blueprints.State) (request : Request)
    (moment : Moment) (number answered : ℕ) (sent : Sent) (p q : Passes) (output output_after : Option Bytes)
    (faults faults_after steps steps_after : ℕ) (answers : List Answer) (way : ServedOutcome) (interp : Interp) : Type 0 where
  pub course : Course
  pub turns : List Turn
  pub more : List Turn
  pub close : Bool
  pub reply : Bytes
  pub gains : GainsTurns p (turns ++ more) q
  pub asked : AreAsked moment (run_in course names state request moment) turns answers
  pub one_more : MayLoseOne course moment (run_in course names state request moment) answers more
  pub pages : AreHeld held (turns ++ more)
  pub counts : RoseBy (page_faults (turns ++ more)) faults faults_after
  pub comes : ComesTo names course number answered request state moment answers close reply way
  pub sends : IsSent course sent (length reply)
  pub writes : Gains output (take (bytes_sent sent) reply) output_after
  pub marked : IsMarkedBy course (run_in course names state request moment answers) interp.settling.run.engine.host.marked
  -- what its own definitions wrote is still to be taken back
  pub paid : steps_after + Writes (interp_state interp).made ≤ steps + run_cost (run_in course names state request moment answers)

-- one item, and how its reply was sent
pub record RunsItem (names : Names) (held : Option PageMap) (count answered : ℕ) (request : Request) (sent : Sent) (a : At) (x : Served)
    (b : At) : Type 0 where
  pub item : Item
  pub asks : item.request ≡ request
  pub serves : Serves names held count answered item a x b
  pub sends : IsSent item.course sent (length item.reply)
  pub told : x.wrote ≡ bytes_sent sent

-- memory wanted before a run was begun, at this moment, and nothing was written yet
abbrev pub BeginsNone : Names → Moment → At → At → Type 0
BeginsNone names moment a b = (look : Option BlueEntry) × Finishes names (Wants moment look) a b × (b.output ≡ a.output)

-- what comes of a request that was read, for the session: one item more and it goes on, or the session ends
abbrev pub RequestSteps : Names → Option PageMap → Request → At → List Served → Option SessionEnd → List Served → At → Type 0
RequestSteps names held request a served None now b =
    (x : Served) × (item : Item) × (now ≡ served ++ x ∷ []) × (item.request ≡ request)
    × Serves names held (length served) (answered_by served) item a x b
    × GoesOnBehind (length served) (answered_by served) x item
RequestSteps names held request a served (Some end) now b =
    (tail : List Served) × (now ≡ served ++ tail)
    × ((peer : Bytes) (i j unread : Option Bytes) → Reads peer i request j
    → Last names held peer i unread (length served) (answered_by served) a end tail b)

-- What one step of a session does: one item more and it goes on, or it ends. This is left to read where it goes on, and this has the source
-- still to give.
abbrev pub SessionSteps : Names → Option PageMap → Bytes → Option Bytes → Option Bytes → Option Bytes → At → List Served
    → Option SessionEnd → List Served → At → Type 0
SessionSteps names held peer i j unread a served None now b =
    (x : Served) × (item : Item) × (now ≡ served ++ x ∷ []) × Reads peer i item.request j
    × Serves names held (length served) (answered_by served) item a x b
    × GoesOnBehind (length served) (answered_by served) x item
SessionSteps names held peer i j unread a served (Some end) now b =
    (tail : List Served) × (now ≡ served ++ tail)
    × Last names held peer i unread (length served) (answered_by served) a end tail b

-- ---- causes

-- what the sink's count did, by the end; a fault of the source is no end of what wrote to the sink
abbrev pub SinkCauses : Option SessionEnd → ℕ → ℕ → Type 0
SinkCauses (Some (ends.WriteFault sent)) before after = (before ≤ after) × Rose before after
SinkCauses (Some ends.ReadFault) before after = ⊥
SinkCauses end before after = before ≤ after

abbrev pub StepCauses : Option SessionEnd → ℕ → ℕ → ℕ → ℕ → Type 0
StepCauses None f g h k = (f ≤ g) × (h ≤ k)
StepCauses (Some end) f g h k = Causes end f g h k

abbrev pub SentCauses : Sent → ℕ → ℕ → Type 0
SentCauses (sending.Whole bytes) before after = before ≤ after
SentCauses (sending.WriteFault bytes) before after = (before ≤ after) × Rose before after

-- ---- ends

-- how the run of a request ended that came to this
abbrev pub way_of : Next → ServedOutcome
way_of (next.Ended outcome) = served_outcome outcome
way_of (next.Asks question) = ways.NoMemory
way_of (next.Write response) = ways.NoMemory
way_of next.NoMemory = ways.NoMemory

-- all bytes of a reply were written, or fewer, up to a fault
abbrev pub SendsReply : Sent → Bytes → Option Bytes → Option Bytes → Type 0
SendsReply (sending.Whole bytes) reply before after = (bytes ≡ length reply) × Gains before reply after
SendsReply (sending.WriteFault bytes) reply before after = (bytes < length reply) × Gains before (take bytes reply) after

-- the named reply was written, whole or up to a fault, and the session ends so
abbrev pub EndsInWant : SessionEnd → Moment → Option Bytes → Option Bytes → Type 0
EndsInWant ends.NoMemory moment before after = Gains before (no_memory_bytes moment) after
EndsInWant (ends.WriteFault bytes) moment before after = SendsReply (sending.WriteFault bytes) (no_memory_bytes moment) before after
EndsInWant end moment before after = ⊥

-- the reply of a refusal was written, or up to a fault, or the named reply in its place
abbrev pub EndsInRefusal : ℕ → Moment → SessionEnd → Option Bytes → Option Bytes → Type 0
EndsInRefusal status moment (ends.Refused told) before after = (told ≡ status) × Gains before (refusal_bytes status moment) after
EndsInRefusal status moment ends.NoMemory before after = Gains before (no_memory_bytes moment) after
EndsInRefusal status moment (ends.WriteFault bytes) before after =
    SendsReply (sending.WriteFault bytes) (refusal_bytes status moment) before after
    ⊎ SendsReply (sending.WriteFault bytes) (no_memory_bytes moment) before after
EndsInRefusal status moment end before after = ⊥

-- Why a session ends behind a request, if it does: its reply met a fault, or memory wanted; the request asked for it; or the connection
-- is spent.
abbrev pub end_by : Behind → Option SessionEnd
end_by connection.GoesOn = None
end_by connection.Closing = Some ends.Closing
end_by connection.Spent = Some ends.Spent

abbrev pub end_whole : ServedOutcome → Behind → Option SessionEnd
end_whole ways.NoMemory after = Some ends.NoMemory
end_whole ways.Answered after = end_by after
end_whole ways.Spent after = end_by after
end_whole ways.TooDeep after = end_by after

abbrev pub end_behind : ServedOutcome → Sent → Bool → ℕ → ℕ → Option SessionEnd
end_behind way (sending.WriteFault bytes) asks requests answered = Some (ends.WriteFault bytes)
end_behind way (sending.Whole bytes) asks requests answered = end_whole way (after_request asks requests answered)

-- ---- scripts

-- how a script ended that came to this
abbrev pub run_outcome : Next → Outcome
run_outcome (next.Ended outcome) = outcome
run_outcome (next.Asks question) = outcomes.NoMemory
run_outcome (next.Write response) = outcomes.NoMemory
run_outcome next.NoMemory = outcomes.NoMemory

abbrev pub eval_end : Next → ℕ → EvalEnd
eval_end came epoch = evaluated (run_outcome came) epoch

-- what comes of scripts that were listed: each runs; or memory wants before the first, where there is one
abbrev pub RunsList : Names → Option PageMap → List DueScript → At → DueRun → At → Type 0
RunsList names held list a (runs.Ran ran) b = RunsAll names held list a (listed ran) b
RunsList names held list a runs.Stopped b = ⊥
RunsList names held [] a runs.NoMemory b = ⊥
RunsList names held (due ∷ list) a runs.NoMemory b = b ≡ a
