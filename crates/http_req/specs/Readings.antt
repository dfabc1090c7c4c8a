-- What a call of `read_request` answers.
use Rattle.std.specs.Prelude.{◌≡◌, ℕ, ◌≤◌, [], ◌∷◌, ◌++◌, length, drop, Option, Some, None, Result, Ok, Err, ⊤}
use Rattle.txt_core.specs.Names.{Bytes}
use Rattle.outside.specs.Faults.{Rose}
use Rattle.outside.specs.Reading.{Gives}
use Rattle.http_req.specs.declared.request.Request.{Request}
use Rattle.http_req.specs.declared.request.Got.{Got}
use Rattle.http_req.specs.declared.request.Got.TheVariants as got
use Rattle.http_req.specs.declared.carry.Stop.{Stop}
use Rattle.http_req.specs.declared.carry.Stop.TheVariants as stop
use Rattle.httparse.specs.Grammar.{RequestHead, print_request, ReadsRequest}
use Rattle.http_req.specs.Fetching.{HasEnded}
use Rattle.http_req.specs.Heads.{front}
use Rattle.http_req.specs.Requests.{shown, refusal}
use Rattle.http_req.specs.Outcomes.{Whole, End, Truncated, Refused, Gets, ended}

-- what is left to read, where the source tells: the bytes that are carried, and then its rest
abbrev pub left_of : Bytes → Option Bytes → Option Bytes
left_of carry None = None
left_of carry (Some rest) = Some (carry ++ rest)

-- What the answer says of an input, of which some bytes are left: of a request its own are gone,
-- and else all are there still. A fault and want of memory say no more.
abbrev pub Says : Bytes → Bytes → Got → Bytes → Type 0
Says input peer (got.Request request) left =
    (used : ℕ) × Gets input peer (Whole request used) × (left ≡ drop used input)
Says input peer got.End left = Gets input peer End × (left ≡ input)
Says input peer (got.Truncated have) left = Gets input peer (Truncated have) × (left ≡ input)
Says input peer (got.Refused status) left = Gets input peer (Refused status) × (left ≡ input)
Says input peer got.ReadFault left = left ≡ input
Says input peer got.NoMemory left = left ≡ input

-- where it is told what there is to read, the answer says what that is as a whole
abbrev pub Answers : Option Bytes → Bytes → Got → Option Bytes → Type 0
Answers before peer answer after =
    (input : Bytes) → before ≡ Some input → (left : Bytes) × (after ≡ Some left) × Says input peer answer left

-- Also where nothing is told: the source gave some bytes, and the answer says what the bytes that
-- were carried are with these.
pub record Consumes (carry : Bytes) (rest : Option Bytes) (peer : Bytes) (answer : Got) (carry_after : Bytes) (rest_after : Option Bytes)
    : Type 0 where
  pub given : Bytes
  pub gives : Gives rest given rest_after
  pub says : Says (carry ++ given) peer answer carry_after

-- P, if the answer is a fault of the source
abbrev pub OnReadFault : Got → Type 0 → Type 0
OnReadFault got.ReadFault P = P
OnReadFault _ P = ⊤

-- the answer at less than a request, where no more came
abbrev pub cut_answer : Bytes → Stop → Got
cut_answer [] stop.End = got.End
cut_answer (byte ∷ rest) stop.End = got.Truncated (length (byte ∷ rest))
cut_answer carry stop.Fault = got.ReadFault
cut_answer carry stop.NoMemory = got.NoMemory

-- a head of so many bytes stands at the front, the request is what it shows without a body, and no check fails
pub record Passes (input peer : Bytes) (start : ℕ) (request : Request) : Type 0 where
  pub head : RequestHead
  pub rest : Bytes
  pub reads : ReadsRequest (front input) head rest
  pub start_is : start ≡ length (print_request head)
  pub request_is : request ≡ shown head [] peer
  pub passes : refusal (shown head [] peer) ≡ None

-- a check on the head fails, or memory ran out
abbrev pub Fails : Bytes → Bytes → Got → Type 0
Fails input peer (got.Request request) = ⊥
Fails input peer got.End = ⊥
Fails input peer (got.Truncated have) = ⊥
Fails input peer (got.Refused status) = Gets input peer (Refused status)
Fails input peer got.ReadFault = ⊥
Fails input peer got.NoMemory = ⊤

-- why there is this answer and no request: what is carried is it, and the source has ended or failed
abbrev pub Stops : Bytes → Bytes → Option Bytes → ℕ → Option Bytes → ℕ → Got → Type 0
Stops all peer rest faults rest_after faults_after (got.Request request) = ⊥
Stops all peer rest faults rest_after faults_after got.End = Gets all peer End × HasEnded rest rest_after
Stops all peer rest faults rest_after faults_after (got.Truncated have) =
    Gets all peer (Truncated have) × HasEnded rest rest_after
Stops all peer rest faults rest_after faults_after (got.Refused status) = Gets all peer (Refused status)
Stops all peer rest faults rest_after faults_after got.ReadFault = Gets all peer (ended all) × Rose faults faults_after
Stops all peer rest faults rest_after faults_after got.NoMemory = ⊤

-- A request was taken off all that was carried and given, or the answer has its cause and all is there still.
abbrev pub Receives : Bytes → Bytes → Option Bytes → ℕ → Bytes → Option Bytes → ℕ → Result Request Got → Type 0
Receives all peer rest faults carry_after rest_after faults_after (Ok request) =
    (used : ℕ) × Gets all peer (Whole request used) × (carry_after ≡ drop used all)
Receives all peer rest faults carry_after rest_after faults_after (Err answer) =
    Stops all peer rest faults rest_after faults_after answer × (carry_after ≡ all)

-- the same, for what came in the call
pub record Received
    (carry : Bytes) (rest : Option Bytes) (faults : ℕ) (peer : Bytes) (result : Result Request Got)
    (carry_after : Bytes) (rest_after : Option Bytes) (faults_after : ℕ) : Type 0 where
  pub given : Bytes
  pub gives : Gives rest given rest_after
  pub counts : faults ≤ faults_after
  pub receives : Receives (carry ++ given) peer rest faults carry_after rest_after faults_after result
