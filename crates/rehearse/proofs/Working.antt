-- What workers of the program do.
use Rattle.std.proofs.Common.{◌≡◌, ℕ, ◌+◌, ◌-◌, ◌*◌, ◌<◌, ◌≤◌, ◌⊎◌, inl, inr, List, [], ◌∷◌, ◌++◌, append_assoc, min, true, false, Bool, drop, Some, None, refl, sym, subst, ap, ◌∙◌, arith}
use Rattle.std.specs.Prelude.{nat_lt, nat_le, ◌||◌, if◌then◌else◌}
use Rattle.std.proofs.lemmas.Bool.{lt-ltb, le-ltb, ltb-true, ltb-false, leb-false}
use Rattle.outside.specs.Faults.{last_count, Rose}
use Rattle.outside.specs.declared.question.Answer.{Answer}
use Rattle.outside.specs.declared.question.Question.{Question}
use Rattle.http_req.specs.Outcomes.{Gets, Whole, End, Truncated, Refused}
use Rattle.http_req.specs.Readings.{left_of, Says, Answers as GotAnswers}
use Rattle.http_req.specs.declared.request.Got.{Got}
use Rattle.http_req.specs.declared.request.Request.{Request}
use Rattle.http_resp.specs.ResponseBytes.{response_bytes}
use Rattle.http_resp.specs.declared.response.Response.{Response}
use Rattle.blueprint.specs.Objects.{Reaches}
use Rattle.blueprint.specs.Order.{reaches_self, reaches_later}
use Rattle.blueprint.specs.States.{State, Allowed}
use Rattle.server_host.specs.declared.edition.Edition.{Edition}
use Rattle.server_host.specs.Hosts.{HostState}
use Rattle.tcl_eval.specs.State as evaluation
use Rattle.tcl_eval.specs.declared.outcome.Outcome.{Outcome}
use Rattle.ictl.specs.Falls.{IsEnd, StandsAt, Falls, number_of, first_number}
use Rattle.ictl.specs.Interps.{IsSound, IsSameRun, UnlessNoMemory, Stands, ending_of, interp_state}
use Rattle.ictl.specs.Laws.{OneResponse, IsSilent}
use Rattle.ictl.specs.Main.{Progress, asks as at_question, writes as at_response, ends as at_end, Main}
use Rattle.ictl.specs.Main as runs
use Rattle.ictl.specs.Visits.{visit_of}
use Rattle.ictl.specs.declared.ending.Ending.{Ending}
use Rattle.ictl.specs.declared.interp.Interp.{Interp}
use Rattle.ictl.specs.declared.next.Next.{Next}
use Rattle.ictl.specs.declared.next.Next.TheVariants.{Asks, Write, Ended, NoMemory}
use Rattle.serving.specs.Connections as connections
use Rattle.serving.specs.Connections.{asks_close, is_head_only, most_served, is_spent, after_request}
use Rattle.serving.specs.Counting.{counted}
use Rattle.serving.specs.declared.connection.Behind.{Behind}
use Rattle.serving.specs.declared.connection.Behind.TheVariants.{GoesOn, Closing, Spent}
use Rattle.rehearse.specs.declared.listing.Listing.{Listing}
use Rattle.rehearse.specs.declared.objects.Objects.{Objects}
use Rattle.rehearse.specs.declared.worker.Connection as code_connection
use Rattle.rehearse.specs.declared.worker.UnderWay.{UnderWay}
use Rattle.rehearse.specs.declared.worker.Task.{Task}
use Rattle.rehearse.specs.declared.worker.Task.TheVariants as tasks
use Rattle.rehearse.specs.declared.worker.Worker as code_worker
use Rattle.rehearse.specs.Lines.{Line, response, closed, ended, truncated, refused}
use Rattle.rehearse.specs.Objects.{Setting, Answers, published_now}
use Rattle.rehearse.specs.Runs.{by_written, request_progress}
use Rattle.rehearse.specs.Steps.{Position, Step, rests, answers, writes, ends, begins, closes, cuts, refuses, reply_bytes, refusal_bytes, end_lines, end_worker, behind, IsBetween, RunsUntilIdle, last, more}
use Rattle.rehearse.specs.World.{Open, Connection, Worker, idle, connected, peer, with_request, with_answer, with_written, without_request, begun_request}
use Rattle.rehearse.specs.Playing.{Tells, RequestBegan, Resumed, WentBehind, KeepsOn, IsOn, IsUnderWay, RunsFor, input_of, ShowsConnection, Visits, Serves, ShowsTask, with_task, one_more, HasBegun, last_steps, first_steps, serving_steps, most_steps, IsTaskReady, IsReady, requests_left, task_steps, StepsDown, Went, Moved, Stepped}
use Rattle.rehearse.proofs.Standing.{unless, stands_asking, stands_ready, stands_over, runs_on, runs_same, on_later, on_same, keeps_later, answers_reach}
use Rattle.rehearse.proofs.Keeping.{keeps_none}
use Rattle.rehearse.proofs.Telling.{tells_none, tells_more}

-- ---- a request, told otherwise

same_behind : (natives : List (List ℕ)) (request : Open) (given : List Answer) (p : Progress)
    → by_written natives true (record request { answers = given }) p ≡ by_written natives true request p
same_behind natives request given (at_question question state inside) = refl
same_behind natives request given (at_response reply ending state inside left) = refl
same_behind natives request given (at_end outcome state inside left) = refl

same_by : (natives : List (List ℕ)) (written : Bool) (request : Open) (given : List Answer) (p : Progress)
    → by_written natives written (record request { answers = given }) p ≡ by_written natives written request p
same_by natives true request given p = same_behind natives request given p
same_by natives false request given p = refl

-- what it has had makes no other run of it
same_progress : (natives : List (List ℕ)) (request : Open) (given further : List Answer)
    → request_progress natives (record request { answers = given }) further ≡ request_progress natives request further
same_progress natives request given further =
    same_by natives request.written request given (Main natives request.blueprint request.request request.moment further)

-- ---- the steps that are left

fewer_last : (before after : Interp) (next : Next) → Falls next after (number_of before) → last_steps next after < number_of before + 2
fewer_last before after (Asks question) falls = omega (arith, falls)
fewer_last before after (Write reply) falls = omega arith
fewer_last before after (Ended outcome) falls = omega arith
fewer_last before after NoMemory falls = omega arith

fewer_first : (before after : Interp) (next : Next) → Falls next after (number_of before) → first_steps next after < number_of before + first_number + 4
fewer_first before after (Asks question) falls = omega (arith, falls)
fewer_first before after (Write reply) falls = omega arith
fewer_first before after (Ended outcome) falls = omega arith
fewer_first before after NoMemory falls = omega arith

-- behind an answer fewer are left
fewer_answered : (written : Bool) (question : Question) (before after : Interp) (next : Next) → Falls next after (number_of before)
    → serving_steps written next after < serving_steps written (Asks question) before
fewer_answered true question before after next falls = fewer_last before after next falls
fewer_answered false question before after next falls = fewer_first before after next falls

-- behind a response fewer are left
pub few_last : (after : Interp) (next : Next) → Falls next after first_number → last_steps next after < first_number + 3
few_last after (Asks question) falls = omega (arith, falls)
few_last after (Write reply) falls = omega arith
few_last after (Ended outcome) falls = omega arith
few_last after NoMemory falls = omega arith

-- at the start not many are left
pub few_first : (after : Interp) (next : Next) → Falls next after first_number → first_steps next after ≤ most_steps
few_first after (Asks question) falls = omega (arith, falls)
few_first after (Write reply) falls = omega arith
few_first after (Ended outcome) falls = omega arith
few_first after NoMemory falls = omega arith

some_left : (written : Bool) (outcome : Outcome) (interp : Interp) → 0 < serving_steps written (Ended outcome) interp
some_left true outcome interp = omega arith
some_left false outcome interp = omega arith

-- ---- what a run came to

-- the same, where its run came to this
abbrev pub at_next : UnderWay → Next → UnderWay
at_next serving next = record serving { run = record { next = next; interp = serving.run.interp } }

-- the same, where its run went on to this
abbrev pub gone_on : UnderWay → Next → Interp → UnderWay
gone_on serving next made = record serving { run = record { next = next; interp = made } }

pub next_is : (serving : UnderWay) (next : Next) → serving.run.next ≡ next → serving ≡ at_next serving next
next_is serving next is = ap (at_next serving) is

-- ---- a request begins

pub begun_serves : (names : List (List ℕ)) (setting : Setting) (objects : Objects) (request : Request) (serving : UnderWay) (made : Interp)
    → made.blueprint.value ≡ published_now objects → RequestBegan names request setting.moment serving.run.next serving.run.interp made
    → serving.moment ≡ setting.moment → serving.asks_close ≡ asks_close request → serving.head_only ≡ is_head_only request → serving.written ≡ false
    → Serves names serving (begun_request setting objects request)
begun_serves names setting objects request serving made is begun moment asks head written = record {
  blueprint = sym (begun.blueprint ∙ is);
  moment = sym moment;
  asks_close = sym asks;
  head_only = sym head;
  written = sym written;
  visits =
      subst (λ (w : Bool). Visits names (begun_request setting objects request) serving.run.interp w serving.run.next) (sym written)
      (subst (λ (b : Edition). UnlessNoMemory serving.run.next ((serving.run.interp.visit ≡ visit_of names b request) × (serving.run.interp.moment ≡ setting.moment))) is begun.visit);
  runs = (begun.runs.0, subst (λ (b : Edition). Stands names (Main names b request setting.moment) serving.run.next begun.runs.0 serving.run.interp []) is begun.runs.1);
}

-- The request of the input began: it is shown, and the connection has one request more.
pub begins_went : (setting : Setting) (worker after : code_worker.Worker) (objects : Objects) (listing : Listing) (code between : code_connection.Connection) (request : Request) (used : ℕ)
    → Gets (input_of code) peer (Whole request used) → input_of between ≡ drop used (input_of code)
    → between.requests ≡ code.requests → between.answer_bytes ≡ code.answer_bytes
    → HasBegun setting.natives setting objects between request after
    → Went Step setting (with_task worker (tasks.Between code)) objects listing after objects listing
begins_went setting worker after objects listing code between request used gets left requests bytes begun = λ before shows.
    let c : Connection = shows.0 in
    let seen : ShowsConnection code c = shows.2 in
    let now : Connection = with_request setting objects c request used in
    let shown : ShowsConnection (one_more between) now =
    record {
      input = ap (λ (t : List ℕ). drop used t) seen.input ∙ sym left;
      requests = ap (λ (n : ℕ). n + 1) (seen.requests ∙ sym requests);
      answer_bytes = bytes ∙ seen.answer_bytes;
    } in
    let serves : ShowsTask setting.natives (tasks.Serving (one_more between) begun.0) (connected now) =
    (now, begun_request setting objects request, (refl, refl), shown, begun.2) in (
      [],
      connected now,
      begins c request used shows.1 (subst (λ (t : List ℕ). Gets t peer (Whole request used)) (sym seen.input) gets) refl refl,
      subst (λ (t : Task). ShowsTask setting.natives t (connected now)) (sym begun.1) serves,
      tells_none listing,
    )

pub begins_down : (worker after : code_worker.Worker) (code between : code_connection.Connection) (serving : UnderWay) → code.requests < most_served
    → between.requests ≡ code.requests → after.task ≡ tasks.Serving (one_more between) serving
    → StepsDown (with_task worker (tasks.Between code)) after
begins_down worker after code between serving few requests is = λ busy.
    inl (subst (λ (t : Task). requests_left t < requests_left (tasks.Between code)) (sym is) (omega (arith, few, requests)))

pub begins_stepped : (setting : Setting) (worker after : code_worker.Worker) (objects : Objects) (listing : Listing) (code between : code_connection.Connection) (request : Request) (used : ℕ)
    → IsReady setting.natives objects.blueprint (with_task worker (tasks.Between code))
    → Gets (input_of code) peer (Whole request used) → input_of between ≡ drop used (input_of code)
    → between.requests ≡ code.requests → between.answer_bytes ≡ code.answer_bytes
    → HasBegun setting.natives setting objects between request after
    → IsReady setting.natives objects.blueprint after → after.number ≡ worker.number
    → Stepped setting (with_task worker (tasks.Between code)) objects listing after objects listing
begins_stepped setting worker after objects listing code between request used ready gets left requests bytes begun after_ready number = (
  record {
    went = begins_went setting worker after objects listing code between request used gets left requests bytes begun;
    ready = after_ready;
    number = number;
    reaches = reaches_self objects.blueprint;
  },
  begins_down worker after code between begun.0 ready.1 requests begun.1,
)

-- the worker that began it is ready
pub begun_ready : (natives : List (List ℕ)) (now : State) (worker : code_worker.Worker) (code : code_connection.Connection) (serving : UnderWay) (begun request : Open) (made : Interp)
    → now.natives ≡ natives → worker.keeper.interp ≡ None → worker.task ≡ tasks.Serving (one_more code) serving → code.requests < most_served
    → RequestBegan natives begun.request begun.moment serving.run.next serving.run.interp made → IsOn natives now made → serving.written ≡ false → Serves natives serving request
    → IsReady natives now worker
begun_ready natives now worker code serving begun request made same none task few started on written serves = (
  keeps_none natives now worker.keeper none same,
  subst (λ (t : Task). IsTaskReady natives now t) (sym task) (
    omega (arith, few),
    record {
      sound = started.sound;
      on = on_same natives now serving.run.interp made started.blueprint on;
    },
    (request, serves),
    subst (λ (w : Bool). serving_steps w serving.run.next serving.run.interp ≤ most_steps) (sym written) (few_first serving.run.interp serving.run.next started.falls),
  ),
)

-- ---- what was read

-- the bytes that are there for a request: those that are carried, and those of the source
pub got_left : (carry source carry_after source_after seen : List ℕ) (got : Got) → seen ≡ peer → GotAnswers (left_of carry (Some source)) seen got (left_of carry_after (Some source_after))
    → Says (carry ++ source) peer got (carry_after ++ source_after)
got_left carry source carry_after source_after seen got same h =
    let x = h (carry ++ source) refl in
    let both : Some (carry_after ++ source_after) ≡ Some x.0 = x.1 in
    let left : x.0 ≡ carry_after ++ source_after = cc in
    subst (λ (p : List ℕ). Says (carry ++ source) p got (carry_after ++ source_after)) same
    (subst (λ (l : List ℕ). Says (carry ++ source) seen got l) left x.2)

-- a count that is 0 didn't rise
pub none_rose : ¬ (Rose 0 0)
none_rose (inl less) = omega (arith, less)
none_rose (inr is) = omega (arith, is)

-- ---- a connection closes where no request is under way

pub closed_stepped : (setting : Setting) (worker : code_worker.Worker) (objects : Objects) (listing listed : Listing) (code : code_connection.Connection) (lines : List Line)
    → worker.task ≡ tasks.Idle
    → IsReady setting.natives objects.blueprint (with_task worker (tasks.Between code))
    → ((before : Worker) (c : Connection) → IsBetween before c → c.input ≡ input_of code
    → Step worker.number setting (record { worker = before; objects = objects }) lines (record { worker = idle; objects = objects }))
    → Tells listing lines listed
    → Stepped setting (with_task worker (tasks.Between code)) objects listing worker objects listed
closed_stepped setting worker objects listing listed code lines none ready goes tells = (
  record {
    went = λ before shows. (
      lines,
      idle,
      goes before shows.0 shows.1 shows.2.input,
      subst (λ (t : Task). ShowsTask setting.natives t idle) (sym none) refl,
      tells,
    );
    ready = (ready.0, subst (λ (t : Task). IsTaskReady setting.natives objects.blueprint t) (sym none) tt);
    number = refl;
    reaches = reaches_self objects.blueprint;
  },
  λ busy. inl (subst (λ (t : Task). requests_left t < requests_left (tasks.Between code)) (sym none) (omega arith)),
)

-- by what the input is
pub ends_input : (setting : Setting) (worker : code_worker.Worker) (objects : Objects) (listing listed : Listing) (code : code_connection.Connection)
    → worker.task ≡ tasks.Idle → IsReady setting.natives objects.blueprint (with_task worker (tasks.Between code))
    → Gets (input_of code) peer End → Tells listing (closed worker.number ended ∷ []) listed
    → Stepped setting (with_task worker (tasks.Between code)) objects listing worker objects listed
ends_input setting worker objects listing listed code none ready gets tells =
    closed_stepped setting worker objects listing listed code (closed worker.number ended ∷ []) none ready
    (λ before c between input. closes c between (subst (λ (t : List ℕ). Gets t peer End) (sym input) gets) refl refl) tells

pub cuts_input : (setting : Setting) (worker : code_worker.Worker) (objects : Objects) (listing listed : Listing) (code : code_connection.Connection) (have : ℕ)
    → worker.task ≡ tasks.Idle → IsReady setting.natives objects.blueprint (with_task worker (tasks.Between code))
    → Gets (input_of code) peer (Truncated have) → Tells listing (closed worker.number (truncated have) ∷ []) listed
    → Stepped setting (with_task worker (tasks.Between code)) objects listing worker objects listed
cuts_input setting worker objects listing listed code have none ready gets tells =
    closed_stepped setting worker objects listing listed code (closed worker.number (truncated have) ∷ []) none ready
    (λ before c between input. cuts c have between (subst (λ (t : List ℕ). Gets t peer (Truncated have)) (sym input) gets) refl refl) tells

pub refuses_input : (setting : Setting) (worker : code_worker.Worker) (objects : Objects) (listing listed : Listing) (code : code_connection.Connection) (status : ℕ)
    → worker.task ≡ tasks.Idle → IsReady setting.natives objects.blueprint (with_task worker (tasks.Between code))
    → Gets (input_of code) peer (Refused status)
    → Tells listing (response worker.number None status (refusal_bytes status setting.moment) ∷ closed worker.number (refused status) ∷ []) listed
    → Stepped setting (with_task worker (tasks.Between code)) objects listing worker objects listed
refuses_input setting worker objects listing listed code status none ready gets tells =
    closed_stepped setting worker objects listing listed code (response worker.number None status (refusal_bytes status setting.moment) ∷ closed worker.number (refused status) ∷ []) none ready
    (λ before c between input. refuses c status between (subst (λ (t : List ℕ). Gets t peer (Refused status)) (sym input) gets) refl refl) tells

-- the reply of a refusal, and then that the connection was closed
pub refusal_told : (before between after : Listing) (number status : ℕ) (bytes other : List ℕ) → bytes ≡ other → Tells before (response number None status bytes ∷ []) between
    → Tells between (closed number (refused status) ∷ []) after → Tells before (response number None status other ∷ closed number (refused status) ∷ []) after
refusal_told before between after number status bytes other same h k =
    subst (λ (b : List ℕ). Tells before (response number None status b ∷ closed number (refused status) ∷ []) after) same
    (tells_more before between after (response number None status bytes ∷ []) (closed number (refused status) ∷ []) h k)

-- an idle worker does nothing
pub rested_stepped : (setting : Setting) (worker after : code_worker.Worker) (objects : Objects) (listing : Listing)
    → worker.task ≡ tasks.Idle → after ≡ worker → IsReady setting.natives objects.blueprint worker
    → Stepped setting worker objects listing after objects listing
rested_stepped setting worker after objects listing none same ready =
    subst (λ (w : code_worker.Worker). Stepped setting worker objects listing w objects listing) (sym same) (
      record {
        went = λ before shows. (
          [],
          before,
          rests (subst (λ (t : Task). ShowsTask setting.natives t before) none shows) refl refl,
          shows,
          tells_none listing,
        );
        ready = ready;
        number = refl;
        reaches = reaches_self objects.blueprint;
      },
      λ busy. absurd (busy none),
    )

-- ---- a question is answered

visits_on : (natives : List (List ℕ)) (request : Open) (written : Bool) (question : Question) (next : Next) (new old : Interp) → IsSameRun new old
    → Visits natives request old written (Asks question) → Visits natives request new written next
visits_on natives request true question next new old same v = tt
visits_on natives request false question next new old same v = unless next (same.visit ∙ v.0, same.moment ∙ v.1)

serves_on : (natives : List (List ℕ)) (serving : UnderWay) (question : Question) (answer : Answer) (next : Next) (made : Interp) (request : Open)
    → Resumed natives answer next made serving.run.interp
    → Serves natives (at_next serving (Asks question)) request
    → Serves natives (gone_on serving next made) (record request { answers = request.answers ++ answer ∷ [] })
serves_on natives serving question answer next made request on s = record {
  blueprint = s.blueprint ∙ sym on.blueprint;
  moment = s.moment;
  asks_close = s.asks_close;
  head_only = s.head_only;
  written = s.written;
  visits = visits_on natives request serving.written question next made serving.run.interp on.same s.visits;
  runs =
      runs_same natives (request_progress natives request) (request_progress natives (record request { answers = request.answers ++ answer ∷ [] })) next made (request.answers ++ answer ∷ [])
      (same_progress natives request (request.answers ++ answer ∷ []))
      (runs_on natives (request_progress natives request) question answer next on.runs.0 made serving.run.interp request.answers on.runs.1 s.runs);
}

-- the count of the program stands still where counters stop
counted_on : (code added count bytes : ℕ) → count ≡ min (code + added) last_count → code ≡ min bytes last_count → count ≡ min (bytes + added) last_count
counted_on code added count bytes e f = omega (arith, e, f)

pub answers_stepped : (setting : Setting) (worker : code_worker.Worker) (objects objects_after : Objects) (listing : Listing)
    (code : code_connection.Connection) (serving : UnderWay) (question : Question) (answer : Answer) (next : Next) (made : Interp) (count : ℕ)
    → Allowed objects.blueprint
    → IsReady setting.natives objects.blueprint (with_task worker (tasks.Serving code (at_next serving (Asks question))))
    → Answers setting serving.moment question objects answer objects_after
    → count ≡ counted code.answer_bytes answer
    → Resumed setting.natives answer next made serving.run.interp
    → Stepped setting (with_task worker (tasks.Serving code (at_next serving (Asks question)))) objects listing
    (with_task worker (tasks.Serving (record code { answer_bytes = count }) (gone_on serving next made))) objects_after listing
answers_stepped setting worker objects objects_after listing code serving question answer next made count ok ready given is on =
    let reaches : Reaches objects.blueprint objects_after.blueprint = answers_reach setting serving.moment question objects objects_after answer ok given in
    let fewer : serving_steps serving.written next made < serving_steps serving.written (Asks question) serving.run.interp = fewer_answered serving.written question serving.run.interp made next on.falls in
    let few : serving_steps serving.written (Asks question) serving.run.interp ≤ most_steps = ready.1.3 in
    let way : IsUnderWay setting.natives objects.blueprint serving.run.interp = ready.1.1 in
    let later : Open = record ready.1.2.0 { answers = ready.1.2.0.answers ++ answer ∷ [] } in (
      record {
        went = λ before shows.
            let c : Connection = shows.0 in
            let r : Open = shows.1 in
            let seen : ShowsConnection code c = shows.3 in
            let s : Serves setting.natives (at_next serving (Asks question)) r = shows.4 in (
              [],
              connected (with_answer c r answer),
              answers c r question answer objects_after shows.2
                  (stands_asking setting.natives (request_progress setting.natives r) question serving.run.interp r.answers s.runs)
                  (subst (λ (m : ℕ). Answers setting m question objects answer objects_after) (sym s.moment) given)
                  refl refl,
              (
                with_answer c r answer,
                record r { answers = r.answers ++ answer ∷ [] },
                (refl, refl),
                record {
                  input = seen.input;
                  requests = seen.requests;
                  answer_bytes = counted_on code.answer_bytes (connections.answer_bytes answer) count c.answer_bytes is seen.answer_bytes;
                },
                serves_on setting.natives serving question answer next made r on s,
              ),
              tells_none listing,
            );
        ready = (
          keeps_later setting.natives objects.blueprint objects_after.blueprint worker.keeper reaches ready.0,
          (
            ready.1.0,
            record {
              sound = on.sound way.sound;
              on =
                  on_same setting.natives objects_after.blueprint made serving.run.interp on.blueprint
                  (on_later setting.natives objects.blueprint objects_after.blueprint serving.run.interp reaches way.on);
            },
            (later, serves_on setting.natives serving question answer next made ready.1.2.0 on ready.1.2.1),
            omega (arith, fewer, few),
          ),
        );
        number = refl;
        reaches = reaches;
      },
      λ busy. inr (refl, fewer),
    )

-- the same of what it serves, where its run stands at this question
pub answers_from : (setting : Setting) (worker : code_worker.Worker) (objects objects_after : Objects) (listing : Listing)
    (code : code_connection.Connection) (serving : UnderWay) (question : Question) (answer : Answer) (next : Next) (made : Interp) (count : ℕ)
    → serving.run.next ≡ Asks question → Allowed objects.blueprint
    → IsReady setting.natives objects.blueprint (with_task worker (tasks.Serving code serving))
    → Answers setting serving.moment question objects answer objects_after
    → count ≡ counted code.answer_bytes answer
    → Resumed setting.natives answer next made serving.run.interp
    → Stepped setting (with_task worker (tasks.Serving code serving)) objects listing
    (with_task worker (tasks.Serving (record code { answer_bytes = count }) (gone_on serving next made))) objects_after listing
answers_from setting worker objects objects_after listing code serving question answer next made count at ok ready given is on =
    let same = next_is serving (Asks question) at in
    subst
    (λ (s : UnderWay). Stepped setting (with_task worker (tasks.Serving code s)) objects listing
    (with_task worker (tasks.Serving (record code { answer_bytes = count }) (gone_on serving next made))) objects_after listing)
    (sym same)
    (answers_stepped setting worker objects objects_after listing code serving question answer next made count ok
    (subst (λ (s : UnderWay). IsReady setting.natives objects.blueprint (with_task worker (tasks.Serving code s))) same ready) given is on)

-- ---- a response is written

not_silent : (p : Progress) (reply : Response) (ending : Ending) (state : evaluation.State HostState) (inside : ℕ) (left : List Answer)
    → IsSilent p → ¬ (p ≡ at_response reply ending state inside left)
not_silent p reply ending state inside left silent e = subst IsSilent e silent

behind_silent : OneResponse → (natives : List (List ℕ)) (request : Open) (p : Progress) → IsSilent (by_written natives true request p)
behind_silent one natives request (at_question question state inside) = tt
behind_silent one natives request (at_response reply ending state inside left) =
    one.after natives request.blueprint request.moment true request.request ending state inside left
behind_silent one natives request (at_end outcome state inside left) = tt

written_first : OneResponse → (natives : List (List ℕ)) (written : Bool) (request : Open) (p : Progress) (reply : Response) (ending : Ending) (state : evaluation.State HostState) (inside : ℕ) (left : List Answer)
    → by_written natives written request p ≡ at_response reply ending state inside left → written ≡ false
written_first one natives false request p reply ending state inside left e = refl
written_first one natives true request p reply ending state inside left e =
    absurd (not_silent (by_written natives true request p) reply ending state inside left (behind_silent one natives request p) e)

-- a response that stands ready wasn't written
pub not_written : OneResponse → (natives : List (List ℕ)) (serving : UnderWay) (reply : Response) (request : Open) → Serves natives (at_next serving (Write reply)) request → serving.written ≡ false
not_written one natives serving reply request s =
    sym s.written
    ∙ written_first one natives request.written request (Main natives request.blueprint request.request request.moment (request.answers ++ [])) reply (ending_of serving.run.interp.task) (interp_state serving.run.interp) s.runs.0 []
    (s.runs.1 [])

main_progress : (natives : List (List ℕ)) (written : Bool) (request : Open) (p q : Progress) → written ≡ false → by_written natives written request p ≡ q → p ≡ q
main_progress natives false request p q is e = e
main_progress natives true request p q is e = absurd (cc)

-- what comes behind the response, on all that is given then
goes_behind : (natives : List (List ℕ)) (request : Open) (reply : Response) (interp : Interp) (given : List Answer)
    → request.written ≡ false → request.blueprint ≡ interp.blueprint.value → interp.moment ≡ request.moment
    → (h : RunsFor natives (request_progress natives request) (Write reply) interp request.answers)
    → request_progress natives (record request { written = true }) (request.answers ++ given)
    ≡ runs.behind natives interp.blueprint.value interp.moment true request.request (ending_of interp.task) (interp_state interp) h.0 given
goes_behind natives request reply interp given first blueprint moment h =
    let main : Main natives request.blueprint request.request request.moment (request.answers ++ given) ≡ at_response reply (ending_of interp.task) (interp_state interp) h.0 given =
    main_progress natives request.written request (Main natives request.blueprint request.request request.moment (request.answers ++ given)) (at_response reply (ending_of interp.task) (interp_state interp) h.0 given) first (h.1 given) in
    ap (λ (p : Progress). by_written natives true (record request { written = true }) p) main
    ∙ ap (λ (b : Edition). runs.behind natives b request.moment true request.request (ending_of interp.task) (interp_state interp) h.0 given) blueprint
    ∙ ap (λ (m : ℕ). runs.behind natives interp.blueprint.value m true request.request (ending_of interp.task) (interp_state interp) h.0 given) (sym moment)

runs_behind : (natives : List (List ℕ)) (request : Open) (reply : Response) (interp after : Interp) (next : Next) (took : ℕ)
    → request.written ≡ false → request.blueprint ≡ interp.blueprint.value → interp.moment ≡ request.moment
    → RunsFor natives (request_progress natives request) (Write reply) interp request.answers
    → ((inside : ℕ) → Stands natives (runs.behind natives interp.blueprint.value interp.moment true request.request (ending_of interp.task) (interp_state interp) inside) next (inside + took) after [])
    → RunsFor natives (request_progress natives (record request { written = true })) next after request.answers
runs_behind natives request reply interp after (Asks question) took first blueprint moment h goes =
    (h.0 + took, λ further. goes_behind natives request reply interp further first blueprint moment h ∙ goes h.0 further)
runs_behind natives request reply interp after (Write other) took first blueprint moment h goes =
    (h.0 + took, λ further. goes_behind natives request reply interp further first blueprint moment h ∙ goes h.0 further)
runs_behind natives request reply interp after (Ended outcome) took first blueprint moment h goes =
    (h.0 + took, λ further. goes_behind natives request reply interp further first blueprint moment h ∙ goes h.0 further)
runs_behind natives request reply interp after NoMemory took first blueprint moment h goes = (h.0 + took, tt)

visits_first : (natives : List (List ℕ)) (request : Open) (interp : Interp) (written : Bool) (reply : Response) → written ≡ false → Visits natives request interp written (Write reply)
    → (interp.visit ≡ visit_of natives request.blueprint request.request) × (interp.moment ≡ request.moment)
visits_first natives request interp false reply is v = v
visits_first natives request interp true reply is v = absurd (cc)

serves_behind : OneResponse → (natives : List (List ℕ)) (serving : UnderWay) (reply : Response) (next : Next) (made : Interp) (request : Open)
    → IsSound natives serving.run.interp → WentBehind natives next made serving.run.interp
    → Serves natives (at_next serving (Write reply)) request
    → Serves natives (gone_on (record serving { written = true }) next made) (record request { written = true })
serves_behind one natives serving reply next made request sound goes s =
    let first : serving.written ≡ false = not_written one natives serving reply request s in
    let visit : (serving.run.interp.visit ≡ visit_of natives request.blueprint request.request) × (serving.run.interp.moment ≡ request.moment) =
    visits_first natives request serving.run.interp serving.written reply first s.visits in
    let here : serving.run.interp.visit ≡ visit_of natives serving.run.interp.blueprint.value request.request =
    visit.0 ∙ ap (λ (b : Edition). visit_of natives b request.request) s.blueprint in
    let x = goes.runs request.request sound here in
    record {
      blueprint = s.blueprint ∙ sym goes.blueprint;
      moment = s.moment;
      asks_close = s.asks_close;
      head_only = s.head_only;
      written = refl;
      visits = tt;
      runs = runs_behind natives request reply serving.run.interp made next x.0 (s.written ∙ first) s.blueprint visit.1 s.runs x.1;
    }

-- a count that stands still tells the same of the bound
lt_capped : (least : Bool) (bound count : ℕ) → bound < last_count → nat_lt bound count ≡ least → nat_lt bound (min count last_count) ≡ least
lt_capped true bound count small is = let lt : bound < count = ltb-true bound count is in lt-ltb bound (min count last_count) (omega (arith, lt, small))
lt_capped false bound count small is = let le : count ≤ bound = ltb-false bound count is in le-ltb bound (min count last_count) (omega (arith, le))

pub spent_same : (requests counted bytes : ℕ) → counted ≡ min bytes last_count → is_spent requests counted ≡ is_spent requests bytes
spent_same requests counted bytes is =
    let same : nat_lt connections.most_answered (min bytes last_count) ≡ nat_lt connections.most_answered bytes =
    lt_capped (nat_lt connections.most_answered bytes) connections.most_answered bytes (omega arith) refl in
    ap (λ (b : Bool). nat_le most_served requests || b) (ap (λ (n : ℕ). nat_lt connections.most_answered n) is ∙ same)

same_bytes : (natives : List (List ℕ)) (code : code_connection.Connection) (c : Connection) (serving : UnderWay) (request : Open) (reply : Response)
    → ShowsConnection code c → Serves natives serving request
    → response_bytes reply serving.moment serving.head_only (connections.closes serving.asks_close code.requests code.answer_bytes) ≡ reply_bytes c request reply
same_bytes natives code c serving request reply seen s =
    ap (λ (m : ℕ). response_bytes reply m serving.head_only (connections.closes serving.asks_close code.requests code.answer_bytes)) (sym s.moment)
    ∙ ap (λ (h : Bool). response_bytes reply request.moment h (connections.closes serving.asks_close code.requests code.answer_bytes)) (sym s.head_only)
    ∙ ap (λ (a : Bool). response_bytes reply request.moment (is_head_only request.request) (connections.closes a code.requests code.answer_bytes)) (sym s.asks_close)
    ∙ ap (λ (n : ℕ). response_bytes reply request.moment (is_head_only request.request) (connections.closes (asks_close request.request) n code.answer_bytes)) (sym seen.requests)
    ∙ ap (λ (b : Bool). response_bytes reply request.moment (is_head_only request.request) (asks_close request.request || b)) (spent_same c.requests code.answer_bytes c.answer_bytes seen.answer_bytes)

pub writes_stepped : OneResponse → (setting : Setting) (worker : code_worker.Worker) (objects : Objects) (listing listed : Listing)
    (code : code_connection.Connection) (serving : UnderWay) (reply : Response) (next : Next) (made : Interp) (epoch : ℕ) (bytes : List ℕ)
    → IsReady setting.natives objects.blueprint (with_task worker (tasks.Serving code (at_next serving (Write reply))))
    → epoch ≡ serving.run.interp.blueprint.value.epoch
    → bytes ≡ response_bytes reply serving.moment serving.head_only (connections.closes serving.asks_close code.requests code.answer_bytes)
    → Tells listing (response worker.number (Some epoch) reply.status bytes ∷ []) listed
    → WentBehind setting.natives next made serving.run.interp
    → Stepped setting (with_task worker (tasks.Serving code (at_next serving (Write reply)))) objects listing
    (with_task worker (tasks.Serving code (gone_on (record serving { written = true }) next made))) objects listed
writes_stepped one setting worker objects listing listed code serving reply next made epoch bytes ready epoch_is bytes_are tells goes =
    let way : IsUnderWay setting.natives objects.blueprint serving.run.interp = ready.1.1 in
    let first : serving.written ≡ false = not_written one setting.natives serving reply ready.1.2.0 ready.1.2.1 in
    let fewer : last_steps next made < first_number + 3 = few_last made next goes.falls in
    let before : serving_steps serving.written (Write reply) serving.run.interp ≡ first_number + 3 = ap (λ (w : Bool). serving_steps w (Write reply) serving.run.interp) first in (
      record {
        went = λ before shows.
            let c : Connection = shows.0 in
            let r : Open = shows.1 in
            let seen : ShowsConnection code c = shows.3 in
            let s : Serves setting.natives (at_next serving (Write reply)) r = shows.4 in
            let epoch_same : epoch ≡ r.blueprint.epoch = epoch_is ∙ ap (λ (b : Edition). b.epoch) (sym s.blueprint) in
            let line : response worker.number (Some epoch) reply.status bytes ≡ response worker.number (Some r.blueprint.epoch) reply.status (reply_bytes c r reply) =
            ap (λ (e : ℕ). response worker.number (Some e) reply.status bytes) epoch_same
            ∙ ap (λ (b : List ℕ). response worker.number (Some r.blueprint.epoch) reply.status b) (bytes_are ∙ same_bytes setting.natives code c (at_next serving (Write reply)) r reply seen s) in (
              response worker.number (Some epoch) reply.status bytes ∷ [],
              connected (with_written c r),
              writes c r reply shows.2
                  (stands_ready setting.natives (request_progress setting.natives r) reply serving.run.interp r.answers s.runs)
                  (ap (λ (l : Line). l ∷ []) line)
                  refl,
              (
                with_written c r,
                record r { written = true },
                (refl, refl),
                record { input = seen.input; requests = seen.requests; answer_bytes = seen.answer_bytes },
                serves_behind one setting.natives serving reply next made r way.sound goes s,
              ),
              tells,
            );
        ready = (
          ready.0,
          (
            ready.1.0,
            record {
              sound = goes.sound way.sound;
              on = on_same setting.natives objects.blueprint made serving.run.interp goes.blueprint way.on;
            },
            (record ready.1.2.0 { written = true }, serves_behind one setting.natives serving reply next made ready.1.2.0 way.sound goes ready.1.2.1),
            omega (arith, fewer),
          ),
        );
        number = refl;
        reaches = reaches_self objects.blueprint;
      },
      λ busy. inr (refl, omega (arith, fewer, before)),
    )

-- the same of what it serves, where its run stands at this response
pub writes_from : OneResponse → (setting : Setting) (worker : code_worker.Worker) (objects : Objects) (listing listed : Listing)
    (code : code_connection.Connection) (serving : UnderWay) (reply : Response) (next : Next) (made : Interp) (epoch : ℕ) (bytes : List ℕ)
    → serving.run.next ≡ Write reply
    → IsReady setting.natives objects.blueprint (with_task worker (tasks.Serving code serving))
    → epoch ≡ serving.run.interp.blueprint.value.epoch
    → bytes ≡ response_bytes reply serving.moment serving.head_only (connections.closes serving.asks_close code.requests code.answer_bytes)
    → Tells listing (response worker.number (Some epoch) reply.status bytes ∷ []) listed
    → WentBehind setting.natives next made serving.run.interp
    → Stepped setting (with_task worker (tasks.Serving code serving)) objects listing
    (with_task worker (tasks.Serving code (gone_on (record serving { written = true }) next made))) objects listed
writes_from one setting worker objects listing listed code serving reply next made epoch bytes at ready epoch_is bytes_are tells goes =
    let same = next_is serving (Write reply) at in
    subst
    (λ (s : UnderWay). Stepped setting (with_task worker (tasks.Serving code s)) objects listing
    (with_task worker (tasks.Serving code (gone_on (record serving { written = true }) next made))) objects listed)
    (sym same)
    (writes_stepped one setting worker objects listing listed code serving reply next made epoch bytes
    (subst (λ (s : UnderWay). IsReady setting.natives objects.blueprint (with_task worker (tasks.Serving code s))) same ready) epoch_is bytes_are tells goes)

-- ---- a request ends

same_behind_it : (natives : List (List ℕ)) (code : code_connection.Connection) (c : Connection) (serving : UnderWay) (request : Open)
    → ShowsConnection code c → Serves natives serving request
    → after_request serving.asks_close code.requests code.answer_bytes ≡ behind c request
same_behind_it natives code c serving request seen s =
    ap (λ (a : Bool). after_request a code.requests code.answer_bytes) (sym s.asks_close)
    ∙ ap (λ (n : ℕ). after_request (asks_close request.request) n code.answer_bytes) (sym seen.requests)
    ∙ ap (λ (b : Bool). if asks_close request.request then Closing else if b then Spent else GoesOn) (spent_same c.requests code.answer_bytes c.answer_bytes seen.answer_bytes)

-- the task of a worker behind a request
abbrev pub end_task : code_connection.Connection → Behind → Task
end_task connection Closing = tasks.Idle
end_task connection Spent = tasks.Idle
end_task connection GoesOn = tasks.Between connection

no_more : (enough many : Bool) → (if (enough || many) then Spent else GoesOn) ≡ GoesOn → enough ≡ false
no_more false many e = refl
no_more true many e = absurd (cc)

goes_on : (asks : Bool) (requests bytes : ℕ) → after_request asks requests bytes ≡ GoesOn → requests < most_served
goes_on true requests bytes e = absurd (cc)
goes_on false requests bytes e = leb-false most_served requests (no_more (nat_le most_served requests) (nat_lt connections.most_answered bytes) e)

shows_end : (natives : List (List ℕ)) (code : code_connection.Connection) (c : Connection) (what : Behind) → ShowsConnection code c → ShowsTask natives (end_task code what) (end_worker c what)
shows_end natives code c Closing seen = refl
shows_end natives code c Spent seen = refl
shows_end natives code c GoesOn seen = (without_request c, (refl, refl), record { input = seen.input; requests = seen.requests; answer_bytes = seen.answer_bytes })

ready_end : (natives : List (List ℕ)) (now : State) (code : code_connection.Connection) (what : Behind) (asks : Bool) → what ≡ after_request asks code.requests code.answer_bytes
    → IsTaskReady natives now (end_task code what)
ready_end natives now code Closing asks is = tt
ready_end natives now code Spent asks is = tt
ready_end natives now code GoesOn asks is = goes_on asks code.requests code.answer_bytes (sym is)

down_end : (code : code_connection.Connection) (what : Behind) (left steps : ℕ) → left ≡ (most_served - code.requests) + 1 → 0 < steps
    → (requests_left (end_task code what) < left) ⊎ ((requests_left (end_task code what) ≡ left) × (task_steps (end_task code what) < steps))
down_end code Closing left steps is some = inl (omega (arith, is))
down_end code Spent left steps is some = inl (omega (arith, is))
down_end code GoesOn left steps is some = inr (sym is, some)

pub ends_stepped : (setting : Setting) (worker after : code_worker.Worker) (objects : Objects) (listing listed : Listing)
    (code : code_connection.Connection) (serving : UnderWay) (outcome : Outcome) (what : Behind)
    → IsReady setting.natives objects.blueprint (with_task worker (tasks.Serving code (at_next serving (Ended outcome))))
    → IsEnd outcome → what ≡ after_request serving.asks_close code.requests code.answer_bytes
    → KeepsOn setting.natives objects.blueprint after.keeper
    → after.number ≡ worker.number → after.task ≡ end_task code what
    → Tells listing (end_lines worker.number what) listed
    → Stepped setting (with_task worker (tasks.Serving code (at_next serving (Ended outcome)))) objects listing after objects listed
ends_stepped setting worker after objects listing listed code serving outcome what ready is_end what_is keeps number task tells = (
  record {
    went = λ before shows.
        let c : Connection = shows.0 in
        let r : Open = shows.1 in
        let seen : ShowsConnection code c = shows.3 in
        let s : Serves setting.natives (at_next serving (Ended outcome)) r = shows.4 in
        let same : what ≡ behind c r = what_is ∙ same_behind_it setting.natives code c (at_next serving (Ended outcome)) r seen s in (
          end_lines worker.number what,
          end_worker c what,
          ends c r outcome shows.2
              (stands_over setting.natives (request_progress setting.natives r) outcome serving.run.interp r.answers s.runs)
              is_end
              (ap (end_lines worker.number) same)
              (ap (λ (b : Behind). let p : Position = record { worker = end_worker c b; objects = objects } in p) same),
          subst (λ (t : Task). ShowsTask setting.natives t (end_worker c what)) (sym task) (shows_end setting.natives code c what seen),
          tells,
        );
    ready = (keeps, subst (λ (t : Task). IsTaskReady setting.natives objects.blueprint t) (sym task) (ready_end setting.natives objects.blueprint code what serving.asks_close what_is));
    number = number;
    reaches = reaches_self objects.blueprint;
  },
  λ busy.
      subst (λ (t : Task). (requests_left t < (most_served - code.requests) + 1) ⊎ ((requests_left t ≡ (most_served - code.requests) + 1) × (task_steps t < serving_steps serving.written (Ended outcome) serving.run.interp))) (sym task)
      (down_end code what ((most_served - code.requests) + 1) (serving_steps serving.written (Ended outcome) serving.run.interp) refl (some_left serving.written outcome serving.run.interp)),
)

-- the same of what it serves, where its run has ended so
pub ends_from : (setting : Setting) (worker after : code_worker.Worker) (objects : Objects) (listing listed : Listing)
    (code : code_connection.Connection) (serving : UnderWay) (outcome : Outcome) (what : Behind)
    → serving.run.next ≡ Ended outcome
    → IsReady setting.natives objects.blueprint (with_task worker (tasks.Serving code serving))
    → StandsAt serving.run.next serving.run.interp → what ≡ after_request serving.asks_close code.requests code.answer_bytes
    → KeepsOn setting.natives objects.blueprint after.keeper
    → after.number ≡ worker.number → after.task ≡ end_task code what
    → Tells listing (end_lines worker.number what) listed
    → Stepped setting (with_task worker (tasks.Serving code serving)) objects listing after objects listed
ends_from setting worker after objects listing listed code serving outcome what at ready stands what_is keeps number task tells =
    let same = next_is serving (Ended outcome) at in
    let ended : StandsAt (Ended outcome) serving.run.interp = subst (λ (n : Next). StandsAt n serving.run.interp) at stands in
    subst (λ (s : UnderWay). Stepped setting (with_task worker (tasks.Serving code s)) objects listing after objects listed) (sym same)
    (ends_stepped setting worker after objects listing listed code serving outcome what
    (subst (λ (s : UnderWay). IsReady setting.natives objects.blueprint (with_task worker (tasks.Serving code s))) same ready) ended.0 what_is keeps number task tells)

-- a step, from another place that is the same
pub stepped_from : (setting : Setting) (worker other after : code_worker.Worker) (objects objects_after : Objects) (listing listed : Listing) → other ≡ worker
    → Stepped setting worker objects listing after objects_after listed → Stepped setting other objects listing after objects_after listed
stepped_from setting worker other after objects objects_after listing listed same h =
    subst (λ (w : code_worker.Worker). Stepped setting w objects listing after objects_after listed) (sym same) h

-- ---- step after step

-- Steps, at least one, of which none was taken by a worker that was idle by an earlier one.
pub data Chain (number : ℕ) (setting : Setting) (start : Position) : List Line → Position → Type 0 where
  single : {lines : List Line} {after : Position} → Step number setting start lines after → Chain number setting start lines after
  further : {lines others : List Line} {between after : Position} → Chain number setting start lines between → ¬ (between.worker ≡ idle)
      → Step number setting between others after → Chain number setting start (lines ++ others) after

chain_runs : {number : ℕ} {setting : Setting} {start between after : Position} {lines : List Line} (others : List Line) → Chain number setting start lines between → ¬ (between.worker ≡ idle)
    → RunsUntilIdle number setting between others after → RunsUntilIdle number setting start (lines ++ others) after
chain_runs {lines = lines} others (single step) busy rest = more lines others step busy rest
chain_runs {number = number} {setting = setting} {start = start} {after = after} others (further {lines = first} {others = second} chain busy step) still rest =
    subst (λ (l : List Line). RunsUntilIdle number setting start l after) (sym (append_assoc first second others))
    (chain_runs (second ++ others) chain busy (more second others step still rest))

pub chain_ends : {number : ℕ} {setting : Setting} {start after : Position} {lines : List Line} → Chain number setting start lines after → after.worker ≡ idle → RunsUntilIdle number setting start lines after
chain_ends (single step) is = last step is
chain_ends (further {others = second} chain busy step) is = chain_runs second chain busy (last step is)

shows_busy : (natives : List (List ℕ)) (task : Task) (seen : Worker) → ¬ (task ≡ tasks.Idle) → ShowsTask natives task seen → ¬ (seen ≡ idle)
shows_busy natives tasks.Idle seen busy shows e = busy refl
shows_busy natives (tasks.Between code) seen busy shows e = let f : connected shows.0 ≡ idle = sym shows.1.0 ∙ e in cc
shows_busy natives (tasks.Serving code serving) seen busy shows e = let f : connected shows.0 ≡ idle = sym shows.2.0 ∙ e in cc

-- steps so far
abbrev pub Chained : Setting → code_worker.Worker → Objects → Listing → code_worker.Worker → Objects → Listing → Type 0
Chained setting worker objects listing worker_after objects_after listed = Moved Chain setting worker objects listing worker_after objects_after listed

pub chain_begins : (setting : Setting) (start worker : code_worker.Worker) (objects objects_after : Objects) (listing listed : Listing)
    → Stepped setting start objects listing worker objects_after listed → Chained setting start objects listing worker objects_after listed
chain_begins setting start worker objects objects_after listing listed h = record {
  went = λ before shows.
      let w = h.0.went before shows in
      (w.0, w.1, single w.2, w.3, w.4);
  ready = h.0.ready;
  number = h.0.number;
  reaches = h.0.reaches;
}

pub chain_more : (setting : Setting) (start worker after : code_worker.Worker) (objects between objects_after : Objects) (listing so_far listed : Listing)
    → ¬ (worker.task ≡ tasks.Idle)
    → Chained setting start objects listing worker between so_far → Stepped setting worker between so_far after objects_after listed
    → Chained setting start objects listing after objects_after listed
chain_more setting start worker after objects between objects_after listing so_far listed busy chain step = record {
  went = λ before shows.
      let c = chain.went before shows in
      let s = step.0.went c.1 c.3 in
      let goes : Step start.number setting (record { worker = c.1; objects = between }) s.0 (record { worker = s.1; objects = objects_after }) =
      subst (λ (n : ℕ). Step n setting (record { worker = c.1; objects = between }) s.0 (record { worker = s.1; objects = objects_after })) chain.number s.2 in (
        c.0 ++ s.0,
        s.1,
        further c.2 (shows_busy setting.natives worker.task c.1 busy c.3) goes,
        s.3,
        tells_more listing so_far listed c.0 s.0 c.4 s.4,
      );
  ready = step.0.ready;
  number = step.0.number ∙ chain.number;
  reaches = reaches_later objects.blueprint between.blueprint objects_after.blueprint chain.reaches step.0.reaches;
}

pub chain_over : (setting : Setting) (start worker : code_worker.Worker) (objects objects_after : Objects) (listing listed : Listing)
    → worker.task ≡ tasks.Idle → Chained setting start objects listing worker objects_after listed
    → Moved RunsUntilIdle setting start objects listing worker objects_after listed
chain_over setting start worker objects objects_after listing listed is chain = record {
  went = λ before shows.
      let c = chain.went before shows in
      let rest : c.1 ≡ idle = subst (λ (t : Task). ShowsTask setting.natives t c.1) is c.3 in
      (c.0, c.1, chain_ends c.2 rest, c.3, c.4);
  ready = chain.ready;
  number = chain.number;
  reaches = chain.reaches;
}

-- one number that falls with each step
abbrev pub steps_left : code_worker.Worker → ℕ
steps_left worker = requests_left worker.task * (most_steps + 1) + task_steps worker.task

few_steps : (natives : List (List ℕ)) (now : State) (task : Task) → IsTaskReady natives now task → task_steps task ≤ most_steps
few_steps natives now tasks.Idle h = omega arith
few_steps natives now (tasks.Between code) h = omega arith
few_steps natives now (tasks.Serving code serving) h = h.3

falls_by : (a b s t : ℕ) → t ≤ most_steps → (a < b) ⊎ ((a ≡ b) × (t < s)) → a * (most_steps + 1) + t < b * (most_steps + 1) + s
falls_by a b s t few (inl less) = omega (arith, few, less)
falls_by a b s t few (inr same) = omega (arith, same.0, same.1)

pub steps_fall : (setting : Setting) (worker after : code_worker.Worker) (objects objects_after : Objects) (listing listed : Listing) → ¬ (worker.task ≡ tasks.Idle)
    → Stepped setting worker objects listing after objects_after listed → steps_left after < steps_left worker
steps_fall setting worker after objects objects_after listing listed busy h =
    falls_by (requests_left after.task) (requests_left worker.task) (task_steps worker.task) (task_steps after.task)
    (few_steps setting.natives objects_after.blueprint after.task h.0.ready.1) (h.1 busy)
