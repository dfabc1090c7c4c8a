-- One request on its interpreter: up to its response, and behind it.
use Rattle.std.proofs.Common.{◌≡◌, ◌⊎◌, inl, inr, ℕ, ◌+◌, ◌-◌, ◌*◌, ◌<◌, ◌≤◌, Bool, true, false, List, [], ◌∷◌, ◌++◌, length, take, Option, None, Some, refl, sym, ap, ◌∙◌, subst, append_assoc, arith}
use Rattle.std.proofs.Math.Seq.{take-length}
use Rattle.std.proofs.lemmas.List.{append-nil}
use Rattle.std.proofs.lemmas.List.Sums.{sum_by-append}
use Rattle.outside.specs.Paging.{PageMap}
use Rattle.outside.specs.Writing.{Gains}
use Rattle.outside.specs.declared.question.Answer.{Answer}
use Rattle.outside.specs.declared.question.Question.{Question}
use Rattle.outside.specs.declared.sending.Sent.{Sent}
use Rattle.outside.specs.declared.sending.Sent.TheVariants as sending
use Rattle.cmd_table.specs.Commands.{Writes}
use Rattle.http_req.specs.declared.request.Request.{Request}
use Rattle.http_resp.specs.declared.response.Response.{Response}
use Rattle.http_resp.specs.Replies.{no_memory_bytes}
use Rattle.http_resp.specs.ResponseBytes.{response_bytes}
use Rattle.server_host.specs.Hosts.{HostState}
use Rattle.server_host.specs.declared.edition.Edition.{Edition}
use Rattle.blueprint.specs.States as blueprints
use Rattle.tcl_eval.specs.State.{State}
use Rattle.tcl_eval.specs.declared.outcome.Outcome.{Outcome}
use Rattle.tcl_eval.specs.declared.outcome.Outcome.TheVariants as outcomes
use Rattle.ictl.specs.Falls.{StandsAt as IsAt, IsEnd}
use Rattle.ictl.specs.Interps.{gives, ending_of, interp_state, UnlessNoMemory, Stands}
use Rattle.ictl.specs.Main.{Progress, asks, writes, ends, Main, behind, behind_response, both, answered}
use Rattle.ictl.specs.declared.ending.Ending.{Ending}
use Rattle.ictl.specs.declared.ending.Ending.TheVariants as endings
use Rattle.ictl.specs.declared.interp.Interp.{Interp}
use Rattle.ictl.specs.declared.next.Next.{Next}
use Rattle.ictl.specs.declared.next.Next.TheVariants as next
use Rattle.shared_state.specs.declared.shared.Passes.{Passes}
use Rattle.serving.specs.Connections.{answer_bytes, asks_close, is_head_only, closes}
use Rattle.worker.specs.Turns.{Turn, ProgressAsks, IsTurnOf, answer_of, AreAsked, AtMostOneMore, GainsTurns}
use Rattle.worker.specs.Outside.{AreHeld, page_faults, RoseBy}
use Rattle.worker.specs.Asking.{MayStand, Hears}
use Rattle.worker.specs.Runs.{Course, Finished, CutShort, WantsBefore, WantsBehind, edition_of, whole_run, run_in, is_marked, served_outcome, bytes_for}
use Rattle.worker.specs.Cost.{run_cost}
use Rattle.worker.specs.Items.{bytes_of, bytes_had, Gives, Responds, ComesTo, MayLoseOne}
use Rattle.worker.specs.Working.{bytes_sent, IsSent, IsMarkedBy, RunsRequest, SendsReply, way_of}
use Rattle.worker.specs.declared.served.ServedOutcome.{ServedOutcome}
use Rattle.worker.specs.declared.served.ServedOutcome.TheVariants as ways
use Rattle.worker.proofs.Turning.{gains_more}
use Rattle.worker.proofs.Hearing.{held_more, rose_two, asked_same, more_same, hears_of}

-- ---- replies

named_sent : (sent : Sent) (reply : List ℕ) (a b : Option (List ℕ)) → SendsReply sent reply a b → IsSent WantsBefore sent (length reply)
named_sent (sending.Whole bytes) reply a b s = s.0
named_sent (sending.WriteFault bytes) reply a b s = s.0

named_gains : (sent : Sent) (reply : List ℕ) (a b : Option (List ℕ)) → SendsReply sent reply a b → Gains a (take (bytes_sent sent) reply) b
named_gains (sending.Whole bytes) reply a b s = subst (λ (l : List ℕ). Gains a l b) (sym (ap (λ (n : ℕ). take n reply) s.0 ∙ take-length reply)) s.1
named_gains (sending.WriteFault bytes) reply a b s = s.1

-- a reply of the bytes of a response, in the manner of a request
abbrev pub reply_for : Request → Response → ℕ → ℕ → ℕ → List Answer → List ℕ
reply_for request response moment number before had = bytes_for request response moment (closes (asks_close request) number (before + bytes_of had))

-- ---- both parts of a run

main_stands : (names : List (List ℕ)) (edition : Edition) (request : Request) (moment : ℕ) (whole : Bool) (progress : Progress) (question : Question) → ProgressAsks progress question → ProgressAsks (behind_response names edition moment whole request progress) question
main_stands names edition request moment whole progress question s = (s.0, s.1, ap (λ (p : Progress). behind_response names edition moment whole request p) s.2)

-- the questions of the part up to the response, and of that behind it, are those of the whole
asked_both : (names : List (List ℕ)) (edition : Edition) (request : Request) (moment : ℕ) (whole : Bool) (f : List Answer → Progress) (ts us : List Turn) (given further : List Answer)
    (response : Response) (ending : Ending) (state : State HostState) (inside : ℕ)
    → AreAsked moment f ts given → ((left : List Answer) → f (given ++ left) ≡ writes response ending state inside left)
    → AreAsked moment (λ left. behind names edition moment whole request ending state inside left) us further
    → AreAsked moment (λ answers. behind_response names edition moment whole request (f answers)) (ts ++ us) (given ++ further)
asked_both names edition request moment whole f [] us [] further response ending state inside a goes b =
    asked_same moment (λ left. behind names edition moment whole request ending state inside left) (λ answers. behind_response names edition moment whole request (f answers)) us further
    (λ left. sym (ap (λ (p : Progress). behind_response names edition moment whole request p) (goes left))) b
asked_both names edition request moment whole f [] us (x ∷ xs) further response ending state inside a goes b = absurd a
asked_both names edition request moment whole f (t ∷ ts) us [] further response ending state inside a goes b = absurd a
asked_both names edition request moment whole f (t ∷ ts) us (x ∷ xs) further response ending state inside a goes b =
    (a.0, main_stands names edition request moment whole (f []) a.0 a.1, a.2, a.3, asked_both names edition request moment whole (λ given. f (x ∷ given)) ts us xs further response ending state inside a.4 goes b)

-- what came behind the answers that were had before
had_before : (given left : List Answer) → bytes_had (given ++ left) left ≡ bytes_of given
had_before given left = let e = sum_by-append answer_bytes given left in omega (arith, e)

pub lost_before : (moment : ℕ) (f : List Answer → Progress) (given : List Answer) (more : List Turn) (came : Next) → MayStand moment f given more came → AtMostOneMore moment f given more
lost_before moment f given more (next.Asks question) h = absurd h
lost_before moment f given more (next.Write response) h = subst (λ (ts : List Turn). AtMostOneMore moment f given ts) (sym h) tt
lost_before moment f given more (next.Ended outcome) h = subst (λ (ts : List Turn). AtMostOneMore moment f given ts) (sym h) tt
lost_before moment f given more next.NoMemory h = h

-- ---- memory wanted before the response was written

pub wants_before : (names : List (List ℕ)) (held : Option PageMap) (state : blueprints.State) (request : Request) (moment number before : ℕ) (sent : Sent) (p q : Passes) (output output_after : Option (List ℕ))
    (faults faults_after steps steps_after : ℕ) (known published : Option ℕ) (had all : List Answer) (came : Next) (inside : ℕ) (interp : Interp) (way : ServedOutcome)
    → Hears names moment (λ further. Main names (edition_of state) request moment further) p held faults known had came inside interp q faults_after published all → had ≡ []
    → way ≡ ways.NoMemory → SendsReply sent (no_memory_bytes moment) output output_after
    → steps_after + Writes (interp_state interp).made ≤ steps + run_cost (Main names (edition_of state) request moment all)
    → RunsRequest names held state request moment number before sent p q output output_after faults faults_after steps steps_after all way interp
wants_before names held state request moment number before sent p q output output_after faults faults_after steps steps_after known published had all came inside interp way h none want s paid =
    let all_is : h.given ≡ all = sym (h.all_are ∙ ap (λ (l : List Answer). l ++ h.given) none) in
    record {
      course = WantsBefore;
      turns = h.turns;
      more = h.more;
      close = true;
      reply = no_memory_bytes moment;
      gains = h.gains;
      asked = subst (λ (l : List Answer). AreAsked moment (λ further. Main names (edition_of state) request moment further) h.turns l) all_is h.asked;
      one_more = subst (λ (l : List Answer). AtMostOneMore moment (λ further. Main names (edition_of state) request moment further) l h.more) all_is (lost_before moment (λ further. Main names (edition_of state) request moment further) h.given h.more came h.behind);
      pages = h.pages;
      counts = h.counts;
      comes = (refl, refl, want);
      sends = named_sent sent (no_memory_bytes moment) output output_after s;
      writes = named_gains sent (no_memory_bytes moment) output output_after s;
      marked = tt;
      paid = paid;
    }

-- ---- the response was written whole

-- What was heard of both parts.
pub record HearsBoth (names : List (List ℕ)) (held : Option PageMap) (state : blueprints.State) (request : Request) (moment : ℕ) (whole : Bool) (p r : Passes) (faults faults_after : ℕ)
    (had all : List Answer) (response : Response) (i : Interp) (inside : ℕ) (came : Next) (j : Interp) (within : ℕ) : Type 0 where
  pub turns : List Turn
  pub more : List Turn
  pub left : List Answer
  pub all_are : all ≡ had ++ left
  pub gains : GainsTurns p (turns ++ more) r
  pub asked : AreAsked moment (λ answers. whole_run names state request moment whole answers) turns all
  pub one_more : MayStand moment (λ answers. whole_run names state request moment whole answers) all more came
  pub pages : AreHeld held (turns ++ more)
  pub counts : RoseBy (page_faults (turns ++ more)) faults faults_after
  pub main : Main names (edition_of state) request moment all ≡ writes response (ending_of i.task) (interp_state i) inside left
  pub behind_is : whole_run names state request moment whole all ≡ behind names (edition_of state) moment whole request (ending_of i.task) (interp_state i) inside left
  pub ended : (outcome : Outcome) → came ≡ next.Ended outcome → whole_run names state request moment whole all ≡ ends outcome (interp_state j) within []

stand_on : (moment : ℕ) (f g : List Answer → Progress) (given other : List Answer) (more : List Turn) (came : Next) → f given ≡ g other → MayStand moment f given more came → MayStand moment g other more came
stand_on moment f g given other more (next.Asks question) same h = h
stand_on moment f g given other more (next.Write response) same h = h
stand_on moment f g given other more (next.Ended outcome) same h = h
stand_on moment f g given other more next.NoMemory same h = more_same moment f g given other more same h

ended_at : (names : List (List ℕ)) (f : List Answer → Progress) (given : List Answer) (came : Next) (outcome : Outcome) (within : ℕ) (j : Interp) → came ≡ next.Ended outcome
    → UnlessNoMemory came ((further : List Answer) → f (given ++ further) ≡ gives names came within j further) → f given ≡ ends outcome (interp_state j) within []
ended_at names f given (next.Ended other) outcome within j is goes = ap f (sym (append-nil given)) ∙ (goes [] ∙ ap (λ (n : Next). gives names n within j []) is)
ended_at names f given (next.Asks question) outcome within j is goes = absurd (cc)
ended_at names f given (next.Write response) outcome within j is goes = absurd (cc)
ended_at names f given next.NoMemory outcome within j is goes = absurd (cc)

regroup : (a b c : List Turn) → a ++ (b ++ c) ≡ (a ++ b) ++ c
regroup a b c = sym (append_assoc a b c)

pub hears_both : (names : List (List ℕ)) (held : Option PageMap) (state : blueprints.State) (request : Request) (moment : ℕ) (whole : Bool) (p q r : Passes) (faults middle faults_after : ℕ)
    (known published other last : Option ℕ) (none had all : List Answer) (response : Response) (i : Interp) (inside : ℕ) (came : Next) (j : Interp) (within : ℕ)
    → Hears names moment (λ further. Main names (edition_of state) request moment further) p held faults known none (next.Write response) inside i q middle published had → none ≡ []
    → Hears names moment (λ further. behind names (edition_of state) moment whole request (ending_of i.task) (interp_state i) inside further) q held middle other had came within j r faults_after last all
    → HearsBoth names held state request moment whole p r faults faults_after had all response i inside came j within
hears_both names held state request moment whole p q r faults middle faults_after known published other last none had all response i inside came j within h empty k =
    let had_is : h.given ≡ had = sym (h.all_are ∙ ap (λ (l : List Answer). l ++ h.given) empty) in
    let main_goes : (left : List Answer) → Main names (edition_of state) request moment (had ++ left) ≡ writes response (ending_of i.task) (interp_state i) inside left = λ left. ap (λ (l : List Answer). Main names (edition_of state) request moment (l ++ left)) (sym had_is) ∙ h.goes left in
    let main : Main names (edition_of state) request moment all ≡ writes response (ending_of i.task) (interp_state i) inside k.given = ap (λ (l : List Answer). Main names (edition_of state) request moment l) k.all_are ∙ main_goes k.given in
    let whole_is : whole_run names state request moment whole all ≡ behind names (edition_of state) moment whole request (ending_of i.task) (interp_state i) inside k.given = ap (λ (x : Progress). behind_response names (edition_of state) moment whole request x) main in
    let first : h.turns ++ (k.turns ++ k.more) ≡ (h.turns ++ k.turns) ++ k.more = regroup h.turns k.turns k.more in
    let gained : GainsTurns p h.turns q = subst (λ (ts : List Turn). GainsTurns p ts q) (ap (λ (ts : List Turn). h.turns ++ ts) h.behind ∙ append-nil h.turns) h.gains in
    let paged : AreHeld held h.turns = subst (λ (ts : List Turn). AreHeld held ts) (ap (λ (ts : List Turn). h.turns ++ ts) h.behind ∙ append-nil h.turns) h.pages in
    let counted : RoseBy (page_faults h.turns) faults middle = subst (λ (ts : List Turn). RoseBy (page_faults ts) faults middle) (ap (λ (ts : List Turn). h.turns ++ ts) h.behind ∙ append-nil h.turns) h.counts in
    record {
      turns = h.turns ++ k.turns;
      more = k.more;
      left = k.given;
      all_are = k.all_are;
      gains = subst (λ (ts : List Turn). GainsTurns p ts r) first (gains_more p q r h.turns (k.turns ++ k.more) gained k.gains);
      asked = subst (λ (l : List Answer). AreAsked moment (λ answers. whole_run names state request moment whole answers) (h.turns ++ k.turns) l) (sym k.all_are)
          (asked_both names (edition_of state) request moment whole (λ further. Main names (edition_of state) request moment further) h.turns k.turns had k.given response (ending_of i.task) (interp_state i) inside
          (subst (λ (l : List Answer). AreAsked moment (λ further. Main names (edition_of state) request moment further) h.turns l) had_is h.asked) main_goes k.asked);
      one_more = stand_on moment (λ further. behind names (edition_of state) moment whole request (ending_of i.task) (interp_state i) inside further) (λ answers. whole_run names state request moment whole answers) k.given all k.more came (sym whole_is) k.behind;
      pages = subst (λ (ts : List Turn). AreHeld held ts) first (held_more held h.turns (k.turns ++ k.more) paged k.pages);
      counts = subst (λ (ts : List Turn). RoseBy (page_faults ts) faults faults_after) first (rose_two h.turns (k.turns ++ k.more) faults middle faults_after counted k.counts);
      main = main;
      behind_is = whole_is;
      ended = λ outcome is. whole_is ∙ ended_at names (λ further. behind names (edition_of state) moment whole request (ending_of i.task) (interp_state i) inside further) k.given came outcome within j is k.goes;
    }

-- the reply closes by what was had when it came
closes_by : (request : Request) (number before : ℕ) (had left all : List Answer) → all ≡ had ++ left → closes (asks_close request) number (before + bytes_of had) ≡ closes (asks_close request) number (before + bytes_had all left)
closes_by request number before had left all is = ap (λ (n : ℕ). closes (asks_close request) number (before + n)) (sym (ap (λ (l : List Answer). bytes_had l left) is ∙ had_before had left))

whole_gains : (bytes : ℕ) (reply : List ℕ) (a b : Option (List ℕ)) → bytes ≡ length reply → Gains a reply b → Gains a (take bytes reply) b
whole_gains bytes reply a b is g = subst (λ (l : List ℕ). Gains a l b) (sym (ap (λ (n : ℕ). take n reply) is ∙ take-length reply)) g

pub finished : (names : List (List ℕ)) (held : Option PageMap) (state : blueprints.State) (request : Request) (moment number before bytes : ℕ) (p r : Passes) (output output_after : Option (List ℕ)) (faults faults_after steps steps_after : ℕ)
    (had all : List Answer) (response : Response) (i : Interp) (inside : ℕ) (outcome : Outcome) (j : Interp) (within : ℕ)
    → HearsBoth names held state request moment true p r faults faults_after had all response i inside (next.Ended outcome) j within → IsEnd outcome
    → bytes ≡ length (reply_for request response moment number before had) → Gains output (reply_for request response moment number before had) output_after
    → steps_after + Writes (interp_state j).made ≤ steps + (2 * Writes (interp_state j).made + within)
    → RunsRequest names held state request moment number before (sending.Whole bytes) p r output output_after faults faults_after steps steps_after all (served_outcome outcome) j
finished names held state request moment number before bytes p r output output_after faults faults_after steps steps_after had all response i inside outcome j within h end size gains paid =
    let after = h.ended outcome refl in
    record {
      course = Finished;
      turns = h.turns;
      more = h.more;
      close = closes (asks_close request) number (before + bytes_of had);
      reply = reply_for request response moment number before had;
      gains = h.gains;
      asked = h.asked;
      one_more = h.one_more;
      pages = h.pages;
      counts = h.counts;
      comes = (
        h.left,
        closes_by request number before had h.left all h.all_are,
        record {
          responds = record {
            response = response;
            ending = ending_of i.task;
            state = interp_state i;
            inside = inside;
            main = h.main;
            bytes = refl;
          };
          outcome = outcome;
          last = interp_state j;
          inside_last = within;
          after = after;
          is_end = end;
          way_is = refl;
        },
      );
      sends = size;
      writes = whole_gains bytes (reply_for request response moment number before had) output output_after size gains;
      marked = sym (ap is_marked after);
      paid = subst (λ (run : Progress). steps_after + Writes (interp_state j).made ≤ steps + run_cost run) (sym after) paid;
    }

-- memory wanted behind it
pub wants_behind : (names : List (List ℕ)) (held : Option PageMap) (state : blueprints.State) (request : Request) (moment number before bytes : ℕ) (p r : Passes) (output output_after : Option (List ℕ)) (faults faults_after steps steps_after : ℕ)
    (had all : List Answer) (response : Response) (i : Interp) (inside : ℕ) (came : Next) (j : Interp) (within : ℕ)
    → HearsBoth names held state request moment true p r faults faults_after had all response i inside came j within
    → bytes ≡ length (reply_for request response moment number before had) → Gains output (reply_for request response moment number before had) output_after
    → steps_after + Writes (interp_state j).made ≤ steps + run_cost (whole_run names state request moment true all)
    → RunsRequest names held state request moment number before (sending.Whole bytes) p r output output_after faults faults_after steps steps_after all ways.NoMemory j
wants_behind names held state request moment number before bytes p r output output_after faults faults_after steps steps_after had all response i inside came j within h size gains paid = record {
  course = WantsBehind;
  turns = h.turns;
  more = h.more;
  close = closes (asks_close request) number (before + bytes_of had);
  reply = reply_for request response moment number before had;
  gains = h.gains;
  asked = h.asked;
  one_more = lost_before moment (λ answers. whole_run names state request moment true answers) all h.more came h.one_more;
  pages = h.pages;
  counts = h.counts;
  comes = (
    h.left,
    closes_by request number before had h.left all h.all_are,
    record {
      response = response;
      ending = ending_of i.task;
      state = interp_state i;
      inside = inside;
      main = h.main;
      bytes = refl;
    },
    refl,
  );
  sends = size;
  writes = whole_gains bytes (reply_for request response moment number before had) output output_after size gains;
  marked = tt;
  paid = paid;
}

-- what a run came to behind its response, all of that
written_by : (names : List (List ℕ)) (held : Option PageMap) (state : blueprints.State) (request : Request) (moment number before bytes : ℕ) (p r : Passes) (output output_after : Option (List ℕ)) (faults faults_after steps steps_after : ℕ)
    (had all : List Answer) (response : Response) (i : Interp) (inside : ℕ) (came : Next) (j : Interp) (within : ℕ)
    → HearsBoth names held state request moment true p r faults faults_after had all response i inside came j within → IsAt came j
    → bytes ≡ length (reply_for request response moment number before had) → Gains output (reply_for request response moment number before had) output_after
    → ((outcome : Outcome) → came ≡ next.Ended outcome → steps_after + Writes (interp_state j).made ≤ steps + (2 * Writes (interp_state j).made + within))
    → (((outcome : Outcome) → came ≡ next.Ended outcome → ⊥) → steps_after + Writes (interp_state j).made ≤ steps + run_cost (whole_run names state request moment true all))
    → RunsRequest names held state request moment number before (sending.Whole bytes) p r output output_after faults faults_after steps steps_after all (way_of came) j
written_by names held state request moment number before bytes p r output output_after faults faults_after steps steps_after had all response i inside (next.Ended outcome) j within h at size gains paid lost =
    finished names held state request moment number before bytes p r output output_after faults faults_after steps steps_after had all response i inside outcome j within h at.0 size gains (paid outcome refl)
written_by names held state request moment number before bytes p r output output_after faults faults_after steps steps_after had all response i inside (next.Asks question) j within h at size gains paid lost = absurd h.one_more
written_by names held state request moment number before bytes p r output output_after faults faults_after steps steps_after had all response i inside (next.Write other) j within h at size gains paid lost =
    wants_behind names held state request moment number before bytes p r output output_after faults faults_after steps steps_after had all response i inside (next.Write other) j within h size gains (lost (λ outcome is. cc))
written_by names held state request moment number before bytes p r output output_after faults faults_after steps steps_after had all response i inside next.NoMemory j within h at size gains paid lost =
    wants_behind names held state request moment number before bytes p r output output_after faults faults_after steps steps_after had all response i inside next.NoMemory j within h size gains (lost (λ outcome is. cc))

pub written_whole : (names : List (List ℕ)) (held : Option PageMap) (state : blueprints.State) (request : Request) (moment number before bytes : ℕ) (p r : Passes) (output output_after : Option (List ℕ)) (faults faults_after steps steps_after : ℕ)
    (had all : List Answer) (response : Response) (i : Interp) (inside : ℕ) (came : Next) (j : Interp) (within : ℕ) (way : ServedOutcome)
    → HearsBoth names held state request moment true p r faults faults_after had all response i inside came j within → IsAt came j → way ≡ way_of came
    → bytes ≡ length (reply_for request response moment number before had) → Gains output (reply_for request response moment number before had) output_after
    → ((outcome : Outcome) → came ≡ next.Ended outcome → steps_after + Writes (interp_state j).made ≤ steps + (2 * Writes (interp_state j).made + within))
    → (((outcome : Outcome) → came ≡ next.Ended outcome → ⊥) → steps_after + Writes (interp_state j).made ≤ steps + run_cost (whole_run names state request moment true all))
    → RunsRequest names held state request moment number before (sending.Whole bytes) p r output output_after faults faults_after steps steps_after all way j
written_whole names held state request moment number before bytes p r output output_after faults faults_after steps steps_after had all response i inside came j within way h at is size gains paid lost =
    subst (λ (w : ServedOutcome). RunsRequest names held state request moment number before (sending.Whole bytes) p r output output_after faults faults_after steps steps_after all w j) (sym is)
    (written_by names held state request moment number before bytes p r output output_after faults faults_after steps steps_after had all response i inside came j within h at size gains paid lost)

-- ---- a fault cut the response short

end_of_both : (ending : Ending) → IsEnd (both ending answered)
end_of_both endings.Answered = tt
end_of_both endings.Spent = tt
end_of_both endings.TooDeep = tt

pub cut_short : (names : List (List ℕ)) (held : Option PageMap) (state : blueprints.State) (request : Request) (moment number before bytes : ℕ) (p q : Passes) (output output_after : Option (List ℕ)) (faults faults_after steps steps_after : ℕ)
    (known published : Option ℕ) (none had : List Answer) (response : Response) (i : Interp) (inside : ℕ) (came : Next) (j : Interp) (way : ServedOutcome) (steps_last : ℕ)
    → Hears names moment (λ further. Main names (edition_of state) request moment further) p held faults known none (next.Write response) inside i q faults_after published had → none ≡ []
    → came ≡ next.Ended (both (ending_of i.task) answered) → interp_state j ≡ interp_state i → way ≡ way_of came → steps_last ≡ steps_after
    → bytes < length (reply_for request response moment number before had) → Gains output (take bytes (reply_for request response moment number before had)) output_after
    → steps_after + Writes (interp_state i).made ≤ steps + (2 * Writes (interp_state i).made + inside)
    → RunsRequest names held state request moment number before (sending.WriteFault bytes) p q output output_after faults faults_after steps steps_last had way j
cut_short names held state request moment number before bytes p q output output_after faults faults_after steps steps_after known published none had response i inside came j way steps_last h empty is same told last size gains paid =
    let had_is : h.given ≡ had = sym (h.all_are ∙ ap (λ (l : List Answer). l ++ h.given) empty) in
    let main_goes : (left : List Answer) → Main names (edition_of state) request moment (had ++ left) ≡ writes response (ending_of i.task) (interp_state i) inside left = λ left. ap (λ (l : List Answer). Main names (edition_of state) request moment (l ++ left)) (sym had_is) ∙ h.goes left in
    let main : Main names (edition_of state) request moment had ≡ writes response (ending_of i.task) (interp_state i) inside [] = ap (λ (l : List Answer). Main names (edition_of state) request moment l) (sym (append-nil had)) ∙ main_goes [] in
    let after : whole_run names state request moment false had ≡ ends (both (ending_of i.task) answered) (interp_state i) inside [] = ap (λ (x : Progress). behind_response names (edition_of state) moment false request x) main in
    record {
      course = CutShort;
      turns = h.turns;
      more = [];
      close = closes (asks_close request) number (before + bytes_of had);
      reply = reply_for request response moment number before had;
      gains = subst (λ (ts : List Turn). GainsTurns p (h.turns ++ ts) q) h.behind h.gains;
      asked = subst (λ (ts : List Turn). AreAsked moment (λ answers. whole_run names state request moment false answers) ts had) (append-nil h.turns)
          (subst (λ (l : List Answer). AreAsked moment (λ answers. whole_run names state request moment false answers) (h.turns ++ []) l) (append-nil had)
          (asked_both names (edition_of state) request moment false (λ further. Main names (edition_of state) request moment further) h.turns [] had [] response (ending_of i.task) (interp_state i) inside
          (subst (λ (l : List Answer). AreAsked moment (λ further. Main names (edition_of state) request moment further) h.turns l) had_is h.asked) main_goes tt));
      one_more = refl;
      pages = subst (λ (ts : List Turn). AreHeld held (h.turns ++ ts)) h.behind h.pages;
      counts = subst (λ (ts : List Turn). RoseBy (page_faults (h.turns ++ ts)) faults faults_after) h.behind h.counts;
      comes = (
        [],
        closes_by request number before had [] had (sym (append-nil had)),
        record {
          responds = record {
            response = response;
            ending = ending_of i.task;
            state = interp_state i;
            inside = inside;
            main = main;
            bytes = refl;
          };
          outcome = both (ending_of i.task) answered;
          last = interp_state i;
          inside_last = inside;
          after = after;
          is_end = end_of_both (ending_of i.task);
          way_is = told ∙ ap way_of is;
        },
      );
      sends = size;
      writes = gains;
      marked = ap (λ (s : State HostState). s.host.marked) same ∙ sym (ap is_marked after);
      paid = subst (λ (n : ℕ). n + Writes (interp_state j).made ≤ steps + run_cost (whole_run names state request moment false had)) (sym last)
          (subst (λ (run : Progress). steps_after + Writes (interp_state j).made ≤ steps + run_cost run) (sym after)
          (subst (λ (s : State HostState). steps_after + Writes s.made ≤ steps + (2 * Writes (interp_state i).made + inside)) (sym same) paid));
    }

-- ---- what was heard from an interpreter

pub heard_main : (names : List (List ℕ)) (state : blueprints.State) (request : Request) (moment : ℕ) (edition : Edition) (first : Next) (inside : ℕ) (old : Interp) (p : Passes) (held : Option PageMap) (before : ℕ) (known : Option ℕ) (answers : List Answer)
    (came : Next) (within : ℕ) (new : Interp) (q : Passes) (after : ℕ) (published : Option ℕ) (all : List Answer)
    → edition ≡ edition_of state → Stands names (Main names edition request moment) first inside old [] → IsAt came new
    → Hears names moment (λ further. gives names first inside old further) p held before known answers came within new q after published all
    → Hears names moment (λ further. Main names (edition_of state) request moment further) p held before known answers came within new q after published all
heard_main names state request moment edition first inside old p held before known answers came within new q after published all is stands at h =
    subst (λ (e : Edition). Hears names moment (λ further. Main names e request moment further) p held before known answers came within new q after published all) is
    (hears_of names moment (λ further. Main names edition request moment further) first inside old p held before known answers came within new q after published all stands at h)

pub heard_behind : (names : List (List ℕ)) (state : blueprints.State) (request : Request) (moment : ℕ) (whole : Bool) (edition : Edition) (now : ℕ) (ending : Ending) (state_then : State HostState) (had : ℕ)
    (p : Passes) (held : Option PageMap) (before : ℕ) (known : Option ℕ) (answers : List Answer) (came : Next) (within : ℕ) (new : Interp) (q : Passes) (after : ℕ) (published : Option ℕ) (all : List Answer)
    → edition ≡ edition_of state → now ≡ moment
    → Hears names moment (λ further. behind names edition now whole request ending state_then had further) p held before known answers came within new q after published all
    → Hears names moment (λ further. behind names (edition_of state) moment whole request ending state_then had further) p held before known answers came within new q after published all
heard_behind names state request moment whole edition now ending state_then had p held before known answers came within new q after published all is same h =
    subst (λ (m : ℕ). Hears names moment (λ further. behind names (edition_of state) m whole request ending state_then had further) p held before known answers came within new q after published all) same
    (subst (λ (e : Edition). Hears names moment (λ further. behind names e now whole request ending state_then had further) p held before known answers came within new q after published all) is h)

-- the interpreter that was not told to go on stands where it stood
pub unwritten_same : (names : List (List ℕ)) (edition : Edition) (now : ℕ) (request : Request) (i j : Interp) (inside within : ℕ) (came : Next) → came ≡ next.Ended (both (ending_of i.task) answered)
    → Stands names (behind names edition now false request (ending_of i.task) (interp_state i) inside) came within j [] → interp_state j ≡ interp_state i
unwritten_same names edition now request i j inside within came is stands =
    let s : Stands names (behind names edition now false request (ending_of i.task) (interp_state i) inside) (next.Ended (both (ending_of i.task) answered)) within j [] =
    subst (λ (n : Next). Stands names (behind names edition now false request (ending_of i.task) (interp_state i) inside) n within j []) is stands in
    let e = s [] in cc

-- what is known of the steps at a response, of the run as far as its answers reach
pub paid_by : (names : List (List ℕ)) (held : Option PageMap) (state : blueprints.State) (request : Request) (moment : ℕ) (p q : Passes) (faults faults_after : ℕ) (known published : Option ℕ) (none had : List Answer)
    (response : Response) (i : Interp) (inside steps steps_after : ℕ)
    → Hears names moment (λ further. Main names (edition_of state) request moment further) p held faults known none (next.Write response) inside i q faults_after published had → none ≡ []
    → steps_after + Writes (interp_state i).made ≤ steps + (2 * Writes (interp_state i).made + inside)
    → steps_after + Writes (interp_state i).made ≤ steps + run_cost (Main names (edition_of state) request moment had)
paid_by names held state request moment p q faults faults_after known published none had response i inside steps steps_after h empty paid =
    let had_is : h.given ≡ had = sym (h.all_are ∙ ap (λ (l : List Answer). l ++ h.given) empty) in
    let main : Main names (edition_of state) request moment had ≡ writes response (ending_of i.task) (interp_state i) inside [] =
    ap (λ (l : List Answer). Main names (edition_of state) request moment l) (sym had_is ∙ sym (append-nil h.given)) ∙ h.goes [] in
    subst (λ (run : Progress). steps_after + Writes (interp_state i).made ≤ steps + run_cost run) (sym main) paid
