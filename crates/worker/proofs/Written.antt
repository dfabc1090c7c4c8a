-- A request whose response was written whole, and what comes behind it.
use Rattle.std.proofs.Common.{◌≡◌, ℕ, ◌+◌, ◌-◌, ◌≤◌, Bool, true, List, [], length, Option, sym, subst, ap, ◌∙◌}
use Rattle.txt_core.specs.Names.{Names}
use Rattle.outside.specs.Paging.{PageMap}
use Rattle.outside.specs.Writing.{Gains}
use Rattle.outside.specs.declared.question.Answer.{Answer}
use Rattle.outside.specs.declared.sending.Sent.TheVariants as sending
use Rattle.cmd_table.specs.Commands.{Writes}
use Rattle.http_req.specs.declared.request.Request.{Request}
use Rattle.http_resp.specs.declared.response.Response.{Response}
use Rattle.http_resp.specs.ResponseBytes.{response_bytes}
use Rattle.server_host.specs.declared.edition.Edition.{Edition}
use Rattle.blueprint.specs.States as blueprints
use Rattle.serving.specs.Connections.{asks_close, is_head_only, closes}
use Rattle.ictl.specs.Came.{Came}
use Rattle.ictl.specs.Falls.{StandsAt}
use Rattle.ictl.specs.Interps.{taken, gives, ending_of, interp_state, interp_written, Counts, IsSameRun, IsSound}
use Rattle.ictl.specs.Main.{Progress, Main, behind}
use Rattle.ictl.specs.Visits.{visit_of}
use Rattle.ictl.specs.declared.interp.Interp.{Interp}
use Rattle.ictl.specs.declared.next.Next.{Next}
use Rattle.ictl.specs.declared.next.Next.TheVariants as next
use Rattle.shared_state.specs.declared.shared.Passes.{Passes}
use Rattle.worker.specs.Asking.{Hears}
use Rattle.worker.specs.Beginning.{BeginsRequest}
use Rattle.worker.specs.Behind.{behind_at, IsAtResponseTo, RunsBehind}
use Rattle.worker.specs.Clean.{edition_in}
use Rattle.worker.specs.Cost.{run_cost}
use Rattle.worker.specs.Items.{bytes_of}
use Rattle.worker.specs.Runs.{edition_of, whole_run}
use Rattle.worker.specs.Working.{RunsRequest, way_of}
use Rattle.worker.specs.declared.served.ServedOutcome.{ServedOutcome}
use Rattle.worker.proofs.Paying.{new_alone, writing_alone, ended_alone, paid_twice}
use Rattle.worker.proofs.Hearing.{begun}
use Rattle.worker.proofs.Requests.{reply_for, heard_main, heard_behind, hears_both, written_whole}
use Rattle.worker.proofs.Within.{cost_behind, within_left}

-- what the whole run costs, from what comes behind its response
cost_whole : (names : List (List ℕ)) (state : blueprints.State) (request : Request) (moment : ℕ) (edition : Edition) (now : ℕ) (i j : Interp) (inside before after : ℕ) (all left : List Answer)
    → edition ≡ edition_of state → now ≡ moment
    → whole_run names state request moment true all ≡ behind names (edition_of state) moment true request (ending_of i.task) (interp_state i) inside left
    → after + Writes (interp_state j).made ≤ before + run_cost (behind names edition now true request (ending_of i.task) (interp_state i) inside left)
    → after + Writes (interp_state j).made ≤ before + run_cost (whole_run names state request moment true all)
cost_whole names state request moment edition now i j inside before after all left is same whole paid =
    subst (λ (run : Progress). after + Writes (interp_state j).made ≤ before + run_cost run) (sym whole)
    (subst (λ (m : ℕ). after + Writes (interp_state j).made ≤ before + run_cost (behind names (edition_of state) m true request (ending_of i.task) (interp_state i) inside left)) same
    (subst (λ (e : Edition). after + Writes (interp_state j).made ≤ before + run_cost (behind names e now true request (ending_of i.task) (interp_state i) inside left)) is paid))

-- a request was run up to its response and behind it, from s0 steps on: with s1 when it was begun, s2 at its response, s4 at its end
ran_behind : (names : List (List ℕ)) (held : Option PageMap) (state : blueprints.State) (request : Request) (moment number before bytes : ℕ) (p q r : Passes) (output output_after : Option (List ℕ))
    (f0 f1 f2 s0 s1 s2 s4 w0 w1 : ℕ) (known noted published : Option ℕ) (none had all : List Answer) (response : Response) (came last : Came) (way : ServedOutcome)
    → Hears names moment (λ further. Main names (edition_of state) request moment further) p held f0 known none (next.Write response)
    (((s1 + w0) - (s0 + w1)) + ((s2 + w1) - (s1 + interp_written names came.interp))) came.interp q f1 noted had
    → none ≡ [] → IsAtResponseTo names request came.interp → edition_in came.interp ≡ edition_of state → came.interp.moment ≡ moment
    → RunsBehind names moment held came last q r f1 f2 noted published had all s2 s4 → way ≡ way_of last.next
    → bytes ≡ length (reply_for request response moment number before had) → Gains output (reply_for request response moment number before had) output_after
    → w0 ≡ 0 → s0 + w1 ≤ s1 + w0 → s1 + interp_written names came.interp ≤ s2 + w1
    → RunsRequest names held state request moment number before (sending.Whole bytes) p r output output_after f0 f2 s0 s4 all way last.interp
ran_behind names held state request moment number before bytes p q r output output_after f0 f1 f2 s0 s1 s2 s4 w0 w1 known noted published none had all response came last way written empty responds edition now runs told size gains fresh first second =
    let i = came.interp in
    let j = last.interp in
    let w2 = interp_written names i in
    let w4 = interp_written names j in
    let made = Writes (interp_state i).made in
    let inside = ((s1 + w0) - (s0 + w1)) + ((s2 + w1) - (s1 + w2)) in
    let within = inside + taken names s4 s2 j i in
    let heard : Hears names moment (λ further. behind names (edition_of state) moment true request (ending_of i.task) (interp_state i) inside further) q held f1 noted had last.next within j r f2 published all =
    heard_behind names state request moment true (edition_in i) i.moment (ending_of i.task) (interp_state i) inside q held f1 noted had last.next within j r f2 published all edition now (runs.hears request inside responds) in
    let both = hears_both names held state request moment true p q r f0 f1 f2 known noted noted published none had all response i inside last.next j within written empty heard in
    written_whole names held state request moment number before bytes p r output output_after f0 f2 s0 s4 had all response i inside last.next j within way both runs.stands told size gains
    (λ outcome end. paid_twice s0 s1 s2 s4 w0 w1 w2 w4 (Writes (interp_state j).made) fresh
    (ended_alone names outcome j (subst (λ (n : Next). StandsAt n j) end runs.stands)) first second runs.counts)
    (λ other. cost_whole names state request moment (edition_in i) i.moment i j inside s0 s4 all both.left edition now both.behind_is
    (cost_behind j (behind_at names request i inside both.left) s0 s1 s2 s4 w0 w1 w2 made fresh (writing_alone names i responds.2) first second
    (within_left names (λ further. behind_at names request i inside further) had both.left last.next within j all (inside + made) s2 s4 (runs.within request inside responds) both.all_are)))

-- what stands at a response doesn't want memory
not_wanting : (now : Next) (response : Response) → now ≡ next.Write response → now ≡ next.NoMemory → ⊥
not_wanting now response is none = let e : next.Write response ≡ next.NoMemory = sym is ∙ none in cc

-- a run that began for a request stands at its response
at_response : (names : List (List ℕ)) (request : Request) (moment s0 s1 : ℕ) (response : Response) (old : Interp) (first came : Came)
    → BeginsRequest names request moment first.next s0 s1 first.interp old
    → (first.interp.visit ≡ visit_of names (edition_in old) request) × (first.interp.moment ≡ moment)
    → IsSameRun came.interp first.interp → edition_in came.interp ≡ edition_in first.interp → ((others : Names) → IsSound others first.interp → IsSound others came.interp)
    → StandsAt came.next came.interp → came.next ≡ next.Write response → IsAtResponseTo names request came.interp
at_response names request moment s0 s1 response old first came began visited same blueprint sound stands is =
    let edition : edition_in came.interp ≡ edition_in old = blueprint ∙ began.blueprint in
    let visit : came.interp.visit ≡ visit_of names (edition_in came.interp) request =
    same.visit ∙ (visited.0 ∙ ap (λ (e : Edition). visit_of names e request) (sym edition)) in
    (sound names (began.sound names began.fresh.0), visit, subst (λ (n : Next). StandsAt n came.interp) is stands)

-- A request was run from its beginning on, in an interpreter as newly made: up to its response, which was written whole, and behind it.
pub ran_whole : (names : List (List ℕ)) (held held_then : Option PageMap) (state : blueprints.State) (request : Request) (moment number before bytes : ℕ) (asks head : Bool) (p q r : Passes)
    (output output_after : Option (List ℕ)) (f0 f1 f2 s0 s1 s2 s4 : ℕ) (known noted published : Option ℕ) (none had all : List Answer) (response : Response) (old : Interp) (first came last : Came) (way : ServedOutcome)
    → BeginsRequest names request moment first.next s0 s1 first.interp old
    → Hears names moment (λ further. gives names first.next (taken names s1 s0 first.interp old) first.interp further) p held f0 known none came.next
    (taken names s1 s0 first.interp old + taken names s2 s1 came.interp first.interp) came.interp q f1 noted had
    → Counts names s2 s1 came.interp first.interp → IsSameRun came.interp first.interp → edition_in came.interp ≡ edition_in first.interp
    → ((others : Names) → IsSound others first.interp → IsSound others came.interp)
    → StandsAt came.next came.interp → came.next ≡ next.Write response
    → edition_in old ≡ edition_of state → asks ≡ asks_close request → head ≡ is_head_only request → none ≡ [] → held_then ≡ held
    → RunsBehind names moment held_then came last q r f1 f2 noted published had all s2 s4 → way ≡ way_of last.next
    → bytes ≡ length (response_bytes response moment head (closes asks number (before + bytes_of had)))
    → Gains output (response_bytes response moment head (closes asks number (before + bytes_of had))) output_after
    → RunsRequest names held state request moment number before (sending.Whole bytes) p r output output_after f0 f2 s0 s4 all way last.interp
ran_whole names held held_then state request moment number before bytes asks head p q r output output_after f0 f1 f2 s0 s1 s2 s4 known noted published none had all response old first came last way
    began heard counts same blueprint sound stands is of by_asks by_head empty held_is runs told size gains =
    let i = came.interp in
    let inside = taken names s1 s0 first.interp old in
    let within = inside + taken names s2 s1 i first.interp in
    let main : Hears names moment (λ further. Main names (edition_of state) request moment further) p held f0 known none came.next within i q f1 noted had =
    heard_main names state request moment (edition_in old) first.next inside first.interp p held f0 known none came.next within i q f1 noted had of began.stands.stands stands heard in
    let written : Hears names moment (λ further. Main names (edition_of state) request moment further) p held f0 known none (next.Write response) within i q f1 noted had =
    subst (λ (n : Next). Hears names moment (λ further. Main names (edition_of state) request moment further) p held f0 known none n within i q f1 noted had) is main in
    let visited : (first.interp.visit ≡ visit_of names (edition_in old) request) × (first.interp.moment ≡ moment) =
    begun names moment ((first.interp.visit ≡ visit_of names (edition_in old) request) × (first.interp.moment ≡ moment)) first.next inside first.interp p held f0 known none came.next within i q f1 noted had
    began.visit stands (not_wanting came.next response is) heard in
    let reply : response_bytes response moment head (closes asks number (before + bytes_of had)) ≡ reply_for request response moment number before had =
    λ k. response_bytes response moment (by_head k) (closes (by_asks k) number (before + bytes_of had)) in
    ran_behind names held state request moment number before bytes p q r output output_after f0 f1 f2 s0 s1 s2 s4 (interp_written names old) (interp_written names first.interp) known noted published none had all response came last way
    written empty (at_response names request moment s0 s1 response old first came began visited same blueprint sound stands is) (blueprint ∙ (began.blueprint ∙ of)) (same.moment ∙ visited.1)
    (subst (λ (h : Option PageMap). RunsBehind names moment h came last q r f1 f2 noted published had all s2 s4) held_is runs) told
    (subst (λ (l : List ℕ). bytes ≡ length l) reply size) (subst (λ (l : List ℕ). Gains output l output_after) reply gains)
    (new_alone names old began.fresh) began.counts counts
