-- What a request goes through, as it is entered.
use Rattle.std.proofs.Common.{◌≡◌, ℕ, List, [], sym, subst, ap, ◌∙◌, Bool, Option, None}
use Rattle.cmd_table.specs.declared.definition.Def.{Def}
use Rattle.cmd_table.specs.declared.definition.When.{When}
use Rattle.cmd_table.specs.declared.definition.When.TheVariants.{Preauth, Postauth, Trace}
use Rattle.url_tables.specs.Serving.{route}
use Rattle.url_tables.specs.Filters.{Filters}
use Rattle.http_req.specs.declared.request.Request.{Request}
use Rattle.conn_host.specs.RequestCommands.{path_of}
use Rattle.outside.specs.declared.question.Answer.{Answer}
use Rattle.server_host.specs.declared.edition.Edition.{Edition}
use Rattle.server_host.specs.Hosts.{HostState}
use Rattle.tcl_eval.specs.State.{State}
use Rattle.ictl.specs.Settle.{Account}
use Rattle.ictl.specs.Main.{serve, filters_from, authorise, authorised, unauthorised, visited}
use Rattle.ictl.specs.Visits.{calls_of, filter_calls, authorisation, serving_by, no_visit, filtered, visit_by}
use Rattle.ictl.specs.declared.visit.Serving.{Serving}
use Rattle.ictl.specs.declared.visit.Visit.{Visit}

-- where there are no filters, there are no calls of them
pub no_filters : (visit : Visit) (request : Request) (made : List Def) → visit ≡ no_visit → ((when : When) (method path : List ℕ) → Filters when method path made ≡ [])
    → visit ≡ filtered request made visit
no_filters visit request made is none =
    subst (λ (v : Visit). v ≡ filtered request made v) (sym is)
    (ap (λ (l : List (List (List ℕ))). let v : Visit = record no_visit { preauth = calls_of Preauth l } in v) (sym (none Preauth request.method (path_of request)))
    ∙ ap (λ (l : List (List (List ℕ))). let v : Visit = record no_visit { preauth = filter_calls Preauth request made; postauth = calls_of Postauth l } in v) (sym (none Postauth request.method (path_of request)))
    ∙ ap (λ (l : List (List (List ℕ))). let v : Visit = record no_visit { preauth = filter_calls Preauth request made; postauth = filter_calls Postauth request made; trace = calls_of Trace l } in v)
    (sym (none Trace request.method (path_of request))))

-- behind the calls of filters, that of the authorisation and what serves
pub entered : (between old : Visit) (request : Request) (made : List Def) (authorised : Bool) (call : Option (List (List ℕ))) (serving : Serving)
    → between ≡ filtered request made old → call ≡ authorisation authorised request → serving ≡ serving_by (route made request.method request.segments) request
    → (let v : Visit = record between { authorisation = call; serving = serving } in v) ≡ visit_by authorised request made
entered between old request made authorised call serving is called serves =
    ap (λ (v : Visit). let w : Visit = record v { authorisation = call; serving = serving } in w) is
    ∙ ap (λ (c : Option (List (List ℕ))). let w : Visit = record (visit_by authorised request made) { authorisation = c; serving = serving } in w) called
    ∙ ap (λ (s : Serving). let w : Visit = record (visit_by authorised request made) { serving = s } in w) serves

-- where nothing is called before what serves, a request is served at once
pub plainly_visited : (names : List (List ℕ)) (blueprint : Edition) (moment : ℕ) (visit : Visit) (state : State HostState) (account : Account) (further : List Answer)
    → visit.preauth ≡ [] → visit.authorisation ≡ None → visit.postauth ≡ []
    → serve names blueprint moment visit.serving state account further ≡ visited names blueprint moment visit state account further
plainly_visited names blueprint moment visit state account further first call second =
    sym (ap (λ (l : List (List (List ℕ))). filters_from names blueprint moment l (unauthorised names blueprint moment visit) state account further) first
    ∙ ap (λ (c : Option (List (List ℕ))). authorise names blueprint moment c (authorised names blueprint moment visit) state account further) call
    ∙ ap (λ (l : List (List (List ℕ))). filters_from names blueprint moment l (serve names blueprint moment visit.serving) state account further) second)
