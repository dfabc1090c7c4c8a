-- First pages.
use Rattle.std.proofs.Common.{◌≡◌, ℕ, List, ◌∷◌, refl, sym, subst, ap, ◌∙◌, Result, Ok, Err}
use Rattle.outside.specs.declared.question.Answer.{Answer}
use Rattle.tcl_host.specs.Leaf.{Leaf, says, wants, defines, stores, not_mine, Onward, goes, enters}
use Rattle.tcl_host.specs.PagePaths.{page_path}
use Rattle.tcl_host.specs.Pages.{page_told}
use Rattle.tcl_host.specs.Answers.{RepliesTo}
use Rattle.tcl_host.specs.declared.host.HostReply.{HostReply}
use Rattle.tcl_host.specs.declared.host.HostReply.TheVariants as replies
use Rattle.adp_host.specs.Includes.{told_page}
use Rattle.server_host.specs.declared.edition.Edition.{Edition}
use Rattle.server_host.specs.Hosts.{HostState, with_pages}
use Rattle.server_host.specs.Parts.{onward_in_whole}
use Rattle.server_host.specs.Leaf.{host_table}
use Rattle.tcl_eval.specs.State.{State}
use Rattle.tcl_eval.specs.Eval.{with_host}
use Rattle.tcl_eval.specs.Engine.{at_global, IsNoPage}
use Rattle.tcl_eval.specs.declared.outcome.Work.{Work}
use Rattle.http_resp.specs.declared.response.Response.{Response}
use Rattle.ictl.specs.Settle.{Account, account_of}
use Rattle.ictl.specs.Main.{page_question, page_words, page_entered, page_end, main_on, runs, writes, responds, unentered}
use Rattle.ictl.specs.Steps.{asked_path, EntersNone, EntersBy}
use Rattle.ictl.specs.Interps.{interp_state, asking_gives}
use Rattle.ictl.specs.Falls.{IsReady}
use Rattle.ictl.specs.declared.ending.Ending.TheVariants.{Answered}
use Rattle.ictl.specs.declared.settling.Settling.{Settling}
use Rattle.ictl.specs.declared.task.Task.{Task}
use Rattle.ictl.specs.declared.task.Task.TheVariants.{PageAsked}
use Rattle.ictl.specs.declared.interp.Interp.{Interp}

-- the host behind what a host says of an answer
abbrev host_behind : Onward HostState → HostState → HostState
host_behind (goes (says code result host)) old = host
host_behind (goes (wants question host)) old = host
host_behind (goes (defines def host)) old = host
host_behind (goes (stores name value result host)) old = host
host_behind (goes (not_mine host)) old = host
host_behind (enters pieces host) old = old

told_unchanged : (path : List ℕ) (told : Result (List ℕ) (List ℕ)) (host : HostState)
    → host_behind (onward_in_whole (with_pages host) (told_page (page_words path) told host.pages)) host ≡ host
told_unchanged path (Ok page) host = refl
told_unchanged path (Err message) host = refl

-- an answer that doesn't enter a first page leaves the host
unchanged : (path : List ℕ) (answer : Answer) (host : HostState) → host_behind (host_table.answers (page_words path) answer host) host ≡ host
unchanged path answer host = told_unchanged path (page_told (page_path path) answer) host

-- what comes of a reply that doesn't enter it
pub record Refused (names : List (List ℕ)) (blueprint : Edition) (moment : ℕ) (path : List ℕ) (answer : Answer) (host new : HostState) : Type 0 where
  pub same : new ≡ host
  pub gives : (state : State HostState) (account : Account) (left : List Answer)
      → page_entered names blueprint moment answer (host_table.answers (page_words path) answer host) state account left ≡ responds (unentered answer) state account left

module _ (names : List (List ℕ)) (blueprint : Edition) (moment : ℕ) (path : List ℕ) (answer : Answer) (host new : HostState) where
  by_leaf : (leaf : Leaf HostState) → host_behind (goes leaf) host ≡ new → host_table.answers (page_words path) answer host ≡ goes leaf → Refused names blueprint moment path answer host new
  by_leaf leaf behind is = record {
    same = sym behind ∙ sym (ap (λ (o : Onward HostState). host_behind o host) is) ∙ unchanged path answer host;
    gives = λ state account left. ap (λ (o : Onward HostState). page_entered names blueprint moment answer o state account left) is;
  }

  pub refused : (reply : HostReply) → EntersNone reply → RepliesTo reply new (host_table.answers (page_words path) answer host) → Refused names blueprint moment path answer host new
  refused (replies.Done code result) none is = by_leaf (says code result new) refl is
  refused (replies.Ask question) none is = by_leaf (wants question new) refl is
  refused (replies.Enter pieces) none is = absurd none.0
  refused (replies.Define def) none is = by_leaf (defines def new) refl is
  refused (replies.Store name value result) none is = by_leaf (stores name value result new) refl is
  refused replies.NotMine none is = by_leaf (not_mine new) refl is
  refused replies.NoMemory none is = absurd (none.1 refl)

-- a reply that is neither enters no page
no_page : (reply : HostReply) → ((pieces : _) → reply ≡ replies.Enter pieces → ⊥) → IsNoPage reply
no_page (replies.Done code result) enter = tt
no_page (replies.Ask question) enter = tt
no_page (replies.Enter pieces) enter = absurd (enter pieces refl)
no_page (replies.Define def) enter = tt
no_page (replies.Store name value result) enter = tt
no_page replies.NotMine enter = tt
no_page replies.NoMemory enter = tt

pub enters_none : (reply : HostReply) → ((pieces : _) → reply ≡ replies.Enter pieces → ⊥) → (reply ≡ replies.NoMemory → ⊥) → EntersNone reply
enters_none reply enter wants_memory = (no_page reply enter, wants_memory)

-- a script may begin with the budget that the task has
pub ready_asked : (task : Task) (path other : List ℕ) (budget left : ℕ) (s : Settling) → task ≡ PageAsked path budget → IsReady budget s → task ≡ PageAsked other left → IsReady left s
ready_asked task path other budget left s is ready at = let same : budget ≡ left = cc in subst (λ (n : ℕ). IsReady n s) same ready

module _ (names : List (List ℕ)) (old : Interp) (words : List (List ℕ)) (answer : Answer) (host : HostState) (budget inside : ℕ) (further : List Answer) where
  -- what comes of an answer for the first page that is asked for
  page_answered : words ≡ page_words (asked_path old.task) → old.task ≡ PageAsked (asked_path old.task) budget
      → page_entered names old.blueprint.value old.moment answer (host_table.answers words answer old.settling.run.engine.host) (interp_state old) (account_of budget old.settling.questions inside) further
      ≡ asking_gives names (page_question (asked_path old.task)) old.task inside old (answer ∷ further)
  page_answered worded at =
      ap (λ (w : List (List ℕ)). page_entered names old.blueprint.value old.moment answer (host_table.answers w answer old.settling.run.engine.host) (interp_state old) (account_of budget old.settling.questions inside) further) worded
      ∙ sym (ap (λ (t : Task). asking_gives names (page_question (asked_path old.task)) t inside old (answer ∷ further)) at)

  -- it enters the page
  pub entered_gives : (reply : HostReply) (work : Work) → EntersBy work reply → RepliesTo reply host (host_table.answers words answer old.settling.run.engine.host)
      → words ≡ page_words (asked_path old.task) → old.task ≡ PageAsked (asked_path old.task) budget
      → main_on (runs names old.blueprint.value old.moment work (at_global (with_host (interp_state old) host)) (account_of budget old.settling.questions inside) further) page_end
      ≡ asking_gives names (page_question (asked_path old.task)) old.task inside old (answer ∷ further)
  entered_gives (replies.Done code result) work by replied worded at = absurd by
  entered_gives (replies.Ask question) work by replied worded at = absurd by
  entered_gives (replies.Enter pieces) work by replied worded at =
      ap (λ (w : Work). main_on (runs names old.blueprint.value old.moment w (at_global (with_host (interp_state old) host)) (account_of budget old.settling.questions inside) further) page_end) by
      ∙ sym (ap (λ (o : Onward HostState). page_entered names old.blueprint.value old.moment answer o (interp_state old) (account_of budget old.settling.questions inside) further) replied)
      ∙ page_answered worded at
  entered_gives (replies.Define def) work by replied worded at = absurd by
  entered_gives (replies.Store name value result) work by replied worded at = absurd by
  entered_gives replies.NotMine work by replied worded at = absurd by
  entered_gives replies.NoMemory work by replied worded at = absurd by

  -- or it doesn't, and the response says so
  pub refused_gives : (reply : HostReply) (response : Response) → EntersNone reply
      → RepliesTo reply host (host_table.answers words answer old.settling.run.engine.host) → response ≡ unentered answer
      → words ≡ page_words (asked_path old.task) → old.task ≡ PageAsked (asked_path old.task) budget
      → writes response Answered (with_host (interp_state old) host) inside further ≡ asking_gives names (page_question (asked_path old.task)) old.task inside old (answer ∷ further)
  refused_gives reply response none replied responded worded at =
      let gone : Refused names old.blueprint.value old.moment (asked_path old.task) answer old.settling.run.engine.host host =
      refused names old.blueprint.value old.moment (asked_path old.task) answer old.settling.run.engine.host host reply none
      (subst (λ (w : List (List ℕ)). RepliesTo reply host (host_table.answers w answer old.settling.run.engine.host)) worded replied) in
      ap (λ (r : Response). writes r Answered (with_host (interp_state old) host) inside further) responded
      ∙ ap (λ (h : HostState). writes (unentered answer) Answered (with_host (interp_state old) h) inside further) gone.same
      ∙ sym (gone.gives (interp_state old) (account_of budget old.settling.questions inside) further)
      ∙ sym (ap (λ (t : Task). asking_gives names (page_question (asked_path old.task)) t inside old (answer ∷ further)) at)
