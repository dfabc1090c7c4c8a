-- What a part of the host says is what the whole host says.
use Rattle.std.proofs.Common.{◌≡◌, ℕ, ap, sym, refl, subst, List}
use Rattle.tcl_host.specs.Leaf.{Leaf, not_mine, Onward, goes, TextEnd}
use Rattle.tcl_host.specs.Answers.{Replies, RepliesTo, Ends}
use Rattle.tcl_host.specs.declared.host.HostReply.{HostReply}
use Rattle.tcl_host.specs.declared.host.HostReply.TheVariants.{Done, Ask, Enter, Define, Store, NotMine, NoMemory}
use Rattle.outside.specs.declared.question.Answer.{Answer}
use Rattle.conn_host.specs.Conns.{ConnState}
use Rattle.conn_host.specs.Leaf.{conn_call, conn_answer}
use Rattle.adp_host.specs.States.{PageState}
use Rattle.adp_host.specs.Output.{put_out}
use Rattle.adp_host.specs.Leaf.{page_call, page_onward}
use Rattle.server_host.specs.Hosts.{HostState, with_conn, with_pages}
use Rattle.server_host.specs.Parts.{in_whole, onward_in_whole, end_in_whole}
use Rattle.server_host.specs.Leaf.{of_conn, of_pages, or_of_pages, conn_answered, page_answered, host_text}

-- a reply to a command
pub lifted : {A B : Type 0} (whole : A → B) (reply : HostReply) (part : A) (leaf : Leaf A) → Replies reply part leaf → Replies reply (whole part) (in_whole whole leaf)
lifted {A = A} whole (Done code result) part leaf e = ap (λ (l : Leaf A). in_whole whole l) e
lifted {A = A} whole (Ask question) part leaf e = ap (λ (l : Leaf A). in_whole whole l) e
lifted whole (Enter pieces) part leaf e = absurd e
lifted {A = A} whole (Define def) part leaf e = ap (λ (l : Leaf A). in_whole whole l) e
lifted {A = A} whole (Store name value result) part leaf e = ap (λ (l : Leaf A). in_whole whole l) e
lifted {A = A} whole NotMine part leaf e = ap (λ (l : Leaf A). in_whole whole l) e
lifted whole NoMemory part leaf e = tt

-- a reply that is as one to a command, to an answer
pub lifted_goes : {A B : Type 0} (whole : A → B) (reply : HostReply) (part : A) (leaf : Leaf A) → Replies reply part leaf → RepliesTo reply (whole part) (goes (in_whole whole leaf))
lifted_goes {A = A} whole (Done code result) part leaf e = ap (λ (l : Leaf A). goes (in_whole whole l)) e
lifted_goes {A = A} whole (Ask question) part leaf e = ap (λ (l : Leaf A). goes (in_whole whole l)) e
lifted_goes whole (Enter pieces) part leaf e = absurd e
lifted_goes {A = A} whole (Define def) part leaf e = ap (λ (l : Leaf A). goes (in_whole whole l)) e
lifted_goes {A = A} whole (Store name value result) part leaf e = ap (λ (l : Leaf A). goes (in_whole whole l)) e
lifted_goes {A = A} whole NotMine part leaf e = ap (λ (l : Leaf A). goes (in_whole whole l)) e
lifted_goes whole NoMemory part leaf e = tt

-- a reply to an answer
pub lifted_onward : {A B : Type 0} (whole : A → B) (reply : HostReply) (part : A) (onward : Onward A) → RepliesTo reply part onward → RepliesTo reply (whole part) (onward_in_whole whole onward)
lifted_onward {A = A} whole (Done code result) part onward e = ap (λ (o : Onward A). onward_in_whole whole o) e
lifted_onward {A = A} whole (Ask question) part onward e = ap (λ (o : Onward A). onward_in_whole whole o) e
lifted_onward {A = A} whole (Enter pieces) part onward e = ap (λ (o : Onward A). onward_in_whole whole o) e
lifted_onward {A = A} whole (Define def) part onward e = ap (λ (o : Onward A). onward_in_whole whole o) e
lifted_onward {A = A} whole (Store name value result) part onward e = ap (λ (o : Onward A). onward_in_whole whole o) e
lifted_onward {A = A} whole NotMine part onward e = ap (λ (o : Onward A). onward_in_whole whole o) e
lifted_onward whole NoMemory part onward e = tt

-- a reply to a text
pub lifted_end : {A B : Type 0} (whole : A → B) (reply : HostReply) (part : A) (end : TextEnd A) → Ends reply part end → Ends reply (whole part) (end_in_whole whole end)
lifted_end {A = A} whole (Done code result) part end e = ap (λ (t : TextEnd A). end_in_whole whole t) e
lifted_end whole (Ask question) part end e = absurd e
lifted_end whole (Enter pieces) part end e = absurd e
lifted_end whole (Define def) part end e = absurd e
lifted_end whole (Store name value result) part end e = absurd e
lifted_end whole NotMine part end e = absurd e
lifted_end whole NoMemory part end e = tt

-- it is a command of the connection
pub own : (words : List (List ℕ)) (reply : HostReply) (host : HostState) (leaf : Leaf HostState) → (reply ≡ NotMine → ⊥) → Replies reply host leaf
    → Replies reply host (or_of_pages words leaf)
own words (Done code result) host leaf other e = ap (λ (l : Leaf HostState). or_of_pages words l) e
own words (Ask question) host leaf other e = ap (λ (l : Leaf HostState). or_of_pages words l) e
own words (Enter pieces) host leaf other e = absurd e
own words (Define def) host leaf other e = ap (λ (l : Leaf HostState). or_of_pages words l) e
own words (Store name value result) host leaf other e = ap (λ (l : Leaf HostState). or_of_pages words l) e
own words NotMine host leaf other e = absurd (other refl)
own words NoMemory host leaf other e = tt

-- it is none, and the host of pages is called
pub theirs : (words : List (List ℕ)) (reply : HostReply) (host later : HostState) (leaf : Leaf HostState) → leaf ≡ not_mine host
    → Replies reply later (of_pages words host) → Replies reply later (or_of_pages words leaf)
theirs words reply host later leaf e h =
    subst (λ (l : Leaf HostState). Replies reply later l) (sym (ap (λ (l : Leaf HostState). or_of_pages words l) e)) h

-- ---- what a part of a host says, said of the host as it was before

pub conn_called : (before now : HostState) → before ≡ now → (words : List (List ℕ)) (reply : HostReply) (conn : ConnState) → Replies reply conn (conn_call words before.conn)
    → Replies reply (with_conn before conn) (of_conn words now)
conn_called before now e words reply conn h =
    subst (λ (host : HostState). Replies reply (with_conn before conn) (of_conn words host)) e (lifted (with_conn before) reply conn (conn_call words before.conn) h)

pub pages_called : (before now : HostState) → before ≡ now → (words : List (List ℕ)) (reply : HostReply) (pages : PageState) → Replies reply pages (page_call words before.pages)
    → Replies reply (with_pages before pages) (of_pages words now)
pages_called before now e words reply pages h =
    subst (λ (host : HostState). Replies reply (with_pages before pages) (of_pages words host)) e (lifted (with_pages before) reply pages (page_call words before.pages) h)

pub conn_told : (before now : HostState) → before ≡ now → (words : List (List ℕ)) (answer : Answer) (reply : HostReply) (conn : ConnState)
    → Replies reply conn (conn_answer words answer before.conn) → RepliesTo reply (with_conn before conn) (conn_answered words answer now)
conn_told before now e words answer reply conn h =
    subst (λ (host : HostState). RepliesTo reply (with_conn before conn) (conn_answered words answer host)) e (lifted_goes (with_conn before) reply conn (conn_answer words answer before.conn) h)

pub pages_told : (before now : HostState) → before ≡ now → (words : List (List ℕ)) (answer : Answer) (reply : HostReply) (pages : PageState)
    → RepliesTo reply pages (page_onward words answer before.pages) → RepliesTo reply (with_pages before pages) (page_answered words answer now)
pages_told before now e words answer reply pages h =
    subst (λ (host : HostState). RepliesTo reply (with_pages before pages) (page_answered words answer host)) e (lifted_onward (with_pages before) reply pages (page_onward words answer before.pages) h)

pub text_taken : (before now : HostState) → before ≡ now → (piece : List ℕ) (reply : HostReply) (pages : PageState) → Ends reply pages (put_out piece before.pages)
    → Ends reply (with_pages before pages) (host_text piece now)
text_taken before now e piece reply pages h =
    subst (λ (host : HostState). Ends reply (with_pages before pages) (host_text piece host)) e (lifted_end (with_pages before) reply pages (put_out piece before.pages) h)
