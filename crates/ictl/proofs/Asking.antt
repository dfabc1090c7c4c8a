-- What a run may still ask.
use Rattle.std.proofs.Common.{◌≡◌, ℕ, ◌+◌, ◌<◌, List, [], ◌∷◌, ◌++◌, length, length-append, refl, ap, subst, ◌∙◌, arith, Bool, true, false, Result, Ok, Err, count_by, is_some}
use Rattle.std.specs.Prelude.{nat_lt, if◌then◌else◌, bytes_eq, codes}
use Rattle.std.proofs.lemmas.Bool.Decides.{nat_tests}
use Rattle.txt_core.specs.Limits.{bucket_count}
use Rattle.natives.specs.Words.{arg}
use Rattle.outside.specs.declared.question.Answer.{Answer}
use Rattle.outside.specs.declared.question.Answer.TheVariants.{Said, Failed, Page, NoPage, PageFault}
use Rattle.outside.specs.declared.question.Question.{Question}
use Rattle.tcl_host.specs.Leaf.{Leaf, says, wants, defines, stores, not_mine, Onward, goes, enters}
use Rattle.tcl_host.specs.PagePaths.{page_path}
use Rattle.tcl_host.specs.Pages.{page_told}
use Rattle.conn_host.specs.Conns.{ConnState}
use Rattle.conn_host.specs.Checks.{given}
use Rattle.conn_host.specs.ChannelCommands as channels
use Rattle.conn_host.specs.Leaf.{conn_answer}
use Rattle.adp_host.specs.States.{PageState}
use Rattle.adp_host.specs.Includes as includes
use Rattle.adp_host.specs.Leaf.{page_onward}
use Rattle.server_host.specs.Hosts.{HostState, with_conn, with_pages, with_gathered}
use Rattle.server_host.specs.Parts.{in_whole, onward_in_whole}
use Rattle.server_host.specs.Sharing.{ungathered, names_question, all_names, names_end, names_answered}
use Rattle.server_host.specs.Leaf.{host_table, said, conn_answered, page_answered}

-- ---- who asks

-- a reply that asks
abbrev asks : {A : Type 0} → Leaf A → Bool
asks (says code result host) = false
asks (wants question host) = true
asks (defines def host) = false
asks (stores name value result host) = false
asks (not_mine host) = false

abbrev onward_asks : {A : Type 0} → Onward A → Bool
onward_asks (goes leaf) = asks leaf
onward_asks (enters pieces host) = false

whole_asks : {A B : Type 0} (whole : A → B) (leaf : Leaf A) → asks (in_whole whole leaf) ≡ asks leaf
whole_asks whole (says code result host) = refl
whole_asks whole (wants question host) = refl
whole_asks whole (defines def host) = refl
whole_asks whole (stores name value result host) = refl
whole_asks whole (not_mine host) = refl

onward_whole_asks : {A B : Type 0} (whole : A → B) (onward : Onward A) → onward_asks (onward_in_whole whole onward) ≡ onward_asks onward
onward_whole_asks whole (goes leaf) = whole_asks whole leaf
onward_whole_asks whole (enters pieces host) = refl

either_asks : {A : Type 0} (t : Bool) (x y : Leaf A) → asks x ≡ false → asks y ≡ false → asks (if t then x else y) ≡ false
either_asks true x y p q = p
either_asks false x y p q = q

either_onward : {A : Type 0} (t : Bool) (x y : Onward A) → onward_asks x ≡ false → onward_asks y ≡ false → onward_asks (if t then x else y) ≡ false
either_onward true x y p q = p
either_onward false x y p q = q

-- `open` asks once
channel_opens : (told : Result (List ℕ) (List ℕ)) (conn : ConnState) → asks (given told channels.opens conn) ≡ false
channel_opens (Ok page) conn = either_asks (nat_lt (count_by (is_some {T = List ℕ}) conn.channels) channels.most_open) _ _ refl refl
channel_opens (Err message) conn = refl

channel_asks : (words : List (List ℕ)) (answer : Answer) (conn : ConnState) → asks (channels.page_answered words answer conn) ≡ false
channel_asks words answer conn = channel_opens (page_told (arg words 1) answer) conn

conn_asks : (words : List (List ℕ)) (answer : Answer) (conn : ConnState) → asks (conn_answer words answer conn) ≡ false
conn_asks words answer conn = either_asks (bytes_eq (arg words 0) (codes "open")) _ _ (channel_asks words answer conn) refl

-- `ns_adp_include` asks once
include_enters : (words : List (List ℕ)) (told : Result (List ℕ) (List ℕ)) (pages : PageState) → onward_asks (includes.told_page words told pages) ≡ false
include_enters words (Ok page) pages = refl
include_enters words (Err message) pages = refl

include_asks : (words : List (List ℕ)) (answer : Answer) (pages : PageState) → onward_asks (includes.page_answered words answer pages) ≡ false
include_asks words answer pages = include_enters words (page_told (page_path (arg words 1)) answer) pages

pages_ask : (words : List (List ℕ)) (answer : Answer) (pages : PageState) → onward_asks (page_onward words answer pages) ≡ false
pages_ask words answer pages = either_onward (bytes_eq (arg words 0) (codes "ns_adp_include")) _ _ (include_asks words answer pages) refl

said_asks : (answer : Answer) (host : HostState) → asks (said answer host) ≡ false
said_asks (Said text) host = refl
said_asks (Failed why) host = refl
said_asks (Page page) host = refl
said_asks NoPage host = refl
said_asks PageFault host = refl

-- ---- `nsv_names`

-- one more answer was gathered, and a bucket is left to be asked
pub record Gathered (host new : HostState) : Type 0 where
  pub more : length host.gathered < length new.gathered
  pub within : length new.gathered < bucket_count

ends_ask : (all : Result (List (List ℕ)) ℕ) (host : HostState) → asks (names_end all host) ≡ false
ends_ask (Ok names) host = refl
ends_ask (Err place) host = refl

no_question : {A : Type 0} (leaf : Leaf A) (question : Question) (new : A) → asks leaf ≡ false → leaf ≡ wants question new → ⊥
no_question {A = A} leaf question new none e = let yes : asks leaf ≡ true = ap (λ (l : Leaf A). asks l) e in cc

next_gathers : (words : List (List ℕ)) (text : List ℕ) (host new : HostState) (question : Question) (t : Bool)
    → nat_lt (length (host.gathered ++ text ∷ [])) bucket_count ≡ t
    → (if t then wants (names_question words (length (host.gathered ++ text ∷ []))) (with_gathered host (host.gathered ++ text ∷ []))
    else names_end (all_names (host.gathered ++ text ∷ [])) (ungathered host)) ≡ wants question new
    → Gathered host new
next_gathers words text host new question true test e =
    let same : with_gathered host (host.gathered ++ text ∷ []) ≡ new = cc e in
    let longer : length (host.gathered ++ text ∷ []) ≡ length host.gathered + 1 = length-append host.gathered (text ∷ []) in
    let less : length (host.gathered ++ text ∷ []) < bucket_count = grind (arith, nat_tests) in
    subst (Gathered host) same (record { more = omega (arith, longer); within = less })
next_gathers words text host new question false test e =
    absurd (no_question (names_end (all_names (host.gathered ++ text ∷ [])) (ungathered host)) question new (ends_ask (all_names (host.gathered ++ text ∷ [])) (ungathered host)) e)

names_gather : (words : List (List ℕ)) (answer : Answer) (host new : HostState) (question : Question) → names_answered words answer host ≡ wants question new → Gathered host new
names_gather words (Said text) host new question e = next_gathers words text host new question (nat_lt (length (host.gathered ++ text ∷ [])) bucket_count) refl e
names_gather words (Failed why) host new question e = absurd (cc)
names_gather words (Page page) host new question e = absurd (cc)
names_gather words NoPage host new question e = absurd (cc)
names_gather words PageFault host new question e = absurd (cc)

-- ---- all commands

no_onward : {A : Type 0} (onward : Onward A) (question : Question) (new : A) → onward_asks onward ≡ false → onward ≡ goes (wants question new) → ⊥
no_onward {A = A} onward question new none e = let yes : onward_asks onward ≡ true = ap (λ (o : Onward A). onward_asks o) e in cc

by_tests : (opens include names : Bool) (words : List (List ℕ)) (answer : Answer) (host new : HostState) (question : Question)
    → (if opens then conn_answered words answer host else if include then page_answered words answer host else if names then goes (names_answered words answer host) else goes (said answer host))
    ≡ goes (wants question new)
    → Gathered host new
by_tests true include names words answer host new question e =
    absurd (no_onward (conn_answered words answer host) question new (whole_asks (with_conn host) (conn_answer words answer host.conn) ∙ conn_asks words answer host.conn) e)
by_tests false true names words answer host new question e =
    absurd (no_onward (page_answered words answer host) question new (onward_whole_asks (with_pages host) (page_onward words answer host.pages) ∙ pages_ask words answer host.pages) e)
by_tests false false true words answer host new question e = names_gather words answer host new question (cc e)
by_tests false false false words answer host new question e = absurd (no_onward (goes (said answer host)) question new (said_asks answer host) e)

-- a command that asks again has gathered one answer more
pub asks_again : (words : List (List ℕ)) (answer : Answer) (host new : HostState) (question : Question) → host_table.answers words answer host ≡ goes (wants question new) → Gathered host new
asks_again words answer host new question e =
    by_tests (bytes_eq (arg words 0) (codes "open")) (bytes_eq (arg words 0) (codes "ns_adp_include")) (bytes_eq (arg words 0) (codes "nsv_names")) words answer host new question e
