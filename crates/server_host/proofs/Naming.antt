-- Which names have a command.
use Rattle.std.proofs.Common.{◌≡◌, ℕ, refl, ap, sym, ◌∙◌, Bool, true, false, List, [], ◌∷◌, ◌++◌, map, take, drop, codes, Option, Some, None}
use Rattle.std.specs.Prelude.{◌||◌, if◌then◌else◌, is_some, bytes_eq}
use Rattle.std.specs.List.{list_any}
use Rattle.std.proofs.lemmas.List.Folds.{list_any-append}
use Rattle.cmd_table.specs.Commands.{language_names, server_names, built_ins}
use Rattle.tcl_host.specs.Leaf.{not_mine}
use Rattle.natives.specs.Words.{arg}
use Rattle.conn_host.specs.Leaf as conn
use Rattle.conn_host.specs.declared.verb.Verb as conn_verb
use Rattle.conn_host.specs.declared.verb.Verb.TheVariants as conn_verbs
use Rattle.adp_host.specs.Leaf as pages
use Rattle.adp_host.specs.declared.verb.Verb as page_verb
use Rattle.adp_host.specs.declared.verb.Verb.TheVariants as page_verbs
use Rattle.server_host.specs.Hosts.{HostState, with_conn, with_pages}
use Rattle.server_host.specs.Parts.{in_whole}
use Rattle.server_host.specs.Leaf.{verb_of, by_verb, or_of_pages, host_call}
use Rattle.server_host.specs.Laws.{has_doer, is_one_of, is_server_name}
use Rattle.server_host.specs.declared.verb.Verb.{Verb}
use Rattle.server_host.specs.declared.verb.Verb.TheVariants as verbs

-- what stands under a name in a table, by the first entry of that name
abbrev look : {A : Type 0} → List (List ℕ × A) → List ℕ → Option A
look [] name = None
look (entry ∷ table) name = if bytes_eq name entry.0 then Some entry.1 else look table name

-- the names of a table
abbrev names : {A : Type 0} → List (List ℕ × A) → List (List ℕ)
names {A = A} table = map (λ (entry : List ℕ × A). entry.0) table

-- the three tables
abbrev own_table : List (List ℕ × Verb)
own_table =
    (codes "ns_register_proc", verbs.RegisterProc) ∷ (codes "ns_register_filter", verbs.RegisterFilter) ∷ (codes "ns_ictl", verbs.NsIctl)
    ∷ (codes "ns_eval", verbs.NsEval) ∷ (codes "ns_schedule_proc", verbs.ScheduleProc) ∷ (codes "ns_unschedule_proc", verbs.UnscheduleProc)
    ∷ (codes "nsv_names", verbs.NsvNames) ∷ (codes "nsv_set", verbs.Nsv) ∷ (codes "nsv_get", verbs.Nsv)
    ∷ (codes "nsv_exists", verbs.Nsv) ∷ (codes "nsv_incr", verbs.Nsv) ∷ (codes "nsv_append", verbs.Nsv)
    ∷ (codes "nsv_lappend", verbs.Nsv) ∷ (codes "nsv_unset", verbs.Nsv) ∷ (codes "nsv_array", verbs.Nsv) ∷ []

abbrev conn_table : List (List ℕ × conn_verb.Verb)
conn_table =
    (codes "ns_set", conn_verbs.NsSet) ∷ (codes "open", conn_verbs.Open) ∷ (codes "gets", conn_verbs.Gets)
    ∷ (codes "read", conn_verbs.Read) ∷ (codes "eof", conn_verbs.Eof) ∷ (codes "close", conn_verbs.Close)
    ∷ (codes "ns_conn", conn_verbs.NsConn) ∷ (codes "ns_queryget", conn_verbs.NsQueryget) ∷ (codes "ns_return", conn_verbs.NsReturn)
    ∷ (codes "ns_returnredirect", conn_verbs.NsReturnredirect) ∷ (codes "ns_returnnotfound", conn_verbs.NsReturnnotfound) ∷ (codes "ns_urlencode", conn_verbs.NsUrlencode)
    ∷ (codes "ns_urldecode", conn_verbs.NsUrldecode) ∷ (codes "ns_time", conn_verbs.NsTime) ∷ (codes "ns_httptime", conn_verbs.NsHttptime) ∷ []

abbrev page_table : List (List ℕ × page_verb.Verb)
page_table =
    (codes "ns_adp_append", page_verbs.Append) ∷ (codes "ns_adp_puts", page_verbs.Puts) ∷ (codes "ns_adp_include", page_verbs.Include)
    ∷ (codes "ns_adp_argc", page_verbs.Argc) ∷ (codes "ns_adp_argv", page_verbs.Argv) ∷ (codes "ns_adp_return", page_verbs.Return)
    ∷ (codes "ns_adp_break", page_verbs.Break) ∷ (codes "ns_adp_abort", page_verbs.Abort) ∷ []

-- one name more in front, among several tables
more : {A : Type 0} (is : Bool) (verb : A) (others : Option A) (else_there rest : Bool) → (is_some others || else_there) ≡ rest
    → (is_some (if is then Some verb else others) || else_there) ≡ (is || rest)
more true verb others else_there rest h = refl
more false verb others else_there rest h = h

-- the same in the last table
last : {A : Type 0} (is : Bool) (verb : A) (others : Option A) (rest : Bool) → is_some others ≡ rest → is_some (if is then Some verb else others) ≡ (is || rest)
last true verb others rest h = refl
last false verb others rest h = h

-- something stands under a name in a table, or else among further names, exactly where the name is one of all these
among : {A : Type 0} (table : List (List ℕ × A)) (name : List ℕ) (else_there : Bool) (further : List (List ℕ)) → else_there ≡ list_any (bytes_eq name) further
    → (is_some (look table name) || else_there) ≡ list_any (bytes_eq name) (names table ++ further)
among [] name else_there further h = h
among (entry ∷ table) name else_there further h =
    more (bytes_eq name entry.0) entry.1 (look table name) else_there (list_any (bytes_eq name) (names table ++ further)) (among table name else_there further h)

-- the same of a table alone
alone : {A : Type 0} (table : List (List ℕ × A)) (name : List ℕ) → is_some (look table name) ≡ list_any (bytes_eq name) (names table)
alone [] name = refl
alone (entry ∷ table) name = last (bytes_eq name entry.0) entry.1 (look table name) (list_any (bytes_eq name) (names table)) (alone table name)

-- the three tables together
in_tables : (name : List ℕ) → (is_some (look own_table name) || (is_some (look conn_table name) || is_some (look page_table name)))
    ≡ list_any (bytes_eq name) (names own_table ++ (names conn_table ++ names page_table))
in_tables name =
    among own_table name (is_some (look conn_table name) || is_some (look page_table name)) (names conn_table ++ names page_table)
    (among conn_table name (is_some (look page_table name)) (names page_table) (alone page_table name))

-- either of two may go first
either : (here there : Bool) → (here || there) ≡ (there || here)
either true true = refl
either true false = refl
either false true = refl
either false false = refl

-- a name is among the names of two lists, whichever goes first
exchanged : (name : List ℕ) (xs ys : List (List ℕ)) → list_any (bytes_eq name) (xs ++ ys) ≡ list_any (bytes_eq name) (ys ++ xs)
exchanged name xs ys =
    list_any-append (bytes_eq name) xs ys
    ∙ (either (list_any (bytes_eq name) xs) (list_any (bytes_eq name) ys)
    ∙ sym (list_any-append (bytes_eq name) ys xs))

-- two lists with the same names, behind a list
behind : (name : List ℕ) (front xs ys : List (List ℕ)) → list_any (bytes_eq name) xs ≡ list_any (bytes_eq name) ys
    → list_any (bytes_eq name) (front ++ xs) ≡ list_any (bytes_eq name) (front ++ ys)
behind name front xs ys h =
    list_any-append (bytes_eq name) front xs
    ∙ (ap (λ (b : Bool). list_any (bytes_eq name) front || b) h
    ∙ sym (list_any-append (bytes_eq name) front ys))

-- and before one
before : (name : List ℕ) (xs ys rest : List (List ℕ)) → list_any (bytes_eq name) xs ≡ list_any (bytes_eq name) ys
    → list_any (bytes_eq name) (xs ++ rest) ≡ list_any (bytes_eq name) (ys ++ rest)
before name xs ys rest h =
    list_any-append (bytes_eq name) xs rest
    ∙ (ap (λ (b : Bool). b || list_any (bytes_eq name) rest) h
    ∙ sym (list_any-append (bytes_eq name) ys rest))

-- the names of the host's own table in four parts: up to `nsv_names`, this one, up to `nsv_array`, and this one
abbrev registering : List (List ℕ)
registering = take 6 (names own_table)

abbrev gathering : List (List ℕ)
gathering = codes "nsv_names" ∷ []

abbrev sharing : List (List ℕ)
sharing = take 7 (drop 7 (names own_table))

abbrev arrays : List (List ℕ)
arrays = codes "nsv_array" ∷ []

-- in the list of names `nsv_names` stands before `nsv_array`
own_in_order : (name : List ℕ) → list_any (bytes_eq name) (names own_table) ≡ list_any (bytes_eq name) (registering ++ (sharing ++ (gathering ++ arrays)))
own_in_order name =
    behind name registering (gathering ++ (sharing ++ arrays)) (sharing ++ (gathering ++ arrays))
    (before name (gathering ++ sharing) (sharing ++ gathering) arrays (exchanged name gathering sharing))

-- and the names of the connection and of pages stand before the host's own
parts_in_order : (name : List ℕ) → list_any (bytes_eq name) (names own_table ++ (names conn_table ++ names page_table)) ≡ is_server_name name
unfolding server_names
parts_in_order name =
    exchanged name (names own_table) (names conn_table ++ names page_table)
    ∙ behind name (names conn_table ++ names page_table) (names own_table) (registering ++ (sharing ++ (gathering ++ arrays))) (own_in_order name)

pub named : (name : List ℕ) → has_doer name ≡ is_server_name name
named name = in_tables name ∙ parts_in_order name

pub all_done : (name : List ℕ) → is_one_of built_ins name ≡ (is_one_of language_names name || has_doer name)
unfolding built_ins
all_done name =
    list_any-append (bytes_eq name) language_names server_names
    ∙ ap (λ (b : Bool). is_one_of language_names name || b) (sym (named name))

-- a name is in neither of two tables
neither : (here there : Bool) → (here || there) ≡ false → (here ≡ false) × (there ≡ false)
neither true there h = absurd (let no : true ≡ false = h in cc)
neither false there h = (refl, h)

-- what is said of nothing that was found
of_none : {A B : Type 0} (found : Option A) → is_some found ≡ false → (says_of : Option A → B) → says_of found ≡ says_of None
of_none None h says_of = refl
of_none (Some x) h says_of = absurd (let no : true ≡ false = h in cc)

unknown : (words : List (List ℕ)) (host : HostState) → is_some (verb_of (arg words 0)) ≡ false → is_some (conn.verb_of (arg words 0)) ≡ false → is_some (pages.verb_of (arg words 0)) ≡ false
    → host_call words host ≡ not_mine host
unknown words host own of_conn of_pages =
    of_none (verb_of (arg words 0)) own (λ found. by_verb found words host)
    ∙ of_none (conn.verb_of (arg words 0)) of_conn (λ found. or_of_pages words (in_whole (with_conn host) (conn.by_verb found words host.conn)))
    ∙ of_none (pages.verb_of (arg words 0)) of_pages (λ found. in_whole (with_pages host) (pages.by_verb found words host.pages))

pub others : (words : List (List ℕ)) (host : HostState) → is_server_name (arg words 0) ≡ false → host_call words host ≡ not_mine host
others words host h =
    let none : has_doer (arg words 0) ≡ false = named (arg words 0) ∙ h in
    let own : (is_some (verb_of (arg words 0)) ≡ false) × ((is_some (conn.verb_of (arg words 0)) || is_some (pages.verb_of (arg words 0))) ≡ false) = neither _ _ none in
    let parts : (is_some (conn.verb_of (arg words 0)) ≡ false) × (is_some (pages.verb_of (arg words 0)) ≡ false) = neither _ _ own.1 in
    unknown words host own.0 parts.0 parts.1
