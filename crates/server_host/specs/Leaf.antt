-- What the host of a run says of each command, of an answer, and of its pages.
use Rattle.std.specs.Prelude.{ℕ, [], bytes_eq, codes, if◌then◌else◌, Option, Some, None}
use Rattle.txt_core.specs.Names.{Bytes, Words}
use Rattle.outside.specs.declared.question.Answer.{Answer}
use Rattle.outside.specs.declared.question.Answer.TheVariants.{Said, Failed, Page, NoPage, PageFault}
use Rattle.tcl_host.specs.Leaf.{Leaf, says, wants, defines, stores, not_mine, Onward, goes, TextEnd, LeafTable}
use Rattle.natives.specs.Words.{arg}
use Rattle.conn_host.specs.Leaf.{conn_call, conn_answer}
use Rattle.adp_host.specs.Output.{put_out}
use Rattle.adp_host.specs.Leaving.{left}
use Rattle.adp_host.specs.Leaf.{page_call, page_onward}
use Rattle.server_host.specs.Hosts.{HostState, with_conn, with_pages, cleared}
use Rattle.server_host.specs.Parts.{in_whole, onward_in_whole, end_in_whole}
use Rattle.tcl_host.specs.Checks.{gives, fails}
use Rattle.server_host.specs.Registering.{ns_register_proc, ns_register_filter}
use Rattle.server_host.specs.Interpreting.{ns_ictl, ns_eval}
use Rattle.server_host.specs.Scheduling.{ns_schedule_proc, ns_unschedule_proc}
use Rattle.server_host.specs.Sharing.{nsv, nsv_names, names_answered}
use Rattle.server_host.specs.declared.verb.Verb.{Verb}
use Rattle.server_host.specs.declared.verb.Verb.TheVariants as verbs

-- ---- commands

-- the command of a name, among those that are neither of the connection nor of pages
abbrev pub verb_of : Bytes → Option Verb
verb_of name =
    if bytes_eq name (codes "ns_register_proc") then Some verbs.RegisterProc
    else if bytes_eq name (codes "ns_register_filter") then Some verbs.RegisterFilter
    else if bytes_eq name (codes "ns_ictl") then Some verbs.NsIctl
    else if bytes_eq name (codes "ns_eval") then Some verbs.NsEval
    else if bytes_eq name (codes "ns_schedule_proc") then Some verbs.ScheduleProc
    else if bytes_eq name (codes "ns_unschedule_proc") then Some verbs.UnscheduleProc
    else if bytes_eq name (codes "nsv_names") then Some verbs.NsvNames
    else if bytes_eq name (codes "nsv_set") then Some verbs.Nsv
    else if bytes_eq name (codes "nsv_get") then Some verbs.Nsv
    else if bytes_eq name (codes "nsv_exists") then Some verbs.Nsv
    else if bytes_eq name (codes "nsv_incr") then Some verbs.Nsv
    else if bytes_eq name (codes "nsv_append") then Some verbs.Nsv
    else if bytes_eq name (codes "nsv_lappend") then Some verbs.Nsv
    else if bytes_eq name (codes "nsv_unset") then Some verbs.Nsv
    else if bytes_eq name (codes "nsv_array") then Some verbs.Nsv
    else None

-- what each command does
abbrev pub does : Verb → Words → HostState → Leaf HostState
does verbs.RegisterProc words host = ns_register_proc words host
does verbs.RegisterFilter words host = ns_register_filter words host
does verbs.NsIctl words host = ns_ictl words host
does verbs.NsEval words host = ns_eval words host
does verbs.ScheduleProc words host = ns_schedule_proc words host
does verbs.UnscheduleProc words host = ns_unschedule_proc words host
does verbs.NsvNames words host = nsv_names words host
does verbs.Nsv words host = nsv words host

-- a command of the connection, and one of pages
abbrev pub of_conn : Words → HostState → Leaf HostState
of_conn words host = in_whole (with_conn host) (conn_call words host.conn)

abbrev pub of_pages : Words → HostState → Leaf HostState
of_pages words host = in_whole (with_pages host) (page_call words host.pages)

-- what is none of the connection's commands is one of pages, or of no one
abbrev pub or_of_pages : Words → Leaf HostState → Leaf HostState
or_of_pages words (not_mine host) = of_pages words host
or_of_pages words (says code result host) = says code result host
or_of_pages words (wants question host) = wants question host
or_of_pages words (defines def host) = defines def host
or_of_pages words (stores name value result host) = stores name value result host

abbrev pub of_parts : Words → HostState → Leaf HostState
of_parts words host = or_of_pages words (of_conn words host)

abbrev pub by_verb : Option Verb → Words → HostState → Leaf HostState
by_verb (Some verb) words host = does verb words host
by_verb None words host = of_parts words host

-- the first word names the command
abbrev pub host_call : Words → HostState → Leaf HostState
host_call words host = by_verb (verb_of (arg words 0)) words host

-- ---- answers

-- What comes of an answer to a question that is asked once and wants no page: what is said is the result, what was refused is an
-- error with the reason. An answer that speaks of a page counts as a refusal without a reason.
abbrev pub said : Answer → HostState → Leaf HostState
said (Said text) host = gives text host
said (Failed why) host = fails why host
said (Page page) host = fails [] host
said NoPage host = fails [] host
said PageFault host = fails [] host

-- an answer to `open`, and one to `ns_adp_include`
abbrev pub conn_answered : Words → Answer → HostState → Onward HostState
conn_answered words answer host = goes (in_whole (with_conn host) (conn_answer words answer host.conn))

abbrev pub page_answered : Words → Answer → HostState → Onward HostState
page_answered words answer host = onward_in_whole (with_pages host) (page_onward words answer host.pages)

-- `open` and `ns_adp_include` ask for pages. Of the others `nsv_names` alone asks more than one question, and gathers the answers.
abbrev pub host_answer : Words → Answer → HostState → Onward HostState
host_answer words answer host =
    if bytes_eq (arg words 0) (codes "open") then conn_answered words answer host
    else if bytes_eq (arg words 0) (codes "ns_adp_include") then page_answered words answer host
    else if bytes_eq (arg words 0) (codes "nsv_names") then goes (names_answered words answer host)
    else goes (said answer host)

-- ---- pages

-- a text of a page is put out
abbrev pub host_text : Bytes → HostState → TextEnd HostState
host_text piece host = end_in_whole (with_pages host) (put_out piece host.pages)

-- a piece of a page ended with a code
abbrev pub host_left : ℕ → HostState → HostState
host_left code host = with_pages host (left code host.pages)

abbrev pub host_table : LeafTable HostState
host_table = record { calls = host_call; answers = host_answer; texts = host_text; leaves = host_left; clears = cleared }
