-- What the host of a connection says of each command, and of an answer.
use Rattle.std.specs.Prelude.{bytes_eq, codes, if◌then◌else◌, Option, Some, None}
use Rattle.txt_core.specs.Names.{Bytes, Words}
use Rattle.outside.specs.declared.question.Answer.{Answer}
use Rattle.tcl_host.specs.Leaf.{Leaf, not_mine}
use Rattle.natives.specs.Words.{arg}
use Rattle.conn_host.specs.Conns.{ConnState}
use Rattle.conn_host.specs.SetCommands.{ns_set}
use Rattle.conn_host.specs.ChannelCommands.{open_page, page_answered, gets, read, eof, close}
use Rattle.conn_host.specs.RequestCommands.{ns_conn, ns_queryget}
use Rattle.conn_host.specs.Responding.{ns_return, ns_returnredirect, ns_returnnotfound}
use Rattle.conn_host.specs.TextCommands.{ns_urlencode, ns_urldecode, ns_time, ns_httptime}
use Rattle.conn_host.specs.declared.verb.Verb.{Verb}
use Rattle.conn_host.specs.declared.verb.Verb.TheVariants as verbs

-- the command of a name
abbrev pub verb_of : Bytes → Option Verb
verb_of name =
    if bytes_eq name (codes "ns_set") then Some verbs.NsSet
    else if bytes_eq name (codes "open") then Some verbs.Open
    else if bytes_eq name (codes "gets") then Some verbs.Gets
    else if bytes_eq name (codes "read") then Some verbs.Read
    else if bytes_eq name (codes "eof") then Some verbs.Eof
    else if bytes_eq name (codes "close") then Some verbs.Close
    else if bytes_eq name (codes "ns_conn") then Some verbs.NsConn
    else if bytes_eq name (codes "ns_queryget") then Some verbs.NsQueryget
    else if bytes_eq name (codes "ns_return") then Some verbs.NsReturn
    else if bytes_eq name (codes "ns_returnredirect") then Some verbs.NsReturnredirect
    else if bytes_eq name (codes "ns_returnnotfound") then Some verbs.NsReturnnotfound
    else if bytes_eq name (codes "ns_urlencode") then Some verbs.NsUrlencode
    else if bytes_eq name (codes "ns_urldecode") then Some verbs.NsUrldecode
    else if bytes_eq name (codes "ns_time") then Some verbs.NsTime
    else if bytes_eq name (codes "ns_httptime") then Some verbs.NsHttptime
    else None

-- what each command does
abbrev pub does : Verb → Words → ConnState → Leaf ConnState
does verbs.NsSet words host = ns_set words host
does verbs.Open words host = open_page words host
does verbs.Gets words host = gets words host
does verbs.Read words host = read words host
does verbs.Eof words host = eof words host
does verbs.Close words host = close words host
does verbs.NsConn words host = ns_conn words host
does verbs.NsQueryget words host = ns_queryget words host
does verbs.NsReturn words host = ns_return words host
does verbs.NsReturnredirect words host = ns_returnredirect words host
does verbs.NsReturnnotfound words host = ns_returnnotfound words host
does verbs.NsUrlencode words host = ns_urlencode words host
does verbs.NsUrldecode words host = ns_urldecode words host
does verbs.NsTime words host = ns_time words host
does verbs.NsHttptime words host = ns_httptime words host

abbrev pub by_verb : Option Verb → Words → ConnState → Leaf ConnState
by_verb None words host = not_mine host
by_verb (Some verb) words host = does verb words host

-- the first word names the command; any other name is none of this host's
abbrev pub conn_call : Words → ConnState → Leaf ConnState
conn_call words host = by_verb (verb_of (arg words 0)) words host

-- `open` alone asks a question, so an answer to any other words is none of this host's
abbrev pub conn_answer : Words → Answer → ConnState → Leaf ConnState
conn_answer words answer host =
    if bytes_eq (arg words 0) (codes "open") then page_answered words answer host else not_mine host
