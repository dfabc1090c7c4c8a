-- What the host of pages says of each command, and of an answer.
use Rattle.std.specs.Prelude.{bytes_eq, codes, if◌then◌else◌, Option, Some, None}
use Rattle.txt_core.specs.Names.{Bytes, Words}
use Rattle.outside.specs.declared.question.Answer.{Answer}
use Rattle.tcl_host.specs.Codes.{page_return, page_break, page_abort}
use Rattle.tcl_host.specs.Leaf.{Leaf, not_mine, Onward, goes}
use Rattle.natives.specs.Words.{arg}
use Rattle.adp_host.specs.States.{PageState}
use Rattle.adp_host.specs.Output.{ns_adp_append, ns_adp_puts}
use Rattle.adp_host.specs.Includes.{ns_adp_include, page_answered}
use Rattle.adp_host.specs.Arguments.{ns_adp_argc, ns_adp_argv}
use Rattle.adp_host.specs.Leaving.{leaves_with}
use Rattle.adp_host.specs.declared.verb.Verb.{Verb}
use Rattle.adp_host.specs.declared.verb.Verb.TheVariants as verbs

-- the command of a name
abbrev pub verb_of : Bytes → Option Verb
verb_of name =
    if bytes_eq name (codes "ns_adp_append") then Some verbs.Append
    else if bytes_eq name (codes "ns_adp_puts") then Some verbs.Puts
    else if bytes_eq name (codes "ns_adp_include") then Some verbs.Include
    else if bytes_eq name (codes "ns_adp_argc") then Some verbs.Argc
    else if bytes_eq name (codes "ns_adp_argv") then Some verbs.Argv
    else if bytes_eq name (codes "ns_adp_return") then Some verbs.Return
    else if bytes_eq name (codes "ns_adp_break") then Some verbs.Break
    else if bytes_eq name (codes "ns_adp_abort") then Some verbs.Abort
    else None

-- what each command does
abbrev pub does : Verb → Words → PageState → Leaf PageState
does verbs.Append words host = ns_adp_append words host
does verbs.Puts words host = ns_adp_puts words host
does verbs.Include words host = ns_adp_include words host
does verbs.Argc words host = ns_adp_argc words host
does verbs.Argv words host = ns_adp_argv words host
does verbs.Return words host = leaves_with page_return words host
does verbs.Break words host = leaves_with page_break words host
does verbs.Abort words host = leaves_with page_abort words host

abbrev pub by_verb : Option Verb → Words → PageState → Leaf PageState
by_verb None words host = not_mine host
by_verb (Some verb) words host = does verb words host

-- the first word names the command; any other name is none of this host's
abbrev pub page_call : Words → PageState → Leaf PageState
page_call words host = by_verb (verb_of (arg words 0)) words host

-- `ns_adp_include` alone asks a question, so an answer to any other words is none of this host's
abbrev pub page_onward : Words → Answer → PageState → Onward PageState
page_onward words answer host =
    if bytes_eq (arg words 0) (codes "ns_adp_include") then page_answered words answer host else goes (not_mine host)
