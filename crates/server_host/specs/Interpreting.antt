-- The commands on interpreters and their blueprint.
use Rattle.std.specs.Prelude.{ℕ, true, not, ◌==◌, [], ◌∷◌, decimal, length, if◌then◌else◌, bytes_eq, codes, Option, Some, None}
use Rattle.txt_core.specs.Names.{Bytes, Words}
use Rattle.cmd_table.specs.declared.definition.Def.TheVariants.{Cleanup, Set}
use Rattle.tcl_frame.specs.Names.{named, is_element}
use Rattle.outside.specs.declared.question.Service.TheVariants as service
use Rattle.tcl_host.specs.Leaf.{Leaf, wants, defines}
use Rattle.natives.specs.Words.{arg}
use Rattle.blueprint.specs.Scripts.{script_of}
use Rattle.server_host.specs.Hosts.{HostState, with_mark}
use Rattle.tcl_host.specs.Checks.{gives, passing, is_counted, shaped, no_subcommand, fitting}
use Rattle.server_host.specs.Checks.{is_defining, in_definition_run}
use Rattle.server_host.specs.declared.ictl_verb.IctlVerb.{IctlVerb}
use Rattle.server_host.specs.declared.ictl_verb.IctlVerb.TheVariants as verbs

-- ---- `ns_ictl`

-- the subcommand of a name
abbrev pub ictl_verb_of : Bytes → Option IctlVerb
ictl_verb_of name =
    if bytes_eq name (codes "oncleanup") then Some verbs.Oncleanup
    else if bytes_eq name (codes "global") then Some verbs.Global
    else if bytes_eq name (codes "get") then Some verbs.Get
    else if bytes_eq name (codes "epoch") then Some verbs.Epoch
    else if bytes_eq name (codes "save") then Some verbs.Save
    else if bytes_eq name (codes "markfordelete") then Some verbs.Markfordelete
    else None

-- how many words each has, with both names among them
abbrev pub ictl_count : IctlVerb → ℕ
ictl_count verbs.Oncleanup = 3
ictl_count verbs.Global = 4
ictl_count verbs.Get = 2
ictl_count verbs.Epoch = 2
ictl_count verbs.Save = 3
ictl_count verbs.Markfordelete = 2

-- `oncleanup SCRIPT` is the definition of a script that runs at the end of each request
abbrev pub cleans_up : Words → HostState → Leaf HostState
cleans_up words host = in_definition_run (defines (Cleanup (arg words 2))) host

-- `global NAME VALUE` is the definition of a global variable, whose name hasn't the form of an array's element
abbrev pub sets_global : Words → HostState → Leaf HostState
sets_global words host =
    in_definition_run (fitting (not (is_element (named (arg words 2)))) words 2 (defines (Set (arg words 2) (arg words 3)))) host

-- `get` gives the script of the run's blueprint
abbrev pub gives_script : HostState → Leaf HostState
gives_script host = gives (script_of host.blueprint.defs) host

-- `epoch` gives its epoch
abbrev pub gives_epoch : HostState → Leaf HostState
gives_epoch host = gives (decimal host.blueprint.epoch) host

-- `save SCRIPT` asks that the script become the blueprint
abbrev pub saves : Words → HostState → Leaf HostState
saves words host = wants (record { service = service.Save; words = arg words 2 ∷ [] }) host

-- `markfordelete` marks the run
abbrev pub marks : HostState → Leaf HostState
marks host = gives [] (with_mark host true)

abbrev pub ictl_does : IctlVerb → Words → HostState → Leaf HostState
ictl_does verbs.Oncleanup words host = cleans_up words host
ictl_does verbs.Global words host = sets_global words host
ictl_does verbs.Get words host = gives_script host
ictl_does verbs.Epoch words host = gives_epoch host
ictl_does verbs.Save words host = saves words host
ictl_does verbs.Markfordelete words host = marks host

-- the subcommand goes before its own number of words
abbrev pub ictl_by_verb : Option IctlVerb → Words → HostState → Leaf HostState
ictl_by_verb None words host = no_subcommand words host
ictl_by_verb (Some verb) words host = shaped (length words == ictl_count verb) words (ictl_does verb words) host

-- `ns_ictl oncleanup SCRIPT`, `global NAME VALUE`, `get`, `epoch`, `save SCRIPT` and `markfordelete`
abbrev pub ns_ictl : Words → HostState → Leaf HostState
ns_ictl words host = shaped (is_counted 2 4 words) words (ictl_by_verb (ictl_verb_of (arg words 1)) words) host

-- ---- `ns_eval`

-- the error of a definition run that is to begin inside another one
abbrev pub inside_itself : Bytes
inside_itself = codes "ns_eval inside ns_eval"

-- a run inside this one is asked for, by its script
abbrev pub asks_inner : Words → HostState → Leaf HostState
asks_inner words host = wants (record { service = service.Inner; words = arg words 1 ∷ [] }) host

-- `ns_eval SCRIPT` asks for a definition run of the script, unless this run is one
abbrev pub ns_eval : Words → HostState → Leaf HostState
ns_eval words host =
    shaped (is_counted 2 2 words) words (passing (not (is_defining host.kind)) inside_itself (asks_inner words)) host
