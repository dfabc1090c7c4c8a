-- What the commands look at before they do anything, in this order: the number of words, with the subcommand behind that of the
-- whole command and before its own; the kind of run; the other words from left to right.
use Rattle.std.specs.Prelude.{Bool, true, false, Option, Some, None}
use Rattle.txt_core.specs.ErrorTexts.{only_in_definition_run}
use Rattle.tcl_host.specs.Leaf.{Leaf}
use Rattle.tcl_host.specs.Checks.{passing}
use Rattle.server_host.specs.Hosts.{HostState}
use Rattle.server_host.specs.declared.kind.Kind.{Kind}
use Rattle.server_host.specs.declared.kind.Kind.TheVariants as kinds

-- whether a kind of run is one that makes definitions of the blueprint
abbrev pub is_defining : Option Kind → Bool
is_defining (Some kinds.Defining) = true
is_defining (Some kinds.Serving) = false
is_defining (Some kinds.Scripting) = false
is_defining None = false

-- definitions of the blueprint are made in a definition run alone
abbrev pub in_definition_run : (HostState → Leaf HostState) → HostState → Leaf HostState
in_definition_run does host = passing (is_defining host.kind) only_in_definition_run does host
