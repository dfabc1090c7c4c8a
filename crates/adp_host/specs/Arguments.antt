-- The commands on the arguments of the innermost open page.
use Rattle.std.specs.Prelude.{ℤ, pos, negsuc, ◌==◌, [], length, decimal, if◌then◌else◌, Result, Ok, Err}
use Rattle.txt_core.specs.Names.{Bytes, Words}
use Rattle.txt_core.specs.Quoting.{quoting}
use Rattle.tcl_host.specs.Leaf.{Leaf}
use Rattle.natives.specs.Words.{arg}
use Rattle.adp_host.specs.States.{PageState, arguments}
use Rattle.tcl_host.specs.Checks.{gives, fails, is_counted, shaped, integer}
use Rattle.adp_host.specs.Checks.{paged}

-- `ns_adp_argc` gives how many arguments the page has, its file among them
abbrev pub ns_adp_argc : Words → PageState → Leaf PageState
ns_adp_argc words host =
    shaped (is_counted 1 1 words) words (paged (λ host. gives (decimal (length (arguments host))) host)) host

-- the argument at a place, counted from the file at 0; empty where there is none
abbrev pub argument : Words → ℤ → Bytes
argument args (pos place) = arg args place
argument args (negsuc place) = []

-- the argument at the place that a word is, or the error of a word that is no number
abbrev pub argument_at : Result ℤ Bytes → PageState → Leaf PageState
argument_at (Ok place) host = gives (argument (arguments host) place) host
argument_at (Err message) host = fails message host

-- all arguments as a list, or the one at the place that the second word is
abbrev pub argument_text : Words → PageState → Leaf PageState
argument_text words host =
    if length words == 1 then gives (quoting (arguments host)) host else argument_at (integer words 1) host

-- `ns_adp_argv ?PLACE?` gives the list of the page's arguments, or the one at a place
abbrev pub ns_adp_argv : Words → PageState → Leaf PageState
ns_adp_argv words host = shaped (is_counted 1 2 words) words (paged (argument_text words)) host
