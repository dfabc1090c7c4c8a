-- The commands that register procedures and filters. They are definitions, which are made in a definition run alone.
use Rattle.std.specs.Prelude.{ℕ, ◌+◌, Bool, not, drop, nat_le, if◌then◌else◌, bytes_eq, codes, Option, Some, None, length}
use Rattle.txt_core.specs.Names.{Words}
use Rattle.cmd_table.specs.declared.definition.Def.TheVariants.{Route, Filter}
use Rattle.cmd_table.specs.declared.definition.When.{When}
use Rattle.tcl_host.specs.Leaf.{Leaf, defines}
use Rattle.natives.specs.Words.{arg}
use Rattle.blueprint.specs.Reading.{is_method, is_filter_method, begins_with_slash, stage_named}
use Rattle.server_host.specs.Hosts.{HostState}
use Rattle.tcl_host.specs.Checks.{fails, shaped, unfit, fitting}
use Rattle.server_host.specs.Checks.{in_definition_run}

-- ---- `ns_register_proc`

-- the second word is the option by which the paths below the URL aren't served
abbrev pub is_noinherit : Words → Bool
is_noinherit words = bytes_eq (arg words 1) (codes "-noinherit")

-- the place of the method: behind the option, where that stands
abbrev pub method_place : Words → ℕ
method_place words = if is_noinherit words then 2 else 1

-- the definition that the words from this place on make: a method, a URL, a procedure and its first arguments
abbrev pub registers : Bool → ℕ → Words → HostState → Leaf HostState
registers inherit place words host =
    fitting (is_method (arg words place)) words place
    (fitting (begins_with_slash (arg words (place + 1))) words (place + 1)
    (defines (Route (arg words place) (arg words (place + 1)) inherit (drop (place + 2) words)))) host

-- `ns_register_proc ?-noinherit? METHOD URL PROC WORD*` registers a procedure for a method and a URL
abbrev pub ns_register_proc : Words → HostState → Leaf HostState
ns_register_proc words host =
    shaped (nat_le (method_place words + 3) (length words)) words
    (in_definition_run (registers (not (is_noinherit words)) (method_place words) words)) host

-- ---- `ns_register_filter`

-- the definition that the words make, by the stage that the second one is
abbrev pub registers_filter : Option When → Words → HostState → Leaf HostState
registers_filter None words host = fails (unfit words 1) host
registers_filter (Some when) words host =
    fitting (is_filter_method (arg words 2)) words 2 (defines (Filter when (arg words 2) (arg words 3) (drop 4 words))) host

-- `ns_register_filter WHEN METHOD GLOB PROC WORD*` registers a filter for a stage, for a method or all, and for the paths that the
-- pattern matches
abbrev pub ns_register_filter : Words → HostState → Leaf HostState
ns_register_filter words host =
    shaped (nat_le 5 (length words)) words (in_definition_run (registers_filter (stage_named (arg words 1)) words)) host
