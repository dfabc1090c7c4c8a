-- The command line of the server, as `clap` reads it: three options that are required, and three that have a default.
use Rattle.std.specs.Prelude.{◌≡◌, ℕ, ℤ, [], ◌∷◌, Some, true, false, codes, pos}
use Rattle.txt_core.specs.Limits.{most_workers}
use Rattle.clap.specs.Words.{App, Rule, Text, new_app, new_rule, with_rule}
use Rattle.clap.specs.declared.builder.arg.Arg.{Arg}
use Rattle.clap.specs.declared.builder.value_parser.ValueParser.TheVariants.{Signed}

-- an option that has to be given
abbrev pub required_rule : Text → Rule
required_rule id = record (new_rule id) { long = Some id; required = true }

-- an option whose value is a number from low to high, with the value that it has where it is left out
abbrev pub number_rule : Text → ℤ → ℤ → Text → Rule
number_rule id low high default = record (new_rule id) { long = Some id; parser = Some (Signed low high); defaults = default ∷ [] }

-- the option is of its command alone, and not of those below it
abbrev pub IsLocal : Arg → Type 0
IsLocal option = option.global ≡ false

abbrev pub bare_app : App
bare_app = let a = new_app (codes "ns_server") in record a { top = record a.top { has_version = true } }

-- the command with the options that are required
abbrev pub required_app : App
required_app = with_rule (with_rule (with_rule bare_app
    (required_rule (codes "root")))
    (required_rule (codes "start")))
    (required_rule (codes "listen"))

-- the command with all of its options
abbrev pub serve_app : App
serve_app = with_rule (with_rule (with_rule required_app
    (number_rule (codes "workers") (pos 1) (pos most_workers) (codes "4")))
    (number_rule (codes "queue") (pos 1) (pos 1024) (codes "64")))
    (number_rule (codes "connections") (pos 0) (pos 4294967295) (codes "0"))
