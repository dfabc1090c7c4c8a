-- What the server reads from its words.
use Rattle.std.specs.Prelude.{ℕ, ◌≡◌, ◌⊎◌, List, [], Some, codes, unwrap_or}
use Rattle.std.specs.List.{All}
use Rattle.std.specs.Str.{IsUtf8}
use Rattle.std.specs.Str.Parse.{digits_value, without_leading_plus}
use Rattle.clap.specs.Words.{Row, Text, IsAmong, fault_of, matches_of, first_of}
use Rattle.clap.specs.declared.error.kind.ErrorKind.TheVariants.{DisplayHelp, DisplayVersion}
use Rattle.clap.specs.Walk.{one_of}
use Rattle.serve_options.specs.Command.{serve_app}
use Rattle.serve_options.specs.declared.options.Options.{Options}

-- all words are UTF-8, and `clap` finds no fault in them
abbrev pub AreTaken : List Text → Type 0
AreTaken words = All IsUtf8 words × (fault_of serve_app words ≡ [])

-- all words are UTF-8, and what `clap` finds in them is that they ask for the help, or for the version
abbrev pub AskForText : List Text → Type 0
AskForText words = All IsUtf8 words × (IsAmong DisplayHelp (fault_of serve_app words) ⊎ IsAmong DisplayVersion (fault_of serve_app words))

-- the number that an option has in what was found, its default included
abbrev pub number_of : Text → List Row → ℕ
number_of id rows = digits_value 10 (without_leading_plus (unwrap_or (one_of id rows) []))

-- The options are those that were found.
pub record AreIn (rows : List Row) (options : Options) : Type 0 where
  pub root : first_of (codes "root") rows ≡ Some options.root
  pub start : first_of (codes "start") rows ≡ Some options.start
  pub listen : first_of (codes "listen") rows ≡ Some options.listen
  pub workers : options.workers ≡ number_of (codes "workers") rows
  pub queue : options.queue ≡ number_of (codes "queue") rows
  pub connections : options.connections ≡ number_of (codes "connections") rows

-- the words are taken, and the options are those of the words
abbrev pub AreReadFrom : List Text → Options → Type 0
AreReadFrom words options = AreTaken words × AreIn (matches_of serve_app words) options

-- the number of connections after which the server ends; at 0 it doesn't
abbrev pub connections_of : List Text → ℕ
connections_of words = number_of (codes "connections") (matches_of serve_app words)
