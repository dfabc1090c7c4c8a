-- The canonical form of trees.
use Rattle.std.specs.Prelude.{◌≢◌, []}
use Rattle.tcl_parse.specs.Tree.{Part, text, variable, element, bracket, Parts, no_parts, part, Words, no_words, word, Commands, no_commands, command, Script, commands}

-- No text begins these parts.
abbrev pub BeginsPlain : Parts → Type 0
BeginsPlain no_parts = Unit {0}
BeginsPlain (part (text bs) ps) = ⊥
BeginsPlain (part (variable x) ps) = Unit {0}
BeginsPlain (part (element x i) ps) = Unit {0}
BeginsPlain (part (bracket s) ps) = Unit {0}

-- A part in front of others: a text isn't empty, and no text stands next to it.
abbrev pub FitsBefore : Part → Parts → Type 0
FitsBefore (text bs) ps = (bs ≢ []) × BeginsPlain ps
FitsBefore (variable x) ps = Unit {0}
FitsBefore (element x i) ps = Unit {0}
FitsBefore (bracket s) ps = Unit {0}

-- A command has a word.
abbrev pub HasWords : Words → Type 0
HasWords no_words = ⊥
HasWords (word w ws) = Unit {0}

-- All texts in it are so, at every depth, and all commands in it have a word.
abbrev mutual
  pub IsCanonicalPart : Part → Type 0
  IsCanonicalPart (text bs) = Unit {0}
  IsCanonicalPart (variable x) = Unit {0}
  IsCanonicalPart (element x i) = AreCanonicalParts i
  IsCanonicalPart (bracket s) = AreCanonicalCommands s

  pub AreCanonicalParts : Parts → Type 0
  AreCanonicalParts no_parts = Unit {0}
  AreCanonicalParts (part p ps) = FitsBefore p ps × IsCanonicalPart p × AreCanonicalParts ps

  pub AreCanonicalWords : Words → Type 0
  AreCanonicalWords no_words = Unit {0}
  AreCanonicalWords (word w ws) = AreCanonicalParts w × AreCanonicalWords ws

  pub AreCanonicalCommands : Commands → Type 0
  AreCanonicalCommands no_commands = Unit {0}
  AreCanonicalCommands (command c cs) = HasWords c × AreCanonicalWords c × AreCanonicalCommands cs

abbrev pub IsCanonical : Script → Type 0
IsCanonical s = AreCanonicalCommands (commands s)
