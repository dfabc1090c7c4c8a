-- Which texts are picked by a pattern that may be left out.
use Rattle.std.specs.Prelude.{Bool, true, Option, None, Some}
use Rattle.txt_core.specs.Names.{Bytes}
use Rattle.txt_core.specs.PatternLaws.{matches}

-- a text that the pattern matches; every text where there is no pattern
abbrev pub picks : Option Bytes → Bytes → Bool
picks None text = true
picks (Some pattern) text = matches pattern text
