use Rattle.std.proofs.Common.{◌≡◌, ◌+◌, ◌≤◌, length}
use Rattle.natives.specs.Parts.{parts}
use Rattle.tcl_string.specs.Patterns.{words_taken}
use Rattle.tcl_string.proofs.Written.{behind_count}
use Rattle.tcl_string.proofs.pattern.words_taken.Given as goal

-- the words that were taken and those of the parts that are left are all words, and each part has a byte at least
abbrev pub invariant-parts : goal.invariant-parts
invariant-parts l = record {
  counted : behind_count l.taken (parts l.rest) ≡ words_taken (parts l.pattern);
  within : l.taken + length l.rest ≤ length l.pattern;
}

abbrev pub decreases-parts : goal.decreases-parts
decreases-parts l = length l.rest
