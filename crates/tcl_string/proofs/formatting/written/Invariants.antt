use Rattle.std.proofs.Common.{length}
use Rattle.natives.specs.Parts.{parts}
use Rattle.tcl_string.specs.Patterns.{Fits, written_of}
use Rattle.tcl_string.proofs.Written.{Leads}
use Rattle.tcl_string.proofs.formatting.written.Given as goal

-- there are words enough for what is left, and the text that is kept, in front of what is left to write, is all
abbrev pub invariant-parts : goal.invariant-parts
invariant-parts l = record {
  fits : Fits (parts l.rest) l.left;
  came : Leads l.out (written_of (parts l.rest) l.left) (written_of (parts l.pattern) l.words);
}

abbrev pub decreases-parts : goal.decreases-parts
decreases-parts l = length l.rest
