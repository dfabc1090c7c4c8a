-- How the program reads the words of an `if`.
use Rattle.std.specs.Prelude.{[], ◌∷◌, ◌++◌, bytes_eq, codes, if◌then◌else◌, Option, Some, None}
use Rattle.txt_core.specs.Names.{Words, Pairs}
use Rattle.tcl_eval.specs.declared.branch.Branches.{Branches}
use Rattle.tcl_eval.specs.Branches.{branches}

-- words without a `then` at their front
abbrev pub without_then : Words → Words
without_then [] = []
without_then (word ∷ words) = if bytes_eq word (codes "then") then words else word ∷ words

-- conditions with their bodies in front of those that are still to be read
abbrev pub clauses_before : Pairs → Option Branches → Option Branches
clauses_before first None = None
clauses_before first (Some rest) = Some (branches (first ++ rest.clauses) rest.last)
