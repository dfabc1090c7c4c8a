use Rattle.std.proofs.Common.{◌≡◌, length, map}
use Rattle.tcl_parse.specs.Tree.{parts}
use Rattle.tcl_parse.specs.View.{part_of}
use Rattle.tcl_eval.specs.AtOnce.{rest_of_word, word_at_once}
use Rattle.tcl_eval.proofs.simple.simple_word.Given as goal

abbrev pub invariant-pieces : goal.invariant-pieces
invariant-pieces l = rest_of_word l.fn.frames (parts (map part_of l.left)) l.so_far ≡ word_at_once l.fn.frames (parts (map part_of l.fn.pieces))

abbrev pub decreases-pieces : goal.decreases-pieces
decreases-pieces l = length l.left
