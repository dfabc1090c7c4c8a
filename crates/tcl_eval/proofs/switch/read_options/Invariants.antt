use Rattle.std.proofs.Common.{◌≡◌, length, false}
use Rattle.tcl_eval.specs.Switch.{options}
use Rattle.tcl_eval.proofs.switch.read_options.Given as goal

abbrev pub invariant-options : goal.invariant-options
invariant-options l = options l.globs l.left ≡ options false l.fn.words

abbrev pub decreases-options : goal.decreases-options
decreases-options l = length l.left
