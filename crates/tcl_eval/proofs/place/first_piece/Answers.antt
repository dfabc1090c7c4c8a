use Rattle.std.proofs.Common.{◌∙◌}
use Rattle.tcl_parse.specs.View.{script_of}
use Rattle.tcl_eval.proofs.Rows.{only_parts}
use Rattle.tcl_eval.proofs.place.first_piece.Goals as goal

pub returns : goal.returns
returns c = c.at_word.ensures ∙ only_parts (script_of c.args.script.value)
