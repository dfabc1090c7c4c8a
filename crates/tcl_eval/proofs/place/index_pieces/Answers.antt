use Rattle.std.proofs.Common.{◌∙◌}
use Rattle.tcl_eval.proofs.Rows.{no_index, some_index}
use Rattle.tcl_eval.proofs.place.index_pieces.Goals as goal

pub returns-in-None : goal.returns-in-None
returns-in-None c = no_index c.args.pieces.now c.args.at c.in-None.ensures

pub returns-in-Some : goal.returns-in-Some
returns-in-Some c = c.index_of.ensures ∙ some_index c.args.pieces.now c.args.at c.in-Some.piece.now c.in-Some.ensures
