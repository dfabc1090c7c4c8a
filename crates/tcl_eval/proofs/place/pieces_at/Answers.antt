use Rattle.tcl_eval.proofs.Rows.{no_word_left, word_left}
use Rattle.tcl_eval.proofs.place.pieces_at.Goals as goal

pub returns-in-None : goal.returns-in-None
returns-in-None c = no_word_left c.args.all.now c.args.at c.in-None.ensures

pub returns-in-Some : goal.returns-in-Some
returns-in-Some c =
    rw c.as_slice.ensures.value (word_left c.args.all.now c.args.at c.in-Some.word.now c.in-Some.ensures)
