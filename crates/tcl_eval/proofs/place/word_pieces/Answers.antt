use Rattle.std.proofs.Common.{◌∙◌, ap}
use Rattle.tcl_parse.specs.Tree.{Words}
use Rattle.tcl_eval.specs.Places.{first_word, words_from}
use Rattle.tcl_eval.proofs.Rows.{no_word_there, some_word}
use Rattle.tcl_eval.proofs.place.word_pieces.Goals as goal

pub returns-in-None : goal.returns-in-None
returns-in-None c =
    no_word_there c.words_of.result.now c.args.word c.in-None.ensures ∙ ap (λ (ws : Words). first_word (words_from c.args.word ws)) c.words_of.ensures

pub returns-in-Some : goal.returns-in-Some
returns-in-Some c =
    rw c.as_slice.ensures.value (some_word c.words_of.result.now c.args.word c.in-Some.word.now c.in-Some.ensures ∙ ap (λ (ws : Words). first_word (words_from c.args.word ws)) c.words_of.ensures)
