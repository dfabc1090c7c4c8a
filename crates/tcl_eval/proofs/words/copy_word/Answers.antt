use Rattle.std.proofs.Common.{◌∙◌}
use Rattle.txt_core.proofs.WordsAt.{no_word}
use Rattle.tcl_eval.proofs.words.copy_word.Goals as goal

pub returns-in-None : goal.returns-in-None
returns-in-None c = c.empty.ensures ∙ no_word c.args.words.now c.args.place c.in-None.ensures
