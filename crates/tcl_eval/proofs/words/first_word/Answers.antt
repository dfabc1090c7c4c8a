use Rattle.std.proofs.Common.{◌∙◌}
use Rattle.txt_core.proofs.WordsAt.{no_word}
use Rattle.tcl_eval.proofs.words.first_word.Goals as goal

pub returns-in-None : goal.returns-in-None
returns-in-None c = c.requires ∙ no_word c.args.words.now 0 c.in-None.ensures
