use Rattle.txt_core.proofs.WordsAt.{no_word}
use Rattle.txt_core.proofs.words.bytes_at.Goals as goal

pub returns-in-None : goal.returns-in-None
returns-in-None c = no_word c.args.words.now c.args.place c.in-None.ensures
