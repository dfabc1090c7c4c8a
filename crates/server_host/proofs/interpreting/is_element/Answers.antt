use Rattle.std.proofs.Common.{ℕ, List, ap}
use Rattle.tcl_frame.specs.Names.{named, is_element}
use Rattle.txt_core.proofs.WordsAt.{no_word}
use Rattle.server_host.proofs.interpreting.is_element.Goals as goal

pub returns-in-None : goal.returns-in-None
returns-in-None c = ap (λ (name : List ℕ). is_element (named name)) (no_word c.args.words.now c.args.place c.in-None.ensures)
