use Rattle.std.proofs.Common.{ap, List, ℕ}
use Rattle.tcl_eval.specs.Places.{tree_of, word_parts, walk}
use Rattle.tcl_eval.proofs.place.Place.at_word.Goals as goal

pub returns : goal.returns
returns c =
    let whole = word_parts c.args.command c.args.word (tree_of c.args.script.value) in
    ap (λ (path : List ℕ). walk path whole) c.new.ensures.items
