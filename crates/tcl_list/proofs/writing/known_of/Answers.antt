use Rattle.std.proofs.Common.{◌≡◌, [], rules}
use Rattle.tcl_list.proofs.Behind.{written_list}
use Rattle.tcl_list.proofs.writing.known_of.Goals as goal

pub returns-else-is_empty : goal.returns-else-is_empty
returns-else-is_empty c =
    let some : c.args.words.now ≡ [] → ⊥ = search rules in
    written_list c.args.words.now some
