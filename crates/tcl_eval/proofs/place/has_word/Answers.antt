use Rattle.std.proofs.Common.{refl, subst, nat_lt, length}
use Rattle.tcl_eval.specs.Places.{HasWord}
use Rattle.tcl_parse.specs.Tree.{Words}
use Rattle.tcl_eval.proofs.Rows.{has_word_by}
use Rattle.tcl_eval.proofs.place.has_word.Goals as goal

pub returns-clause-there : goal.returns-clause-there
returns-clause-there c =
    let b = nat_lt c.args.word (length c.words_of.result.now) in
    subst (λ (ws : Words). HasWord b c.args.word ws) c.words_of.ensures (has_word_by c.words_of.result.now c.args.word b refl)
