use Rattle.std.proofs.Common.{[], ◌∷◌, sym, ◌∙◌, ap, codes}
use Rattle.std.proofs.lemmas.Slice.Eq.{slice_eq-Decides}
use Rattle.std.proofs.lemmas.Bool.Decides.{Decides-eqb}
use Rattle.ns_server.proofs.WordsLemmas.{one_word, one_word_is}
use Rattle.ns_server.proofs.program.asks_rehearsal.Goals as goal

pub returns-in-len1 : goal.returns-in-len1
returns-in-len1 c =
    let one = one_word c.as_slice.result.now c.word-item.result c.in-len1.len_at_least c.in-len1.len_below c.word-item.is in
    let decides = slice_eq-Decides Decides-eqb c.bytes.result.now (codes "rehearse") c.eq.result c.eq.ensures in
    one_word_is c.args.words.now c.bytes.result.now (codes "rehearse") c.eq.result (sym c.as_slice.ensures ∙ one ∙ ap (λ w. w ∷ []) (sym c.bytes.ensures)) decides
