use Rattle.std.proofs.Common.{◌≡◌, Some, sym, ap, ◌∙◌, codes}
use Rattle.std.proofs.lemmas.Slice.Eq.{slice_eq-Decides}
use Rattle.std.proofs.lemmas.Bool.Decides.{Decides-eqb}
use Rattle.ns_server.proofs.WordsLemmas.{first_word_is}
use Rattle.ns_server.proofs.program.asks_server.Goals as goal

pub returns-in-Some : goal.returns-in-Some
returns-in-Some c =
    first_word_is c.args.words.now c.bytes.result.now (codes "serve") c.eq.result (sym (ap (λ w. Some w) c.bytes.ensures ∙ c.in-Some.ensures))
    (slice_eq-Decides Decides-eqb c.bytes.result.now (codes "serve") c.eq.result c.eq.ensures)
