use Rattle.std.proofs.Common.{◌∙◌, [], sym}
use Rattle.std.proofs.lemmas.Option.{get_or_from_slice_get}
use Rattle.txt_core.proofs.WordsAt.{no_word}
use Rattle.worker.proofs.Answering.{asks_page}
use Rattle.worker.proofs.ask.page.Goals as goal

pub returns-in-Some-clause-asks : goal.returns-in-Some-clause-asks
returns-in-Some-clause-asks g c = λ moment passes. asks_page moment c.args.words.now passes _ c.page.result _ _ _ _ c.page_answer.result c.page.ensures (sym (get_or_from_slice_get c.args.words.now 0 c.in-Some.path.now [] (sym c.in-Some.ensures))) c.page_answer.ensures.answer c.page_answer.ensures.some

pub returns-in-None-clause-asks : goal.returns-in-None-clause-asks
returns-in-None-clause-asks g c = λ moment passes. asks_page moment c.args.words.now passes _ c.page-in-None.result _ _ _ _ c.page_answer-in-None.result c.page-in-None.ensures (c.empty.ensures ∙ no_word c.args.words.now 0 c.in-None.ensures) c.page_answer-in-None.ensures.answer c.page_answer-in-None.ensures.some
