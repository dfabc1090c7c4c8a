use Rattle.std.proofs.Common.{refl, ◌∙◌, sym}
use Rattle.std.specs.Prelude.{None}
use Rattle.std.proofs.lemmas.Result.{err_from_is_err_and}
use Rattle.worker.proofs.Answering.{asks_publish, asks_refused}
use Rattle.worker.proofs.Hearing.{put_nowhere}
use Rattle.worker.proofs.ask.publish.Goals as goal

pub returns-in-Refused-clause-asks : goal.returns-in-Refused-clause-asks
returns-in-Refused-clause-asks g c = λ moment held faults. asks_refused moment c.args.words.now c.args.passes.now c.in-Refused.answer held faults (sym c.in_ok-answer.ensures ∙ c.in-Refused.is)

pub returns-in-Puts-clause-asks : goal.returns-in-Puts-clause-asks
returns-in-Puts-clause-asks g c = λ moment held faults. asks_publish moment c.args.words.now _ _ c.turn-turned.result.place c.in-Puts.call c.turn-turned.result.reply held faults c.blueprint_answer.result _ c.turn-turned.ensures.turn refl refl (sym c.in_ok-answer.ensures ∙ c.in-Puts.is) c.blueprint_answer.ensures c.epoch_of.ensures

pub returns-in_err-answer-clause-asks : goal.returns-in_err-answer-clause-asks
returns-in_err-answer-clause-asks g c = λ moment held faults.
    let p = err_from_is_err_and c.from_residual.result c.from_residual.ensures.1 in
    rw p.1 (put_nowhere moment _ c.args.passes.now held faults p.0 _)
