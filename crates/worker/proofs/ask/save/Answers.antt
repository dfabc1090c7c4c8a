use Rattle.std.proofs.Common.{refl}
use Rattle.std.specs.Prelude.{None}
use Rattle.std.proofs.lemmas.Result.{err_from_is_err_and}
use Rattle.worker.proofs.Answering.{asks_save}
use Rattle.worker.proofs.Hearing.{put_nowhere}
use Rattle.worker.proofs.ask.save.Goals as goal

pub returns-clause-asks : goal.returns-clause-asks
returns-clause-asks g c = λ moment held faults. asks_save moment c.args.words.now _ _ c.turn-turned.result.place _ c.turn-turned.result.reply held faults c.blueprint_answer.result c.turn-turned.ensures.turn refl refl c.in_ok-call.ensures c.blueprint_answer.ensures

pub returns-in_err-call-clause-asks : goal.returns-in_err-call-clause-asks
returns-in_err-call-clause-asks g c = λ moment held faults.
    let p = err_from_is_err_and c.from_residual.result c.from_residual.ensures.1 in
    rw p.1 (put_nowhere moment _ c.args.passes.now held faults p.0 None)
