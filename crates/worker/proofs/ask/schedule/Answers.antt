use Rattle.std.proofs.Common.{refl}
use Rattle.std.specs.Prelude.{None}
use Rattle.std.proofs.lemmas.Result.{err_from_is_err_and}
use Rattle.worker.proofs.Answering.{asks_schedule}
use Rattle.worker.proofs.Hearing.{put_nowhere}
use Rattle.worker.proofs.ask.schedule.Goals as goal

pub returns-clause-asks : goal.returns-clause-asks
returns-clause-asks g c = λ held faults. asks_schedule c.args.moment c.args.words.now _ _ c.turn-turned.result.place _ c.turn-turned.result.reply held faults c.sched_answer.result c.turn-turned.ensures.turn refl refl c.in_ok-call.ensures c.sched_answer.ensures.answer c.sched_answer.ensures.some

pub returns-in_err-call-clause-asks : goal.returns-in_err-call-clause-asks
returns-in_err-call-clause-asks g c = λ held faults.
    let p = err_from_is_err_and c.from_residual.result c.from_residual.ensures.1 in
    rw p.1 (put_nowhere c.args.moment _ c.args.passes.now held faults p.0 None)
