use Rattle.std.proofs.Common.{subst, ap}
use Rattle.natives.specs.Names.{names_of}
use Rattle.ictl.specs.Came.{Came}
use Rattle.rehearse.specs.Playing.{setting_of, Resumed}
use Rattle.rehearse.proofs.Turning.{answers_from}
use Rattle.rehearse.proofs.scheduler.Scheduler.answer.Goals as goal

pub unreachable-requires : goal.unreachable-requires
unreachable-requires g c = (rw c.in_default.is at c.take_question.ensures).0 c.requires.asks.0 c.requires.asks.1

pub resume-requires : goal.resume-requires
resume-requires g c = (_, ap (λ (came : Came). came.next) c.in-Some.ensures.1)

pub returns : goal.returns
returns g c = λ listing. rw c.turn_to.ensures
    (answers_from (setting_of (names_of c.args.natives.now) c.args.setting.now) c.args.self.now c.args.objects.now _ listing
    c.args.running c.in-Some.question c.in_ok-answer.answer c.resume.new.run.next c.resume.new.run.interp
    c.in-Some.ensures.0 c.shown.ensures c.requires.ready (c.in_ok-answer.ensures (names_of c.args.natives.now))
    (subst (λ (came : Came). Resumed (names_of c.args.natives.now) c.in_ok-answer.answer c.resume.new.run.next c.resume.new.run.interp came.interp) c.in-Some.ensures.1 c.resume.ensures))
