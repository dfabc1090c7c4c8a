use Rattle.std.proofs.Common.{refl}
use Rattle.std.specs.Prelude.{None}
use Rattle.outside.specs.declared.question.Service.TheVariants as service
use Rattle.worker.proofs.Answering.{asks_at, asks_arrays, asks_inner}
use Rattle.worker.proofs.ask.ask.Goals as goal

pub returns-in-Page-clause-asks : goal.returns-in-Page-clause-asks
returns-in-Page-clause-asks g c = asks_at c.args.moment c.args.question service.Page c.args.passes.now c.args.passes.now _ _ _ c.page.result None c.in-Page.is (c.page.ensures.asks c.args.moment c.args.passes.now)

pub returns-in-Nsv-clause-asks : goal.returns-in-Nsv-clause-asks
returns-in-Nsv-clause-asks g c = asks_at c.args.moment c.args.question service.Nsv c.args.passes.now _ _ _ _ c.nsv_answer.result None c.in-Nsv.is
    (asks_arrays c.args.moment c.args.question.words c.args.passes.now _ c.ask.result.place c.ask.result.reply _ _ c.nsv_answer.result c.ask.ensures.turn refl refl c.nsv_answer.ensures.answer c.nsv_answer.ensures.some)

pub returns-in-Schedule-clause-asks : goal.returns-in-Schedule-clause-asks
returns-in-Schedule-clause-asks g c = asks_at c.args.moment c.args.question service.Schedule c.args.passes.now c.schedule.new.passes _ _ _ c.schedule.result None c.in-Schedule.is (c.schedule.ensures.asks _ _)

pub returns-in-Publish-clause-asks : goal.returns-in-Publish-clause-asks
returns-in-Publish-clause-asks g c = asks_at c.args.moment c.args.question service.Publish c.args.passes.now c.publish.new.passes _ _ _ c.publish.result c.publish.new.published c.in-Publish.is (c.publish.ensures.asks c.args.moment _ _)

pub returns-in-Save-clause-asks : goal.returns-in-Save-clause-asks
returns-in-Save-clause-asks g c = asks_at c.args.moment c.args.question service.Save c.args.passes.now c.save.new.passes _ _ _ c.save.result None c.in-Save.is (c.save.ensures.asks c.args.moment _ _)

pub returns-in-Inner-clause-asks : goal.returns-in-Inner-clause-asks
returns-in-Inner-clause-asks g c = asks_at c.args.moment c.args.question service.Inner c.args.passes.now c.args.passes.now _ _ _ _ None c.in-Inner.is (asks_inner c.args.moment c.args.question.words c.args.passes.now _ _ _ c.inner_answer.ensures)
