use Rattle.std.proofs.Common.{refl, sym, subst, ℕ}
use Rattle.sched_core.specs.Steps.{ScheduleSteps}
use Rattle.sched_core.specs.declared.call.SchedCall.TheVariants as calls
use Rattle.rehearse.proofs.Turning.{takes_stepped}
use Rattle.rehearse.proofs.scheduler.Scheduler.take_due.Goals as goal

pub returns : goal.returns
returns c = λ setting listing same ready.
    takes_stepped setting c.args.self.now _ c.args.objects.now _ listing c.act-reply.result c.act-reply.new.self c.requires ready
    (subst (λ (m : ℕ). ScheduleSteps c.args.objects.now.schedule (calls.Due m) c.act-reply.result c.act-reply.new.self) (sym same) c.act-reply.ensures.step)
    c.act-reply.ensures.allowed c.in_ok-self.ensures.some refl c.in_ok-self.ensures.scripts refl c.requires.0 refl
