use Rattle.std.proofs.Common.{◌-◌, ◌/◌, ◌%◌, arith}
use Rattle.sched_core.proofs.Next.{is_next}
use Rattle.sched_core.proofs.due.next_moment.Goals as goal

pub returns-clause-next : goal.returns-clause-next
returns-clause-next c =
    let now = c.args.now in let due = c.args.due in let n = c.args.seconds in
    is_next due n ((now - due) / n) ((now - due) % n) now _ (omega arith) (omega arith) (omega arith)
