use Rattle.std.proofs.Common.{sym, ◌∙◌}
use Rattle.std.proofs.lemmas.Bool.{MatchBool-at_false, lt-ltb}
use Rattle.sched_core.specs.Entries.{due_of}
use Rattle.sched_core.specs.Due.{is_later}
use Rattle.sched_core.proofs.Members.{filter_all}
use Rattle.sched_core.proofs.due.drop_due.Goals as goal

pub returns-clause-later : goal.returns-clause-later
returns-clause-later c =
    let late = MatchBool-at_false _ _ c.loop-plans-test.false c.starts_due.ensures in
    sym (filter_all (is_later c.args.now) c.loop-plans.plans.entries (λ e i. lt-ltb c.args.now (due_of e) (late e i))) ∙ c.loop-plans.invariant.filtered
