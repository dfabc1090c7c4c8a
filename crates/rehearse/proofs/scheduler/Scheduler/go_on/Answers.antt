use Rattle.std.proofs.Common.{sym, ◌∙◌}
use Rattle.natives.specs.Names.{names_of}
use Rattle.rehearse.specs.Playing.{setting_of}
use Rattle.rehearse.proofs.Turning.{writes_nothing}
use Rattle.rehearse.proofs.scheduler.Scheduler.go_on.Goals as goal

pub answer-requires : goal.answer-requires
answer-requires g c = record { asks = (_, sym c.next.ensures.next ∙ c.in-Asks.is); ready = c.requires.ready }

pub returns-in-Asks : goal.returns-in-Asks
returns-in-Asks g c = c.answer.ensures c.args.listing.now

pub end-requires-clause-ended : goal.end-requires-clause-ended
end-requires-clause-ended g c = (_, sym c.next.ensures.next ∙ c.in-Ended.is)

pub returns-in-Ended : goal.returns-in-Ended
returns-in-Ended g c = c.end.ensures (setting_of (names_of c.args.natives.now) c.args.setting.now) c.args.objects.now c.requires.ready

pub unreachable-requires : goal.unreachable-requires
unreachable-requires g c =
    writes_nothing c.one_response.ensures (names_of c.args.natives.now) c.args.objects.now.blueprint c.args.running c.in-Write.field-0 (sym c.next.ensures.next ∙ c.in-Write.is) c.requires.ready.1
