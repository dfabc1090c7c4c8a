use Rattle.std.proofs.Common.{refl, sym, ◌∙◌}
use Rattle.natives.specs.Names.{names_of}
use Rattle.rehearse.specs.Playing.{setting_of}
use Rattle.rehearse.proofs.worker.Worker.serve.Goals as goal

pub answer-requires : goal.answer-requires
answer-requires g c = record { asks = (_, sym c.next.ensures.next ∙ c.in-Asks.is); ready = c.requires.ready }

pub returns-in-Asks : goal.returns-in-Asks
returns-in-Asks g c = c.answer.ensures c.args.listing.now

pub write-requires : goal.write-requires
write-requires g c = record { writing = (_, sym c.next.ensures.next ∙ c.in-Write.is) }

pub returns-in-Write : goal.returns-in-Write
returns-in-Write g c = c.write.ensures (setting_of (names_of c.args.natives.now) c.args.setting.now) c.args.objects.now refl c.requires.ready

pub returns-in-Ended : goal.returns-in-Ended
returns-in-Ended g c =
    c.end.ensures (setting_of (names_of c.args.natives.now) c.args.setting.now) c.args.objects.now c.in-Ended.field-0 (sym c.next.ensures.next ∙ c.in-Ended.is) c.requires.ready
