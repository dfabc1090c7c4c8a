use Rattle.std.proofs.Common.{sym, ◌∙◌}
use Rattle.natives.specs.Names.{names_of}
use Rattle.rehearse.specs.Playing.{setting_of}
use Rattle.rehearse.proofs.Settling.{defined_first, defined_more, defined_last, questions_fall, writes_nothing}
use Rattle.rehearse.proofs.defining.Run.finish.Goals as goal

pub questions-init : goal.questions-init
questions-init g c = defined_first (setting_of (names_of c.args.natives.now) c.args.setting.now) c.args.self.now c.args.objects.now c.requires.ready

pub answer-requires : goal.answer-requires
answer-requires g c = record { asks = (_, sym c.next.ensures.next ∙ c.in-Asks.is); ready = c.questions.invariant.ready }

pub questions-preserved : goal.questions-preserved
questions-preserved g c =
    defined_more (setting_of (names_of c.args.natives.now) c.args.setting.now) c.args.self.now c.args.objects.now c.questions.self _ c.questions.objects _
    c.questions.invariant c.in_ok-answer-in-Asks.ensures

pub questions-smaller : goal.questions-smaller
questions-smaller g c = questions_fall c.questions.self.run.next _ c.in-Asks.field-0 c.questions.self.run.interp _ (sym c.next.ensures.next ∙ c.in-Asks.is) c.in_ok-answer-in-Asks.ensures.falls

pub returns-in-Ended : goal.returns-in-Ended
returns-in-Ended g c = (
  c.in-Ended.field-0,
  defined_last (setting_of (names_of c.args.natives.now) c.args.setting.now) c.args.self.now c.args.objects.now c.in-Ended.field-0 c.questions.self c.questions.objects
      (sym c.next.ensures.next ∙ c.in-Ended.is) c.next.ensures.stands c.questions.invariant,
)

pub unreachable-requires : goal.unreachable-requires
unreachable-requires g c =
    writes_nothing c.one_response.ensures (setting_of (names_of c.args.natives.now) c.args.setting.now) c.args.self.now c.args.objects.now c.in-Write.field-0 c.questions.self c.questions.objects
    (sym c.next.ensures.next ∙ c.in-Write.is) c.questions.invariant c.requires.stands
