use Rattle.std.proofs.Common.{refl, sym, subst, ◌∙◌, ap}
use Rattle.natives.specs.Names.{names_of}
use Rattle.server_host.specs.declared.edition.Edition.{Edition}
use Rattle.ictl.specs.Falls.{StandsAt}
use Rattle.ictl.specs.declared.next.Next.{Next}
use Rattle.rehearse.specs.declared.defining.Run.{Run}
use Rattle.rehearse.specs.Objects.{Setting}
use Rattle.rehearse.specs.Defining.{begun_block}
use Rattle.rehearse.specs.Playing.{setting_of}
use Rattle.rehearse.proofs.Settling.{begun_defines, told_end}
use Rattle.rehearse.proofs.Standing.{on_same, names_later}
use Rattle.rehearse.proofs.Telling.{on_ok}
use Rattle.rehearse.proofs.defining.Definer.define.Goals as goal

pub finish-requires-clause-ready : goal.finish-requires-clause-ready
finish-requires-clause-ready g c =
    let made = c.in_ok-interp.interp in
    let begun = c.begin_define-begun.ensures in
    record {
      sound = begun.sound;
      on = on_same (names_of c.args.natives.now) c.args.objects.now.blueprint c.begin_define-begun.result.interp made begun.blueprint c.in_ok-interp.ensures.is_new.2;
    }

pub finish-requires-clause-stands : goal.finish-requires-clause-stands
finish-requires-clause-stands g c =
    let setting : Setting = (setting_of (names_of c.args.natives.now) c.args.setting.now) in
    let run : Run = record { run = c.begin_define-begun.result; moment = c.args.setting.now.moment; epoch = c.epoch.result } in (
      begun_block setting c.args.objects.now c.args.block.now,
      begun_defines setting.natives setting c.args.objects.now c.args.block.now run c.in_ok-interp.interp
          c.in_ok-interp.ensures.is_new.1 c.begin_define-begun.ensures refl (c.epoch.ensures ∙ ap (λ (b : Edition). b.epoch) c.begin_define-begun.ensures.blueprint),
    )

pub unreachable-requires : goal.unreachable-requires
unreachable-requires g c = c.in_default.not-Ended c.in-Ok.ensures.0 (c.into_parts-next.ensures.next ∙ c.in-Ok.ensures.1.end_is)

pub push_define-requires : goal.push_define-requires
push_define-requires g c = (subst (λ (n : Next). StandsAt n c.finish.new.self.run.interp) (sym c.into_parts-next.ensures.next ∙ c.in-Ended.is) c.into_parts-next.ensures.stands).0

pub returns-in-Ended-clause-settled : goal.returns-in-Ended-clause-settled
returns-in-Ended-clause-settled g c =
    let setting : Setting = (setting_of (names_of c.args.natives.now) c.args.setting.now) in
    let run : Run = record { run = c.begin_define-begun.result; moment = c.args.setting.now.moment; epoch = c.epoch.result } in
    let seen = begun_defines setting.natives setting c.args.objects.now c.args.block.now run c.in_ok-interp.interp
    c.in_ok-interp.ensures.is_new.1 c.begin_define-begun.ensures refl (c.epoch.ensures ∙ ap (λ (b : Edition). b.epoch) c.begin_define-begun.ensures.blueprint) in
    let done = told_end setting run c.args.objects.now c.in-Ok.ensures.0 c.in-Ended.outcome c.finish.new.self _ (sym c.into_parts-next.ensures.next ∙ c.in-Ended.is) c.in-Ok.ensures.1 in
    on_ok c.push_define.result
    (λ tells. (_, done.settles (begun_block setting c.args.objects.now c.args.block.now) seen, done.reaches, tells))
    c.push_define.ensures

pub returns-in-Ended-clause-keeps : goal.returns-in-Ended-clause-keeps
returns-in-Ended-clause-keeps g c =
    let done = c.in-Ok.ensures.1 in
    on_ok c.push_define.result
    (λ tells. (rw c.into_parts-next.ensures.interp at c.keep.ensures) (names_of c.args.natives.now) _ (names_later _ _ done.reaches ∙ c.requires.0) done.ready.sound done.ready.on)
    c.push_define.ensures
