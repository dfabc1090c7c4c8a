use Rattle.std.proofs.Common.{refl, sym, subst, ◌∙◌}
use Rattle.ictl.specs.Falls.{StandsAt}
use Rattle.ictl.specs.declared.next.Next.{Next}
use Rattle.rehearse.proofs.Telling.{on_ok}
use Rattle.rehearse.proofs.Turning.{ends_from}
use Rattle.rehearse.proofs.scheduler.Scheduler.end.Goals as goal

pub unreachable-requires : goal.unreachable-requires
unreachable-requires g c = c.in_default.not-Ended c.requires.ended.0 (c.into_parts-next.ensures.next ∙ c.requires.ended.1)

pub push_script-requires : goal.push_script-requires
push_script-requires g c = (subst (λ (n : Next). StandsAt n c.args.running.run.interp) (sym c.into_parts-next.ensures.next ∙ c.in-Ended.is) c.into_parts-next.ensures.stands).0

pub returns : goal.returns
returns g c = λ setting objects ready.
    on_ok c.push_script.result
    (λ tells.
    ends_from setting c.args.self.now _ objects c.args.listing.now c.push_script.new.self c.args.running c.in-Ended.outcome c.epoch-epoch.result (sym c.into_parts-next.ensures.next ∙ c.in-Ended.is) ready
    (subst (λ (n : Next). StandsAt n c.args.running.run.interp) (sym c.into_parts-next.ensures.next ∙ c.in-Ended.is) c.into_parts-next.ensures.stands).0 (rw c.into_parts-next.ensures.interp at c.epoch-epoch.ensures) tells
    ((rw c.into_parts-next.ensures.interp at c.keep.ensures) setting.natives objects.blueprint ready.0.0 ready.1.0.sound ready.1.0.on) refl refl c.requires.none)
    c.push_script.ensures
