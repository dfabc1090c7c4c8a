use Rattle.std.proofs.Common.{arith, ap}
use Rattle.std.proofs.lemmas.List.{length-replicate}
use Rattle.natives.specs.Names.{names_of}
use Rattle.rehearse.specs.declared.keeper.Keeper.{Keeper}
use Rattle.rehearse.specs.declared.objects.Objects.{Objects}
use Rattle.rehearse.specs.World.{idle, all_idle}
use Rattle.rehearse.proofs.Moving.{shows_length}
use Rattle.rehearse.proofs.Opening.{ready_opening}
use Rattle.rehearse.proofs.machine.Machine.new.Goals as goal

pub returns-clause-ready : goal.returns-clause-ready
returns-clause-ready g c =
    let names = names_of c.args.natives.now in
    ready_opening names _ c.in_ok-objects.ensures (ap (λ (k : Keeper). k.interp) c.new-3.ensures) c.new-4.ensures.0 c.new-4.ensures.1
    (c.in_ok-workers.ensures.ready names c.in_ok-objects.objects.blueprint (ap (λ (o : Objects). o.blueprint.natives) c.in_ok-objects.ensures))
    (omega (arith, shows_length names 0 c.in_ok-workers.workers.items (all_idle 1) (c.in_ok-workers.ensures.shows names), length-replicate 1 idle))
