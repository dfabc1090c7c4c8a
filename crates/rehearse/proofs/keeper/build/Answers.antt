use Rattle.natives.specs.Names.{names_of}
use Rattle.rehearse.proofs.Keeping.{made_renewed}
use Rattle.rehearse.proofs.keeper.build.Goals as goal

pub returns : goal.returns
returns g c =
    made_renewed (names_of c.args.natives.now) c.args.blueprint.now c.build.result c.epoch.result c.in_ok-defs.defs c.epoch.ensures.allowed c.requires
    c.epoch.ensures.epoch c.in_ok-defs.ensures c.build.ensures.is_new c.build.ensures.blueprint
