use Rattle.natives.specs.Names.{names_of}
use Rattle.rehearse.proofs.Keeping.{may_renew, all_renewed}
use Rattle.rehearse.proofs.keeper.renew.Goals as goal

pub renew-requires : goal.renew-requires
renew-requires g c =
    may_renew c.since_applies.ensures (names_of c.args.natives.now) c.args.blueprint.now c.args.interp c.epoch.result c.look-look.result c.look-look.ensures.allowed c.requires.0 c.requires.1 c.epoch.ensures c.look-look.ensures.look

pub returns : goal.returns
returns g c =
    all_renewed c.equal_epochs_are_one_state.ensures.same c.since_is_added.ensures c.whole_is_all.ensures.all (names_of c.args.natives.now) c.args.blueprint.now c.args.interp c.epoch.result c.look-look.ensures.allowed
    c.requires.0 c.requires.1 c.epoch.ensures c.renew.result c.look-look.result c.look-look.ensures.look c.renew.ensures.of
