use Rattle.std.proofs.Common.{sym}
use Rattle.natives.specs.Names.{names_of}
use Rattle.rehearse.proofs.Keeping.{kept}
use Rattle.rehearse.proofs.keeper.Keeper.take.Goals as goal

pub returns-in_default-clause-is_new : goal.returns-in_default-clause-is_new
returns-in_default-clause-is_new g c = c.build.ensures

pub returns-then-marked-clause-is_new : goal.returns-then-marked-clause-is_new
returns-then-marked-clause-is_new g c = c.build-then-marked.ensures

pub renew-requires : goal.renew-requires
renew-requires g c =
    let k = kept (names_of c.args.natives.now) c.args.blueprint.now c.args.self.now c.in-Some.interp (sym c.in-Some.ensures.value) c.requires in
    (k.1, k.0)

pub returns-clause-is_new : goal.returns-clause-is_new
returns-clause-is_new g c = c.renew.ensures
