use Rattle.std.proofs.Common.{ℕ, refl, subst}
use Rattle.worker.specs.Renewing.{TellsLook}
use Rattle.worker.proofs.Looking.{tells_look}
use Rattle.worker.proofs.look.look.Goals as goal

pub returns-clause-looks : goal.returns-clause-looks
returns-clause-looks g c =
    let p = c.args.passes.now in
    let q = record p { blueprint = c.turn-place.new.pass } in
    subst (λ (k : ℕ). TellsLook p c.place_told.result k c.look_in-look.result q) c.known_epoch-known.ensures
    (tells_look p q c.turn-place.result.place c.known_epoch-known.result c.turn-place.result.reply c.look_in-look.result c.place_told.result c.turn-place.ensures.turn refl refl c.look_in-look.ensures c.place_told.ensures)
