use Rattle.std.proofs.Common.{◌≡◌, ◌+◌, ◌-◌, ap, ◌∙◌, length, take, drop, arith}
use Rattle.std.proofs.lemmas.List.{take_rest}
use Rattle.blueprint.specs.States.{State}
use Rattle.blueprint.proofs.Keeping.{since_state}
use Rattle.blueprint.proofs.blueprint.Blueprint.since.Goals as goal

pub returns : goal.returns
returns c =
    let a = c.self.inside in
    let base : a.base ≡ c.args.self.now.base = ap (λ (s : State). s.base) c.self.view_is in
    let place : c.args.epoch ≡ a.base + (c.args.epoch - a.base) = omega (arith, base, c.requires.base) in
    let place_of = c.args.epoch - a.base in
    let lists = take (length c.deref.result.now - place_of) (drop place_of c.deref.result.now) in
    let behind : lists ≡ drop place_of a.later.items = take_rest c.deref.result.now place_of ∙ ap (drop place_of) c.deref.ensures.value in
    since_state a.natives a.base a.saved a.later.items lists c.args.self.now c.args.epoch (c.args.epoch - a.base) c.new-defs.result c.add_all_copies.new.all
    c.self.view_is place behind c.new-defs.ensures c.in_ok-add_all_copies.ensures
