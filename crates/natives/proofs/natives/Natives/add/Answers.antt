use Rattle.std.proofs.Common.{◌≡◌, ◌∙◌, length, ap, rules}
use Rattle.std.specs.Prelude.{slice_index}
use Rattle.natives.specs.Hints.{hint_place}
use Rattle.natives.specs.Hinted.{next_hint}
use Rattle.natives.proofs.Hinting.{added, kept}
use Rattle.natives.proofs.natives.Natives.add.Goals as goal

pub invariant_of-self : goal.invariant_of-self
invariant_of-self g c =
    let size : length c.args.self.now.hints ≡ 256 = search rules in
    record {
      hinted = added (λ native. native.name) c.args.self.now.list.items c.push.new.self.items c.args.native c.args.self.now.hints c.hint_place-place.result c.next_hint-hint.result
          size (c.hint_place-place.ensures.is ∙ ap hint_place (c.bytes.ensures ∙ c.name.ensures)) c.hint_place-place.ensures.within
          (c.next_hint-hint.ensures ∙ ap (next_hint (slice_index c.args.self.now.hints c.hint_place-place.result)) (c.len.ensures ∙ c.args.self.now.list.ok.0))
          c.in-Ok.ensures.items c.args.self.now.hinted;
    }

pub invariant_of-self-in-Err-1 : goal.invariant_of-self-in-Err-1
invariant_of-self-in-Err-1 g c = record { hinted = kept (λ native. native.name) c.args.self.now.list.items c.push.new.self.items c.args.self.now.hints c.in-Err.ensures.items c.args.self.now.hinted }
