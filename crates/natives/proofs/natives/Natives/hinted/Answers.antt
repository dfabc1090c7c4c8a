use Rattle.std.proofs.Common.{◌≡◌, ◌<◌, ◌+◌, ◌∙◌, is_some, map, sym, ap, arith}
use Rattle.std.specs.Prelude.{bytes_eq, slice_get}
use Rattle.natives.proofs.Hinting.{somewhere, no_hint, not_hinted, other_hinted, stands, stands_none}
use Rattle.natives.proofs.natives.Natives.hinted.Goals as goal

pub returns-in_err-at-clause-there : goal.returns-in_err-at-clause-there
returns-in_err-at-clause-there g c =
    let none : c.args.hint < 1 = omega (arith, c.from.ensures, c.in_err-at.ensures) in
    ap (λ o. is_some o) c.from_residual.ensures ∙ sym (no_hint c.args.self.now.hints (map (λ native. native.name) c.args.self.now.list.items) c.args.name.now c.args.hint c.args.self.now.hinted c.requires.hint none)

pub returns-in_err-native-clause-there : goal.returns-in_err-native-clause-there
returns-in_err-native-clause-there g c =
    let here : c.args.hint ≡ c.in_ok-at.at + 1 = omega (arith, c.from.ensures, c.in_ok-at.ensures) in
    ap (λ o. is_some o) c.from_residual-in_err-native.ensures
    ∙ sym (not_hinted c.args.self.now.hints (map (λ native. native.name) c.args.self.now.list.items) c.args.name.now c.args.hint c.in_ok-at.at c.args.self.now.hinted c.requires.hint c.requires.one here
    (ap (λ items. slice_get (map (λ native. native.name) items) c.in_ok-at.at) (sym c.deref.ensures.value) ∙ stands_none (λ native. native.name) c.deref.result.now c.in_ok-at.at c.in_err-native.ensures.lookup.0))

pub returns-then-eq-clause-there : goal.returns-then-eq-clause-there
returns-then-eq-clause-there g c =
    sym (somewhere (map (λ native. native.name) c.args.self.now.list.items) c.in_ok-at.at c.in_ok-native.native.now.name c.args.name.now
    (ap (λ items. slice_get (map (λ native. native.name) items) c.in_ok-at.at) (sym c.deref.ensures.value) ∙ stands (λ native. native.name) c.deref.result.now c.in_ok-at.at c.in_ok-native.native.now _ c.in_ok-native.ensures.lookup.0 c.in_ok-native.ensures.lookup.1)
    (ap (λ n. bytes_eq n c.args.name.now) (sym c.name.ensures) ∙ sym c.eq.ensures ∙ c.if-eq.true))

pub returns-clause-there : goal.returns-clause-there
returns-clause-there g c =
    let here : c.args.hint ≡ c.in_ok-at.at + 1 = omega (arith, c.from.ensures, c.in_ok-at.ensures) in
    sym (other_hinted c.args.self.now.hints (map (λ native. native.name) c.args.self.now.list.items) c.args.name.now c.in_ok-native.native.now.name c.args.hint c.in_ok-at.at c.args.self.now.hinted c.requires.hint c.requires.one here
    (ap (λ items. slice_get (map (λ native. native.name) items) c.in_ok-at.at) (sym c.deref.ensures.value) ∙ stands (λ native. native.name) c.deref.result.now c.in_ok-at.at c.in_ok-native.native.now _ c.in_ok-native.ensures.lookup.0 c.in_ok-native.ensures.lookup.1)
    (ap (λ n. bytes_eq n c.args.name.now) (sym c.name.ensures) ∙ sym c.eq.ensures ∙ c.if-eq.false))
