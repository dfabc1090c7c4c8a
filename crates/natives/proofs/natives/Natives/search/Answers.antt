use Rattle.std.proofs.Common.{◌≡◌, ap, sym, ◌∙◌, true, false}
use Rattle.std.specs.Prelude.{bytes_eq}
use Rattle.natives.proofs.Finding.{other_name, this_name, no_name}
use Rattle.natives.proofs.natives.Natives.search.Goals as goal

pub returns-then-eq-clause-there : goal.returns-then-eq-clause-there
returns-then-eq-clause-there g c =
    let same : bytes_eq c.native-item.result.name c.args.name.now ≡ true = ap (λ n. bytes_eq n c.args.name.now) (sym c.name.ensures) ∙ sym c.eq.ensures ∙ c.if-eq.true in
    sym (c.loop-native.invariant ∙ this_name (λ native. native.name) c.deref-native-items.result.now c.loop-native.native-index c.native-item.result c.args.name.now c.loop-native-test.true c.native-item.is same)

pub loop-native-preserved : goal.loop-native-preserved
loop-native-preserved g c =
    let other : bytes_eq c.native-item.result.name c.args.name.now ≡ false = ap (λ n. bytes_eq n c.args.name.now) (sym c.name.ensures) ∙ sym c.eq.ensures ∙ c.if-eq.false in
    c.loop-native.invariant ∙ other_name (λ native. native.name) c.deref-native-items.result.now c.loop-native.native-index c.native-item.result c.args.name.now c.loop-native-test.true c.native-item.is other

pub returns-clause-there : goal.returns-clause-there
returns-clause-there g c =
    sym (c.loop-native.invariant ∙ no_name (λ native. native.name) c.deref-native-items.result.now c.loop-native.native-index c.args.name.now c.loop-native-test.false c.loop-native.auto.native-index-end)
