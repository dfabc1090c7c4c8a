use Rattle.std.proofs.Common.{◌≡◌, ◌∙◌, ◌-◌, sym, ap, Some, ℕ, ℤ, List, take, drop, length, rules, FitsSigned, true, false}
use Rattle.std.specs.Prelude.{nat_eq, bytes_eq, codes}
use Rattle.std.specs.List.{starts_with}
use Rattle.std.specs.Int.{w64}
use mir.Syntax.{w128}
use Rattle.std.proofs.lemmas.Int.{to_z-of_z}
use Rattle.std.proofs.lemmas.List.{take_rest}
use Rattle.txt_core.specs.Number.{number}
use Rattle.natives.specs.Indexes.{place_before, end_place, before_end_place, number_place}
use Rattle.natives.proofs.index.read_index.Goals as goal

pub returns-then-eq : goal.returns-then-eq
returns-then-eq c =
    let fits : FitsSigned w64 c.args.last = search rules in
    let wide : FitsSigned w128 c.from.result = search rules in
    let yes_end : bytes_eq c.args.word.now (codes "end") ≡ true = ap (bytes_eq c.args.word.now) (sym c.as_slice.ensures) ∙ sym c.eq.ensures ∙ c.if-eq.true in
    ap (λ (n : ℤ). Some n) (to_z-of_z w128 c.from.result wide ∙ c.from.ensures ∙ to_z-of_z w64 c.args.last fits) ∙ sym (end_place c.args.last c.args.word.now yes_end)

pub returns-then-starts_with : goal.returns-then-starts_with
returns-then-starts_with c =
    let fits : FitsSigned w64 c.args.last = search rules in
    let no_end : bytes_eq c.args.word.now (codes "end") ≡ false = ap (bytes_eq c.args.word.now) (sym c.as_slice.ensures) ∙ sym c.eq.ensures ∙ c.if-eq.false in
    let before : starts_with nat_eq c.args.word.now (codes "end-") ≡ true = sym c.starts_with.ensures.value ∙ c.if-starts_with.true in
    c.place_before.ensures ∙ ap (λ (last : ℤ). place_before last (number (take (length c.args.word.now - 4) (drop 4 c.args.word.now)))) (to_z-of_z w64 c.args.last fits)
    ∙ ap (λ (t : List ℕ). place_before c.args.last (number t)) (take_rest c.args.word.now 4) ∙ sym (before_end_place c.args.last c.args.word.now no_end before)

pub returns : goal.returns
returns c =
    let no_end : bytes_eq c.args.word.now (codes "end") ≡ false = ap (bytes_eq c.args.word.now) (sym c.as_slice.ensures) ∙ sym c.eq.ensures ∙ c.if-eq.false in
    let not_before : starts_with nat_eq c.args.word.now (codes "end-") ≡ false = sym c.starts_with.ensures.value ∙ c.if-starts_with.false in
    c.number_of.ensures ∙ sym (number_place c.args.last c.args.word.now no_end not_before)
