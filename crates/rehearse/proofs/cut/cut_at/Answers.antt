use Rattle.std.proofs.Common.{◌≡◌, ℕ, ◌+◌, ◌∷◌, ◌++◌, List, take, true, sym, ap, ◌∙◌}
use Rattle.std.specs.List.{list_all}
use Rattle.std.proofs.lemmas.List.{take_all}
use Rattle.rehearse.specs.Reading.{is_other}
use Rattle.rehearse.proofs.Cutting.{parts_at, no_cut, to_end}
use Rattle.rehearse.proofs.cut.cut_at.Goals as goal

pub returns-then-here-byte : goal.returns-then-here-byte
returns-then-here-byte c =
    let xs : List ℕ = c.args.text.now in
    let i : ℕ = c.loop-place.place in (
      c.loop-place.invariant,
      parts_at xs i c.args.byte c.loop-place-test.true c.if-here-byte.true
          ∙ ap (λ (t : List ℕ). take i xs ++ c.args.byte ∷ t) (sym (to_end xs (i + 1))),
    )

pub returns : goal.returns
returns c x h =
    let xs : List ℕ = c.args.text.now in
    let all : list_all (is_other c.args.byte) xs ≡ true = ap (list_all (is_other c.args.byte)) (sym (take_all c.loop-place.place xs c.loop-place-test.false)) ∙ c.loop-place.invariant in
    no_cut c.args.byte xs x all h
