use Rattle.std.proofs.Common.{◌≡◌, ℕ, ◌+◌, List, [], ◌∷◌, ◌++◌, take, true, false, sym, ap, ◌∙◌, arith}
use Rattle.std.proofs.lemmas.List.{take_all, take_more, append-nil}
use Rattle.url_tables.specs.declared.filters.Passing.{Passing}
use Rattle.url_tables.specs.Filters.{put_if}
use Rattle.url_tables.specs.Searching.{is_passed, passed}
use Rattle.url_tables.proofs.Passed.{passed_is, passed_more}
use Rattle.url_tables.proofs.routes.Routes.filters.Goals as goal
use Rattle.url_tables.proofs.routes.Routes.filters.Goals.{then-is_passed+in_ok-of_copies+in_ok-add, else-is_passed}

pub returns : goal.returns
returns c = λ defs b.
    c.loop-filter.invariant
    ∙ ap (passed c.args.when c.args.method.now c.args.path.now) (take_all c.loop-filter.filter-index c.as_slice-filter-items.result.now (omega arith) ∙ c.as_slice-filter-items.ensures.value ∙ b.filters)
    ∙ passed_is c.args.when c.args.method.now c.args.path.now defs

pub loop-filter-preserved : goal.loop-filter-preserved
loop-filter-preserved c =
    let items = c.as_slice-filter-items.result.now in
    let before : c.loop-filter.list ≡ passed c.args.when c.args.method.now c.args.path.now (take c.loop-filter.filter-index items) = c.loop-filter.invariant in
    let seam : take (c.loop-filter.filter-index + 1) items ≡ take c.loop-filter.filter-index items ++ c.filter-item.result ∷ [] =
    take_more items c.loop-filter.filter-index c.filter-item.result c.loop-filter-test.true ∙ ap (λ (x : Passing). take c.loop-filter.filter-index items ++ x ∷ []) (sym c.filter-item.is) in
    let step : c.if-is_passed.list ≡ passed c.args.when c.args.method.now c.args.path.now (take c.loop-filter.filter-index items) ++ put_if (is_passed c.args.when c.args.method.now c.args.path.now c.filter-item.result) c.filter-item.result.words [] =
    elim c.if-is_passed.branch [
      | then-is_passed+in_ok-of_copies+in_ok-add w ↦ let t : is_passed c.args.when c.args.method.now c.args.path.now c.filter-item.result ≡ true = sym c.is_passed.ensures ∙ w.if-is_passed.true in
          rw t (w.list-is ∙ w.in_ok-add.ensures.ok ∙ ap (λ (l : List (List (List ℕ))). l ++ w.in_ok-of_copies.field-0 ∷ []) before ∙ ap (λ (x : List (List ℕ)). passed c.args.when c.args.method.now c.args.path.now (take c.loop-filter.filter-index items) ++ x ∷ []) (w.in_ok-of_copies.ensures ∙ w.as_slice.ensures))
      | else-is_passed w ↦ let t : is_passed c.args.when c.args.method.now c.args.path.now c.filter-item.result ≡ false = sym c.is_passed.ensures ∙ w.if-is_passed.false in
          rw t (w.list-is ∙ before ∙ sym (append-nil (passed c.args.when c.args.method.now c.args.path.now (take c.loop-filter.filter-index items))))
    ] in
    step ∙ sym (ap (passed c.args.when c.args.method.now c.args.path.now) seam ∙ passed_more c.args.when c.args.method.now c.args.path.now (take c.loop-filter.filter-index items) c.filter-item.result)
