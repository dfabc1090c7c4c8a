-- 400 turns of one history, each of which adds one.
use Rattle.std.proofs.Common.{◌≡◌, ℕ, ◌+◌, ◌<◌, ◌≤◌, length, ap, ◌∙◌, arith}
use Rattle.turn_cell.specs.declared.view.View.{View}
use Rattle.tests_cells.specs.declared.counters.Counter.{Counter}
use Rattle.tests_cells.specs.declared.counters.Increment.{Increment}
use Rattle.turn_cell.specs.Cells.{pass_view}
use Rattle.tests_cells.proofs.Counting.{four_joined}
use Rattle.tests_cells.proofs.counters.count_in_four.Goals as goal

abbrev Adds : Counter → Increment → ℕ → Counter → Type 0
Adds s call reply t = (reply ≡ t.value) × (s.value ≤ t.value) × (s.value < 18446744073709551615 → t.value ≡ s.value + 1)

abbrev long : View Counter Increment ℕ → ℕ
long v = length v.own

abbrev opens : View Counter Increment ℕ → Counter
opens v = v.opening

pub returns : goal.returns
returns g c =
    let start : Counter = record { value = 0 } in
    let first = c.in_ok-cell.ensures.1 in
    let counted = c.join-first.ensures in
    let end = c.close-counter.ensures.history in
    four_joined _ Adds (λ (s : Counter). s.value) 18446744073709551615 (λ s call reply t h lt. h.2 lt) 100 start c.close-counter.result
    (pass_view c.split-3.new.pass) (pass_view c.in_ok-second.second) (pass_view c.in_ok-third.third) (pass_view c.in_ok-fourth.fourth)
    (pass_view c.join-first.result.0.0.pass) (pass_view c.join-first.result.0.1.pass) (pass_view c.join-first.result.1.0.pass) (pass_view c.join-first.result.1.1.pass)
    (pass_view c.join.new.pass) (pass_view c.join-2.new.pass) (pass_view c.join-3.new.pass)
    (ap opens c.split-3.ensures.left ∙ (ap opens c.split-2.ensures.left ∙ (ap opens c.split.ensures.left ∙ ap opens first)))
    (ap long c.split-3.ensures.left ∙ (ap long c.split-2.ensures.left ∙ (ap long c.split.ensures.left ∙ ap long first)))
    (ap long c.in_ok-second.ensures.right.1) (ap long c.in_ok-third.ensures.right.1) (ap long c.in_ok-fourth.ensures.right.1)
    counted.first.0.1 counted.first.1.1 counted.second.0.1 counted.second.1.1
    c.join.ensures.both c.join-2.ensures.both c.join-3.ensures.both end.0 end.1 (omega arith)
