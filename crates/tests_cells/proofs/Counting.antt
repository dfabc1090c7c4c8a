-- Counts of turns, and of what each of them adds.
use Rattle.std.proofs.Common.{◌≡◌, ℕ, suc, ◌+◌, ◌≤◌, ◌<◌, List, [], ◌∷◌, length, ap, ◌∙◌, arith}
use Rattle.turn_cell.specs.declared.view.Entry.{Entry}
use Rattle.turn_cell.specs.declared.view.View.{View}
use Rattle.turn_cell.specs.History.{after_of, IsHistory}
use Rattle.turn_cell.specs.Passes.{joined}
use Rattle.tests_cells.specs.Counts.{TakesCount}
use Rattle.turn_cell.proofs.Histories.{length_merged}

module _ {S C R : Type 0} (allowed : S → Type 0) (step : S → C → R → S → Type 0) (value : S → ℕ) (most : ℕ)
    (adds : (s : S) (c : C) (r : R) (t : S) → step s c r t → value s < most → value t ≡ value s + 1) where
  -- where each step adds one to a number, below a limit, a history adds its length
  pub counted : (n : ℕ) (s : S) (es : List (Entry S C R)) → IsHistory allowed step n s es → value s + length es ≤ most → value (after_of s es) ≡ value s + length es
  counted n s [] h le = omega arith
  counted n s (e ∷ es) h le =
      let before : value e.before ≡ value s = ap value h.0.1 in
      let after : value e.after ≡ value e.before + 1 = adds e.before e.call e.reply e.after h.0.2 (omega (arith, before, le)) in
      let rest = counted (suc n) e.after es h.1 (omega (arith, after, before, le)) in
      omega (arith, rest, after, before)

  -- Four passes of one cell, v to y after their splits, took `each` turns and were joined; the closed cell has four times as many more
  pub four_joined : (each : ℕ) (start done : S) (v₁ v₂ v₃ v₄ w₁ w₂ w₃ w₄ x y z : View S C R)
      → v₁.opening ≡ start → length v₁.own ≡ 0 → length v₂.own ≡ 0 → length v₃.own ≡ 0 → length v₄.own ≡ 0
      → TakesCount v₁ each w₁ → TakesCount v₂ each w₂ → TakesCount v₃ each w₃ → TakesCount v₄ each w₄
      → x ≡ joined w₁ w₂ → y ≡ joined x w₃ → z ≡ joined y w₄
      → IsHistory allowed step 0 z.opening z.own → done ≡ after_of z.opening z.own → value start + (each + each + each + each) ≤ most
      → value done ≡ value start + (each + each + each + each)
  four_joined each start done v₁ v₂ v₃ v₄ w₁ w₂ w₃ w₄ x y z opens n₁ n₂ n₃ n₄ a₁ a₂ a₃ a₄ j₁ j₂ j₃ h is le =
      let long : (u v w : View S C R) → u ≡ joined v w → length u.own ≡ length v.own + length w.own =
      λ u v w e. ap (λ (t : View S C R). length t.own) e ∙ length_merged v.own w.own in
      let l₁ = long x w₁ w₂ j₁ in
      let l₂ = long y x w₃ j₂ in
      let l₃ = long z y w₄ j₃ in
      let total : length z.own ≡ each + each + each + each = omega (arith, n₁, n₂, n₃, n₄, a₁.2, a₂.2, a₃.2, a₄.2, l₁, l₂, l₃) in
      let first : View S C R → S = λ v. v.opening in
      let opening : value z.opening ≡ value start = ap value (ap first j₃ ∙ (ap first j₂ ∙ (ap first j₁ ∙ (a₁.1 ∙ opens)))) in
      let end = counted 0 z.opening z.own h (omega (arith, total, opening, le)) in
      let last : value done ≡ value (after_of z.opening z.own) = ap value is in
      omega (arith, end, last, total, opening)
