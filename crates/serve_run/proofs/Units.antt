-- Shares of passes, one unit of which goes to each thread.
use Rattle.std.proofs.Common.{◌≡◌, ◌+◌, ◌-◌, ◌<◌, ◌≤◌, ℕ, zero, suc, refl, sym, ap, subst, arith}
use Rattle.turn_cell.specs.declared.view.View.{View}
use Rattle.turn_cell.specs.Cells.{pass_view}
use Rattle.txt_core.specs.Shares.{WHOLE}
use Rattle.shared_state.specs.Cells.{HaveJust, HaveUnits, Leave, AreWhole}
use Rattle.shared_state.specs.declared.shared.Passes.{Passes}

module _ {S C R : Type 0} where
  one_left : (n : ℕ) (v w : View S C R) → v.units ≡ suc n → w ≡ record v { units = v.units - 1 } → w.units ≡ n
  one_left n v w just left =
      let less : w.units ≡ v.units - 1 = ap (λ (z : View S C R). z.units) left in
      omega (arith, less, just)

  enough : (n : ℕ) (v : View S C R) → 2 ≤ n → v.units ≡ n → 2 ≤ v.units
  enough n v two just = subst (λ u. 2 ≤ u) (sym just) two

-- each pass gave a unit away
pub units_left : (n : ℕ) (p q : Passes) → HaveJust (suc n) p → Leave p q → HaveJust n q
units_left n p q just left = (
  one_left n (pass_view p.blueprint) (pass_view q.blueprint) just.0 left.0,
  (
    one_left n (pass_view p.nsv.b0) (pass_view q.nsv.b0) just.1.0 left.1.0,
    one_left n (pass_view p.nsv.b1) (pass_view q.nsv.b1) just.1.1 left.1.1,
    one_left n (pass_view p.nsv.b2) (pass_view q.nsv.b2) just.1.2 left.1.2,
    one_left n (pass_view p.nsv.b3) (pass_view q.nsv.b3) just.1.3 left.1.3,
    one_left n (pass_view p.nsv.b4) (pass_view q.nsv.b4) just.1.4 left.1.4,
    one_left n (pass_view p.nsv.b5) (pass_view q.nsv.b5) just.1.5 left.1.5,
    one_left n (pass_view p.nsv.b6) (pass_view q.nsv.b6) just.1.6 left.1.6,
    one_left n (pass_view p.nsv.b7) (pass_view q.nsv.b7) just.1.7 left.1.7,
  ),
  one_left n (pass_view p.schedule) (pass_view q.schedule) just.2 left.2,
)

-- each has a unit for another thread
pub have_two : (n : ℕ) (p : Passes) → 2 ≤ n → HaveJust n p → HaveUnits 2 p
have_two n p two just = (
  enough n (pass_view p.blueprint) two just.0,
  (
    enough n (pass_view p.nsv.b0) two just.1.0,
    enough n (pass_view p.nsv.b1) two just.1.1,
    enough n (pass_view p.nsv.b2) two just.1.2,
    enough n (pass_view p.nsv.b3) two just.1.3,
    enough n (pass_view p.nsv.b4) two just.1.4,
    enough n (pass_view p.nsv.b5) two just.1.5,
    enough n (pass_view p.nsv.b6) two just.1.6,
    enough n (pass_view p.nsv.b7) two just.1.7,
  ),
  enough n (pass_view p.schedule) two just.2,
)

-- So many of the whole share are left, behind so many threads.
pub record AreLeft (given : ℕ) (p : Passes) : Type 0 where
  pub units : ℕ
  pub all : units + given ≡ WHOLE
  pub just : HaveJust units p

left_by : (units given : ℕ) (p q : Passes) → given < 100 → units + given ≡ 65536 → HaveJust units p → Leave p q → AreLeft (given + 1) q
left_by zero given p q few all just left = absurd (omega (arith, few, all))
left_by (suc units) given p q few all just left =
    let one_more : units + (given + 1) ≡ 65536 = omega (arith, all) in
    record { units = units; all = one_more; just = units_left units p q just left }

pub one_more : (given : ℕ) (p q : Passes) → given < 100 → AreLeft given p → Leave p q → AreLeft (given + 1) q
one_more given p q few h left = left_by h.units given p q few h.all h.just left

pub two_left : (given : ℕ) (p : Passes) → given < 100 → AreLeft given p → HaveUnits 2 p
two_left given p few h =
    let all : h.units + given ≡ 65536 = h.all in
    have_two h.units p (omega (arith, few, all)) h.just

pub none_given : (p : Passes) → AreWhole p → AreLeft 0 p
none_given p whole = record { units = WHOLE; all = refl; just = whole }
