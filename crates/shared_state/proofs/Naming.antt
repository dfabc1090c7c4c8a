-- Passes that know the same names.
use Rattle.std.proofs.Common.{◌≡◌, ℕ, Bool, true, false, cond, nat_lt, List, sym, subst}
use Rattle.txt_core.specs.Shares.{WHOLE}
use Rattle.turn_cell.specs.Passes.{fresh, joined, less_one, part_of}
use Rattle.blueprint.specs.States as blueprints
use Rattle.shared_state.specs.Cells.{HaveSameNames}
use Rattle.shared_state.specs.Views.{BlueView}

same_names : (names : List (List ℕ)) → HaveSameNames names names
same_names names name = (λ h. h, λ h. h)

-- a view that is another one in its low state knows its names
pub new_knows : (names : List (List ℕ)) (v : BlueView) → v ≡ fresh WHOLE 0 (blueprints.fresh names) (blueprints.fresh names)
    → HaveSameNames names v.low.natives
new_knows names v is = subst (λ (w : BlueView). HaveSameNames names w.low.natives) (sym is) (same_names names)

pub old_knows : (names : List (List ℕ)) (v w : BlueView) → w ≡ less_one v → HaveSameNames names v.low.natives → HaveSameNames names w.low.natives
old_knows names v w is known = subst (λ (x : BlueView). HaveSameNames names x.low.natives) (sym is) known

pub part_knows : (names : List (List ℕ)) (v w : BlueView) → w ≡ part_of v → HaveSameNames names v.low.natives → HaveSameNames names w.low.natives
part_knows names v w is known = subst (λ (x : BlueView). HaveSameNames names x.low.natives) (sym is) known

either : (names : List (List ℕ)) (test : Bool) (s t : blueprints.State) → HaveSameNames names s.natives → HaveSameNames names t.natives
    → HaveSameNames names (cond test s t).natives
either names true s t a b = a
either names false s t a b = b

pub joined_knows : (names : List (List ℕ)) (v other w : BlueView) → w ≡ joined v other
    → HaveSameNames names v.low.natives → HaveSameNames names other.low.natives → HaveSameNames names w.low.natives
joined_knows names v other w is a b =
    subst (λ (x : BlueView). HaveSameNames names x.low.natives) (sym is) (either names (nat_lt v.seen other.seen) other.low v.low b a)
