-- The schedule of a new server.
use Rattle.std.specs.Prelude.{[], false, Contains}
use Rattle.std.specs.Cmp.{nat_cmp_total}
use Rattle.std.proofs.Common.{ℕ, arith}
use Rattle.std.proofs.lemmas.Cmp.{then_total, on_total}
use Rattle.std.proofs.lemmas.Map.Keys.{sorted_from_all_adjacent}
use Rattle.sched_core.specs.Entries.{Entry}
use Rattle.sched_core.specs.Allowed.{Allowed}

nothing : (e : Entry) → Contains [] e → ⊥
nothing e (k, lt, is) = omega arith

-- no entries are allowed entries
pub empty_allowed : Allowed (record { next = 0; entries = []; stopped = false })
empty_allowed = record {
  few = omega arith;
  in_order = sorted_from_all_adjacent (then_total (on_total (λ (t : ℕ × ℕ). t.0) nat_cmp_total) (on_total (λ (t : ℕ × ℕ). t.1) nat_cmp_total)) [] (0, 0) (λ k lt. absurd (omega arith));
  sound = λ e i. absurd (nothing e i);
  own_ids = λ e f i j same. absurd (nothing e i);
  given = λ e i. absurd (nothing e i);
}
