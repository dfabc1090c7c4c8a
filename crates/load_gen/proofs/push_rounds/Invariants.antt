use Rattle.std.proofs.Common.{◌≡◌, ◌<◌, ◌≤◌, ℕ, ◌+◌, ◌-◌, ◌++◌}
use Rattle.load_gen.specs.Load.{rounds}
use Rattle.load_gen.proofs.push_rounds.Given as goal

abbrev pub invariant-loop-k : goal.invariant-loop-k
invariant-loop-k l =
    (l.x < 2147483648) × (l.k ≤ l.fn.first + l.fn.count)
    × ((more : ℕ) → l.file ++ rounds (l.fn.first + l.fn.count + more - l.k) l.k l.x ≡ l.fn.file ++ rounds (l.fn.count + more) l.fn.first l.fn.drawn)
