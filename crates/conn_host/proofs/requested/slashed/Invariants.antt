use Rattle.std.proofs.Common.{◌≡◌, ◌++◌, ℕ, List, take}
use Rattle.std.specs.Prelude.{codes, flat_map}
use Rattle.conn_host.proofs.requested.slashed.Given as goal

abbrev pub invariant-segments : goal.invariant-segments
invariant-segments l = l.path ≡ flat_map (λ (segment : List ℕ). codes "/" ++ segment) (take l.segment-index l.segments)
