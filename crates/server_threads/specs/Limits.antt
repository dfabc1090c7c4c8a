-- How many parts there may be.
use Rattle.std.specs.Prelude.{ℕ}

-- the most parts beside the acceptor: the keeper of time, and the workers
abbrev pub most_parts : ℕ
most_parts = 1000
