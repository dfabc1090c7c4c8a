-- The names that buckets have answered.
use Rattle.std.proofs.Common.{ℕ, List, ◌++◌, Result, Ok, Err}

-- names, with those behind them
abbrev pub behind_names : List (List ℕ) → Result (List (List ℕ)) ℕ → Result (List (List ℕ)) ℕ
behind_names names (Ok more) = Ok (names ++ more)
behind_names names (Err place) = Err place
