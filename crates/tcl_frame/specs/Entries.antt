-- How entries of a table in memory are seen.
use Rattle.std.specs.Prelude.{ℕ, List, Vec, map}
use Rattle.std.specs.declared.alloc.Global.{Global}
use Rattle.txt_core.specs.Names.{Bytes}

-- the entries, each key as the list of its bytes
abbrev pub by_bytes : {V : Type 0} → List (Vec ℕ Global × V) → List (Bytes × V)
by_bytes entries = map (λ entry. (entry.0.items, entry.1)) entries
