-- What a schedule holds.
use Rattle.std.specs.Prelude.{ℕ, Bool, List}
use Rattle.std.specs.declared.cmp.Ordering.{Ordering}
use Rattle.std.specs.Ordering.{nat_cmp, ordering_then}
use Rattle.std.specs.List.Sorted.{IsStrictlySortedBy}
use Rattle.std.specs.Map.{keys_of}
use Rattle.txt_core.specs.Names.{Moment}
use Rattle.sched_core.specs.declared.plan.Plan.{Plan}

-- an entry: when it is due and its id, and what it does
abbrev pub Entry : Type 0
Entry = (ℕ × ℕ) × Plan

-- the most seconds from one run to the next: those of a year of 365 days
abbrev pub most_seconds : ℕ
most_seconds = 31536000

-- how many entries a schedule has at most
abbrev pub most_entries : ℕ
most_entries = 10000

-- the id that is never given: the last number of 64 bits
abbrev pub last_id : ℕ
last_id = 18446744073709551615

-- the moment at which an entry is due
abbrev pub due_of : Entry → Moment
due_of e = e.0.0

-- an entry's id
abbrev pub id_of : Entry → ℕ
id_of e = e.0.1

-- the order of entries: by due moment, and then by id
abbrev pub key_cmp : ℕ × ℕ → ℕ × ℕ → Ordering
key_cmp a b = ordering_then (nat_cmp a.0 b.0) (nat_cmp a.1 b.1)

-- the entries stand in this order, each once
abbrev pub AreInOrder : List Entry → Type 0
AreInOrder es = IsStrictlySortedBy key_cmp (keys_of es)

-- a schedule: the id that the next entry gets, the entries in order, and whether it was stopped
pub record State : Type 0 where
  pub next : ℕ
  pub entries : List Entry
  pub stopped : Bool
