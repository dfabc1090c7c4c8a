-- How many words the commands take, the name among them.
use Rattle.std.specs.Prelude.{ℕ, ◌+◌, ◌≤◌, length, if◌then◌else◌, codes, bytes_eq}
use Rattle.txt_core.specs.Names.{Bytes, Words}
use Rattle.txt_core.specs.Limits.{run_budget}

-- the least and the most words of a command
pub record Range : Type 0 where
  pub least : ℕ
  pub most : ℕ

abbrev pub exactly : ℕ → Range
exactly count = record { least = count; most = count }

abbrev pub from_to : ℕ → ℕ → Range
from_to least most = record { least = least; most = most }

-- a command without a limit of its own takes its name and as many words as a run may spend
abbrev pub unlimited : ℕ
unlimited = run_budget + 1

-- each command by its name; any other name has no range that a list of words could be in
unfoldable pub range_of : Bytes → Range
range_of name =
    if bytes_eq name (codes "list") then from_to 1 unlimited
    else if bytes_eq name (codes "concat") then from_to 1 unlimited
    else if bytes_eq name (codes "lindex") then exactly 3
    else if bytes_eq name (codes "llength") then exactly 2
    else if bytes_eq name (codes "lrange") then exactly 4
    else if bytes_eq name (codes "linsert") then from_to 4 unlimited
    else if bytes_eq name (codes "lreplace") then from_to 4 unlimited
    else if bytes_eq name (codes "lsearch") then from_to 3 4
    else if bytes_eq name (codes "lsort") then from_to 2 6
    else if bytes_eq name (codes "split") then from_to 2 3
    else if bytes_eq name (codes "join") then from_to 2 3
    else if bytes_eq name (codes "format") then from_to 2 unlimited
    else if bytes_eq name (codes "string") then from_to 3 5
    else from_to 1 0

-- the number of words is one that the command of this name takes
abbrev pub InRange : Bytes → Words → Type 0
InRange name words = ((range_of name).least ≤ length words) × (length words ≤ (range_of name).most)
