-- Channels as the list of all that were opened: the bytes not yet read of an open one, nothing of a closed one.
use Rattle.std.specs.Prelude.{ℕ, List, [], Option, Some, None, is_some, count_by, unwrap_or, slice_set}
use Rattle.std.specs.List.{slice_index_or}
use Rattle.txt_core.specs.Names.{Bytes}

-- what is not yet read of the channel of this number, where it is open
abbrev pub channel : List (Option Bytes) → ℕ → Option Bytes
channel chans number = slice_index_or chans number None

-- the bytes not yet read of the channel of this number, none where it isn't open
abbrev pub left_in : List (Option Bytes) → ℕ → Bytes
left_in chans number = unwrap_or (channel chans number) []

-- how many are open
abbrev pub open_count : List (Option Bytes) → ℕ
open_count chans = count_by is_some chans

-- so many channels may be open at once
abbrev pub most_open : ℕ
most_open = 64

-- these bytes are left in the channel of this number
abbrev pub with_left : List (Option Bytes) → ℕ → Bytes → List (Option Bytes)
with_left chans number bytes = slice_set chans number (Some bytes)
