-- What only `unset` and `global` use: names that fit in room, and links that are taken away.
use Rattle.std.specs.Prelude.{◌≤◌, ◌<◌, ◌+◌, ℕ, List, [], ◌∷◌, length, slice_index_or}
use Rattle.txt_core.specs.Names.{Names}
use Rattle.tcl_frame.specs.Stack.{Stack}
use Rattle.tcl_frame.specs.Frames.{unlinked}
use Rattle.tcl_varcmd.specs.declared.names.NewLink.{NewLink}

-- none of these names has more bytes than so many
abbrev pub AreWithin : ℕ → Names → Type 0
AreWithin most names = (k : ℕ) → k < length names → length (slice_index_or names k []) ≤ most

-- of each of these names the longest refusal of its removal has no more bytes than so many
abbrev pub AreFitting : ℕ → Names → Type 0
AreFitting room names = (k : ℕ) → k < length names → length (slice_index_or names k []) + 32 ≤ room

-- the frames after new links were taken away, the last one first
abbrev pub unlinked_all : List NewLink → Stack → Stack
unlinked_all [] stack = stack
unlinked_all (link ∷ links) stack = unlinked (unlinked_all links stack) link.name.now
