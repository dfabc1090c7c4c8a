-- The place of a name among natives.
use Rattle.std.specs.Prelude.{ℕ, ◌+◌, ◌*◌, ◌-◌, ◌/◌, ◌%◌, length, slice_index}
use Rattle.txt_core.specs.Names.{Bytes}

-- the place of a text in a table of 256 places, by its length, the byte at its half, the third byte from the end (of a shorter text its first)
-- and the last
unfoldable pub hint_place : Bytes → ℕ
hint_place text = (length text % 256 * 25 + slice_index text (length text / 2) * 19 + slice_index text (length text - 3) * 50 + slice_index text (length text - 1) * 3) % 256
