-- Values by text: what writes make of them, and what takes a write back.
use Rattle.std.specs.Prelude.{◌∷◌, Option, Some, None, if◌then◌else◌}
use Rattle.std.specs.FinMap as map
use Rattle.txt_core.specs.Names.{Bytes, Words}
use Rattle.txt_core.specs.Order.{text_cmp}

-- texts by key, in byte order of the keys
abbrev pub Texts : Type 0
Texts = map.FinMap text_cmp Bytes

-- with the text behind each key of a list in which they take turns, so of a key that comes twice the last text stands. A key
-- without a text, at the end, is left out
abbrev pub with_pairs : Texts → Words → Texts
with_pairs texts (key ∷ text ∷ rest) = with_pairs (map.insert texts key text) rest
with_pairs texts _ = texts

-- values where a key has again what it had before: this value in place of the one that it has, or none; where a value is given and the
-- key has none, nothing changes
abbrev pub given_back : {V : Type 0} → map.FinMap text_cmp V → Bytes → Option V → map.FinMap text_cmp V
given_back values key None = map.remove values key
given_back values key (Some value) = if map.contains_key values key then map.insert values key value else values
