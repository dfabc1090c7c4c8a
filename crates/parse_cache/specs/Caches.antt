-- A cache of scripts, and what a call makes of it.
use Rattle.std.specs.Prelude.{ℕ, ◌+◌, ◌-◌, ◌^◌, min, cond, Bool, [], ◌∷◌, take, bytes_eq}
use Rattle.std.specs.List.{list_any}
use Rattle.txt_core.specs.Names.{Bytes, Words}

-- How many keys there may be; the keys, each of which is the whole text of a script, with the most recently used first; and how often the text that was asked for was a key, which is a hit.
pub record Cache : Type 0 where
  pub capacity : ℕ
  pub keys : Words
  pub hits : ℕ

-- How many keys there may be at most in any cache.
abbrev pub most_scripts : ℕ
most_scripts = 4096

-- A new cache.
abbrev pub empty : ℕ → Cache
empty capacity = record { capacity = capacity; keys = []; hits = 0 }

-- Whether a text is a key.
abbrev pub is_key : Bytes → Cache → Bool
is_key t cache = list_any (bytes_eq t) cache.keys

-- Keys without this one. (No key is there twice: a text becomes one where it is none.)
abbrev pub without : Bytes → Words → Words
without t [] = []
without t (k ∷ ks) = cond (bytes_eq t k) ks (k ∷ without t ks)

-- A count with one more; at the end of its type it stands still.
abbrev pub raised : ℕ → ℕ
raised n = min (n + 1) (2 ^ 64 - 1)

-- A hit is counted, and its key goes to the front.
abbrev pub hit : Bytes → Cache → Cache
hit t cache = record cache { keys = t ∷ without t cache.keys; hits = raised cache.hits }

-- A text that was no key becomes the first one; the last key of a full cache is dropped.
abbrev pub added : Bytes → Cache → Cache
added t cache = record cache { keys = t ∷ take (cache.capacity - 1) cache.keys }

-- The cache after it gave the script of a text.
abbrev pub used : Bytes → Cache → Cache
used t cache = cond (is_key t cache) (hit t cache) (added t cache)
