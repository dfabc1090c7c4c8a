-- What writing and removing mean, key by key.
use Rattle.std.specs.Prelude.{◌≡◌, ◌≢◌, ◌∷◌, true, if◌then◌else◌, Option, None, Some, bytes_eq}
use Rattle.std.specs.FinMap as map
use Rattle.std.specs.Option.{option_or}
use Rattle.txt_core.specs.Names.{Bytes, Words}
use Rattle.nsv_bucket.specs.Arrays.{Array, Arrays, value_of, with_value, without_key}
use Rattle.txt_core.specs.Keyed.{with_pairs}

-- A value that is written is found at its key in its array. Each other key of that array has the value that it had, and
-- each other array is as it was.
pub record WritesOne (arrays : Arrays) (name key value : Bytes) : Type 0 where
  pub found : value_of (with_value arrays name key value) name key ≡ Some value
  pub other_key : (other : Bytes) → other ≢ key → value_of (with_value arrays name key value) name other ≡ value_of arrays name other
  pub other_array : (other : Bytes) → other ≢ name → map.get (with_value arrays name key value) other ≡ map.get arrays other

-- A key that is removed isn't found. The array stands, each other key of it has its value, and each other array is as it was.
pub record RemovesOne (arrays : Arrays) (name key : Bytes) : Type 0 where
  pub gone : value_of (without_key arrays name key) name key ≡ None
  pub stands : map.contains_key (without_key arrays name key) name ≡ true
  pub other_key : (other : Bytes) → other ≢ key → value_of (without_key arrays name key) name other ≡ value_of arrays name other
  pub other_array : (other : Bytes) → other ≢ name → map.get (without_key arrays name key) other ≡ map.get arrays other

-- the value behind the last place at which the key stands among the pairs
abbrev pub last_value : Bytes → Words → Option Bytes
last_value key (first ∷ value ∷ rest) = option_or (last_value key rest) (if bytes_eq key first then Some value else None)
last_value key _ = None

-- after pairs were written, a key has its last value among them, or else the value that it had
abbrev pub WritesPairs : Array → Words → Type 0
WritesPairs array pairs = (key : Bytes) → map.get (with_pairs array pairs) key ≡ option_or (last_value key pairs) (map.get array key)
