-- What the target of a request says: its path, as segments, and its query.
use Rattle.std.specs.Prelude.{◌==◌, ℕ, Bool, false, not, ◌&&◌, ◌||◌, [], ◌∷◌, drop, map, filter, length, nat_eq, if◌then◌else◌, codes}
use Rattle.std.specs.List.{list_any, starts_with, position_or_len, before_first, after_first, slice_split}
use Rattle.std.specs.Str.{bytes_eq}
use Rattle.percent_encoding.specs.Percent.{percent_decode}
use Rattle.txt_core.specs.Names.{Bytes, Words}
pub use Rattle.txt_core.specs.Paths.{is_slash, begins_with_slash}
pub use Rattle.txt_core.specs.Texts.{is_filled}

abbrev pub is_question : ℕ → Bool
is_question byte = byte == 63

abbrev pub is_backslash : ℕ → Bool
is_backslash byte = byte == 92

-- the beginning of an absolute target
abbrev pub http_scheme : Bytes
http_scheme = codes "http://"

-- the target begins as an absolute one
abbrev pub is_absolute : Bytes → Bool
is_absolute target = starts_with nat_eq target http_scheme

-- a host of at least one byte stands at the front
abbrev pub begins_with_host : Bytes → Bool
begins_with_host [] = false
begins_with_host (byte ∷ rest) = not (is_slash byte || is_question byte)

-- the target is a path, or `http://` with a host, which a path may follow
abbrev pub is_target : Bytes → Bool
is_target target = begins_with_slash target || (is_absolute target && begins_with_host (drop (length http_scheme) target))

-- the path without what an absolute target has before its first slash
abbrev pub without_host : Bytes → Bytes
without_host path =
    if is_absolute path
    then (let rest = drop (length http_scheme) path in drop (position_or_len is_slash rest) rest)
    else path

-- what stands before the first question mark, without scheme and host
abbrev pub path_of : Bytes → Bytes
path_of target = without_host (before_first is_question target)

-- what stands after the first question mark
abbrev pub query_of : Bytes → Bytes
query_of target = after_first is_question target

-- the parts of the path between its slashes that have a byte, each percent-decoded
unfoldable pub segments_of : Bytes → Words
segments_of target = map percent_decode (filter is_filled (slice_split is_slash (path_of target)))

-- a byte that no segment may hold
abbrev pub is_unsafe_byte : ℕ → Bool
is_unsafe_byte byte = is_slash byte || is_backslash byte || byte == 0

-- the segment could lead out of the folder in which it is looked up
abbrev pub is_unsafe : Bytes → Bool
is_unsafe segment =
    bytes_eq segment (codes ".") || bytes_eq segment (codes "..") || list_any is_unsafe_byte segment
