-- The URL of a registration.
use Rattle.std.specs.Prelude.{◌==◌, ◌-◌, [], ◌∷◌, length, take, drop, fold, nat_lt, Bool, false, ◌&&◌, ◌||◌, if◌then◌else◌, bytes_eq, codes, Option, Some, None}
use Rattle.std.specs.List.{filter, slice_split, ends_with}
use Rattle.std.specs.Prelude.{nat_eq}
use Rattle.txt_core.specs.Names.{Bytes, Words}
pub use Rattle.txt_core.specs.Paths.{is_slash}
pub use Rattle.txt_core.specs.Texts.{is_filled}

-- The segments of a URL: what stands between its slashes, as it is written, where that has a byte.
unfoldable pub segments : Bytes → Words
segments url = filter is_filled (slice_split is_slash url)

-- the last one of some texts; the empty text where there is none
abbrev pub last_of : Words → Bytes
last_of texts = fold (λ before text. text) [] texts

-- A pattern is a segment that begins with `*.` and has a byte more.
abbrev pub is_pattern : Bytes → Bool
is_pattern segment = nat_lt 2 (length segment) && bytes_eq (take 2 segment) (codes "*.")

-- the plain segments: all, but for a pattern that stands last
abbrev pub plain_of : Words → Words
plain_of segments = if is_pattern (last_of segments) then take (length segments - 1) segments else segments

-- in what the last segment of a path must end where a pattern stands last: the pattern without its `*`
abbrev pub suffix_of : Words → Option Bytes
suffix_of segments = if is_pattern (last_of segments) then Some (drop 1 (last_of segments)) else None

-- what is left of a path behind these segments; none where the path doesn't begin with them
abbrev pub below : Words → Words → Option Words
below [] path = Some path
below (segment ∷ plain) [] = None
below (segment ∷ plain) (first ∷ path) = if bytes_eq first segment then below plain path else None

-- Whether what is left of a path behind the plain segments is served. Without a pattern anything is, but where the
-- registration isn't inherited nothing may be left. With a pattern something must be left, the last segment must end
-- in the suffix, and where the registration isn't inherited one segment alone may be left.
abbrev pub fits : Bool → Option Bytes → Words → Bool
fits inherit None rest = inherit || (length rest == 0)
fits inherit (Some suffix) [] = false
fits inherit (Some suffix) (first ∷ rest) = (inherit || (length rest == 0)) && ends_with nat_eq (last_of (first ∷ rest)) suffix
