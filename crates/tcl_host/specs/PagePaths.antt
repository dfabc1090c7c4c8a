-- The paths of pages, as scripts write them.
use Rattle.std.specs.Prelude.{ℕ, Bool, not, ◌||◌, ◌==◌, [], ◌∷◌, codes, bytes_eq, if◌then◌else◌}
use Rattle.std.specs.List.{list_any, slice_split}
use Rattle.txt_core.specs.Names.{Bytes}
pub use Rattle.txt_core.specs.Paths.{is_slash, slash}

-- a path without the slash that it may begin with
abbrev pub behind_slash : Bytes → Bytes
behind_slash [] = []
behind_slash (byte ∷ path) = if is_slash byte then path else byte ∷ path

-- what is written, with a slash put in front where it lacks one
abbrev pub page_path : Bytes → Bytes
page_path written = slash ∷ behind_slash written

-- a backslash, or byte 0
abbrev pub is_bad_byte : ℕ → Bool
is_bad_byte byte = byte == 92 || byte == 0

-- a segment that no path of a page has: it is empty, `.` or `..`, or holds a backslash or byte 0
abbrev pub is_bad_segment : Bytes → Bool
is_bad_segment segment =
    bytes_eq segment [] || bytes_eq segment (codes ".") || bytes_eq segment (codes "..") || list_any is_bad_byte segment

-- What is written is the path of a page: behind the slash that it may begin with, none of its segments is such a one.
abbrev pub is_page_path : Bytes → Bool
is_page_path written = not (list_any is_bad_segment (slice_split is_slash (behind_slash written)))
