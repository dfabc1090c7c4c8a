-- Which registration serves a request.
use Rattle.std.specs.Prelude.{ℕ, ◌+◌, ◌*◌, List, [], ◌∷◌, length, nat_le, Bool, if◌then◌else◌, bytes_eq, codes, Option, Some, None}
use Rattle.std.specs.Option.{option_map}
use Rattle.txt_core.specs.Names.{Bytes, Words}
use Rattle.cmd_table.specs.declared.definition.Def.{Def}
use Rattle.cmd_table.specs.declared.definition.Def.TheVariants.{Route}
use Rattle.url_tables.specs.Urls.{segments, plain_of, suffix_of, below, fits}

-- a registration that matches: its rank, and its words
abbrev pub Match : Type 0
Match = ℕ × Words

-- one more for a pattern
abbrev pub pattern_rank : Option Bytes → ℕ
pattern_rank None = 0
pattern_rank (Some suffix) = 1

-- The rank of a registration: one with more plain segments has a higher one, and of two with as many the one with a pattern.
abbrev pub rank : Words → ℕ
rank segments = 2 * length (plain_of segments) + pattern_rank (suffix_of segments)

-- by what is left of the path behind its plain segments
abbrev pub match_of : Bool → Words → Option Words → Words → Option Match
match_of inherit segments None words = None
match_of inherit segments (Some rest) words = if fits inherit (suffix_of segments) rest then Some (rank segments, words) else None

-- HEAD counts as GET
abbrev pub route_method : Bytes → Bytes
route_method method = if bytes_eq method (codes "HEAD") then codes "GET" else method

-- A registration matches where its method is that of the request, its plain segments are a front of the path, and
-- what is left of the path fits.
abbrev pub registration : Bytes → Words → Def → Option Match
registration method path (Route registered url inherit words) =
    if bytes_eq registered (route_method method) then match_of inherit (segments url) (below (plain_of (segments url)) path) words else None
registration method path def = None

-- of two that match the one with the higher rank, and of two with the same rank the later one
abbrev pub better : Option Match → Option Match → Option Match
better earlier None = earlier
better None (Some later) = Some later
better (Some earlier) (Some later) = if nat_le earlier.0 later.0 then Some later else Some earlier

-- among all that match, the one with the highest rank, and the latest of those
abbrev pub best : Bytes → Words → List Def → Option Match
best method path [] = None
best method path (def ∷ defs) = better (registration method path def) (best method path defs)

-- The words that serve a request with this method and path; none where no registration matches.
abbrev pub route : List Def → Bytes → Words → Option Words
route defs method path = option_map (λ found. found.1) (best method path defs)
