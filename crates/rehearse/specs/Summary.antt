-- What is counted of a listing.
use Rattle.std.specs.Prelude.{◌≡◌, ℕ, ◌+◌, min, ◌==◌, Bool, List, [], ◌∷◌, ◌++◌, length, decimal, codes, if◌then◌else◌}
use Rattle.txt_core.specs.Names.{Bytes, Names}
use Rattle.outside.specs.Faults.{last_count}
use Rattle.http_resp.specs.Statuses as statuses
use Rattle.rehearse.specs.declared.tally.Tally.{Tally}
use Rattle.rehearse.specs.declared.playback.Counted.{Counted}
use Rattle.rehearse.specs.declared.playback.Counted.TheVariants as counts
use Rattle.rehearse.specs.Events.{Event, line_of}
use Rattle.rehearse.specs.Files.{Holds, whole, bad}
use Rattle.rehearse.specs.Lines.{Line, defined, define_error, define_spent, define_deep, response, closed, script, script_spent, script_deep}

-- The declared `Tally` says how many responses have the status 200 and how many 404, and how many bytes all responses have. A count
-- stands still where counters stop.
abbrev pub nothing : Tally
nothing = record { found = 0; missing = 0; bytes = 0 }

abbrev pub capped : ℕ → ℕ → ℕ
capped count more = min (count + more) last_count

-- one more, where it is so
abbrev pub one_if : Bool → ℕ → ℕ
one_if test count = if test then capped count 1 else count

-- a response of this status and so many bytes is counted
abbrev pub with_count : Tally → ℕ → ℕ → Tally
with_count tally status count = record {
  found = one_if (status == statuses.ok) tally.found;
  missing = one_if (status == statuses.not_found) tally.missing;
  bytes = capped tally.bytes count;
}

abbrev pub with_response : Tally → ℕ → Bytes → Tally
with_response tally status bytes = with_count tally status (length bytes)

abbrev pub with_line : Tally → Line → Tally
with_line tally (response number epoch status bytes) = with_response tally status bytes
with_line tally (defined epoch) = tally
with_line tally (define_error text) = tally
with_line tally define_spent = tally
with_line tally define_deep = tally
with_line tally (closed number why) = tally
with_line tally (script id epoch code result) = tally
with_line tally (script_spent id epoch) = tally
with_line tally (script_deep id epoch) = tally

abbrev pub with_lines : Tally → List Line → Tally
with_lines tally [] = tally
with_lines tally (line ∷ lines) = with_lines (with_line tally line) lines

-- what is counted of a listing
abbrev pub tally_of : List Line → Tally
tally_of lines = with_lines nothing lines

-- The four lines that tell of so many requests and what was counted.
abbrev pub summary : ℕ → Tally → Bytes
summary requests tally =
    line_of (codes "requests" ∷ decimal requests ∷ [])
    ++ line_of (codes "status" ∷ codes "200" ∷ decimal tally.found ∷ [])
    ++ line_of (codes "status" ∷ codes "404" ∷ decimal tally.missing ∷ [])
    ++ line_of (codes "bytes" ∷ decimal tally.bytes ∷ [])

-- What was counted of a file: of the listing of the events that it holds, where it holds nothing else; or the event of this number is
-- none. Nothing is said where the source failed or memory ran out.
abbrev pub Counts : Names → Bytes → Counted → Type 0
Counts natives file (counts.Done tally) =
    (events : List Event) × (lines : List Line) × Holds natives file events lines whole × (tally ≡ tally_of lines)
Counts natives file (counts.BadEvent event) =
    (events : List Event) × (lines : List Line) × Holds natives file events lines (bad event)
Counts natives file counts.ReadFault = Unit {0}
Counts natives file counts.NoMemory = Unit {0}
