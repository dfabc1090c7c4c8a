-- The reading of a text.
use Rattle.std.specs.Prelude.{◌≡◌, ℕ, ◌+◌, [], length}
use Rattle.txt_core.specs.Names.{Bytes}
use Rattle.tcl_parse.specs.declared.fault.Kind.{Kind}
use Rattle.tcl_parse.specs.Tree.{Script}
use Rattle.tcl_parse.specs.Outcome.{Outcome, done, fault}
use Rattle.tcl_parse.specs.Grammar.{Reads}
use Rattle.tcl_parse.specs.Laws.Some.{some_reading}
use Rattle.tcl_parse.specs.Laws.One.{one_reading}

-- The script spells the text.
abbrev pub Spells : Script → Bytes → Type 0
Spells s t = Reads t (done s [])

-- The text has a fault of this kind at this place, counted from 0: it is the first that is reached.
abbrev pub HasFault : Bytes → ℕ → Kind → Type 0
HasFault t place k = (left : ℕ) × (place + left ≡ length t) × Reads t (fault k left)

-- The one outcome that the rules give a text. Nothing is known of it but the two laws below.
pub reading : Bytes → Outcome Script
reading t = (some_reading t).0

pub reads_reading : (t : Bytes) → Reads t (reading t)
unfolding reading
reads_reading t = (some_reading t).1

pub reading_is : (t : Bytes) (o : Outcome Script) → Reads t o → reading t ≡ o
reading_is t o h = one_reading t (reading t) o (reads_reading t) h
