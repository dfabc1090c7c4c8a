-- What a text is as a script.
use Rattle.std.specs.Prelude.{◌≡◌, ℕ, ◌+◌, [], length, Result, Ok, Err}
use Rattle.txt_core.specs.Names.{Bytes}
use Rattle.tcl_parse.specs.declared.tree.Script.{Script}
use Rattle.tcl_parse.specs.declared.fault.ParseFault.{ParseFault}
use Rattle.tcl_parse.specs.Outcome.{done, fault}
use Rattle.tcl_parse.specs.Reading.{reading}
use Rattle.tcl_parse.specs.View.{script_of}
use Rattle.parse_cache.specs.declared.reading.Reading.{Reading}
use Rattle.parse_cache.specs.declared.reading.Reading.TheVariants as code
use Rattle.parse_cache.specs.Caches.{Cache, used}

-- An answer that shares its script, as an answer of parse: by the script.
abbrev pub as_parsed : {R : Type 0} → (R → Script) → Result R ParseFault → Result Script ParseFault
as_parsed script (Ok shared) = Ok (script shared)
as_parsed script (Err why) = Err why

-- The text spells this script, or it has this fault at this place.
abbrev pub IsReading : Bytes → Reading → Type 0
IsReading t (code.Script script) = reading t ≡ done (script_of script.value) []
IsReading t (code.Fault place kind) = (left : ℕ) × (place + left ≡ length t) × (reading t ≡ fault kind left)

-- The same script, or the same fault.
abbrev pub IsSameReading : Reading → Reading → Type 0
IsSameReading (code.Script a) (code.Script b) = a.value ≡ b.value
IsSameReading (code.Script a) (code.Fault place kind) = ⊥
IsSameReading (code.Fault place kind) (code.Script b) = ⊥
IsSameReading (code.Fault p k) (code.Fault q l) = (p ≡ q) × (k ≡ l)

-- The cache after a text was read as this: a fault changes nothing.
abbrev pub after : Reading → Bytes → Cache → Cache
after (code.Script script) t cache = used t cache
after (code.Fault place kind) t cache = cache
