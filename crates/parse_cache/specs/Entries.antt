-- How the entries of a cache in memory are seen.
use Rattle.std.specs.Prelude.{◌≡◌, ℕ, List, [], Vec, map, Contains}
use Rattle.std.specs.declared.alloc.Global.{Global}
use Rattle.txt_core.specs.Names.{Words}
use Rattle.tcl_parse.specs.declared.tree.Script.{Script}
use Rattle.tcl_parse.specs.Outcome.{done}
use Rattle.tcl_parse.specs.Reading.{reading}
use Rattle.tcl_parse.specs.View.{script_of}

-- The texts of the entries, in order.
abbrev pub texts : {V : Type 0} → List (Vec ℕ Global × V) → Words
texts entries = map (λ entry. entry.0.items) entries

-- Each entry has the script that its text spells.
abbrev pub AreRead : {V : Type 0} → (V → Script) → List (Vec ℕ Global × V) → Type 0
AreRead {V} script entries = (entry : Vec ℕ Global × V) → Contains entries entry → reading entry.0.items ≡ done (script_of (script entry.1)) []
