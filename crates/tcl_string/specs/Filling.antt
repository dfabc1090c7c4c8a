-- What the parts of a pattern write, each by itself.
use Rattle.std.specs.Prelude.{◌≡◌, [], ◌∷◌, ◌++◌, Option, None, Result, ◌==◌, if◌then◌else◌, codes}
use Rattle.txt_core.specs.Names.{Bytes}
use Rattle.natives.specs.Answers.{Tried}
use Rattle.natives.specs.declared.fault.Fault.{Fault}
use Rattle.natives.specs.Parts.{Part, itself, form}
use Rattle.natives.specs.Formatting.{filled, form_error, form_text}
use Rattle.tcl_string.specs.Keeping.{Keeps}
use Rattle.tcl_string.specs.declared.output.Output.{Output}

-- a text is put behind what was there, or the error is told where there is one
abbrev pub Puts : {A : Type 0} → Option Bytes → Bytes → Bytes → Bytes → Result A Fault → Type 0
Puts error old text new result = Tried error (λ _. new ≡ old ++ text) result

-- the same of what is kept of the text
abbrev pub PutsNext : Option Bytes → Bytes → Bytes → Result Output Fault → Type 0
PutsNext error old text result = Tried error (λ out. Keeps out (old ++ text)) result

-- what is wrong with the word that a part takes
abbrev pub part_error : Part → Bytes → Option Bytes
part_error (itself b) word = None
part_error (form f) word = if f.letter == 37 then None else form_error f.letter word

-- what it writes
abbrev pub part_text : Part → Bytes → Bytes
part_text (itself b) word = b ∷ []
part_text (form f) word = if f.letter == 37 then filled f [] (codes "%") else form_text f word
