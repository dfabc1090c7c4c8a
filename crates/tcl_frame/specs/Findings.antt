-- How what the code finds is seen.
use Rattle.tcl_frame.specs.declared.found.Found.{Found}
use Rattle.tcl_frame.specs.declared.found.Found.TheVariants.{Nothing, Value, AnArray, InScalar}
use Rattle.tcl_frame.specs.Meaning as meaning

-- what was found, with what stands behind its references
abbrev pub found_seen : Found → meaning.Found
found_seen Nothing = meaning.Nothing
found_seen (Value value) = meaning.Value value.now
found_seen (AnArray elements) = meaning.AnArray elements.now
found_seen InScalar = meaning.InScalar
