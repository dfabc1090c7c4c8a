-- What is listed where no array is found.
use Rattle.std.proofs.Common.{◌≡◌, [], refl, Bor}
use Rattle.std.specs.FinMap as map
use Rattle.tcl_frame.specs.declared.found.Found.{Found}
use Rattle.tcl_frame.specs.declared.found.Found.TheVariants.{Nothing, Value, AnArray, InScalar}
use Rattle.tcl_frame.specs.Variables.{Elements}
use Rattle.tcl_frame.specs.Meaning.{elements_there}
use Rattle.tcl_frame.specs.Findings.{found_seen}
use Rattle.tcl_frame.proofs.Maps.{entries_of_empty}

-- where no array was found there are no elements
pub no_elements : (found : Found) → ((array : Bor Elements) → found ≡ AnArray array → ⊥) → map.entries (elements_there (found_seen found)) ≡ []
no_elements Nothing none = entries_of_empty _
no_elements (Value value) none = entries_of_empty _
no_elements (AnArray array) none = absurd (none array refl)
no_elements InScalar none = entries_of_empty _
