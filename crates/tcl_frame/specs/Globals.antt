-- What the global variables are kept as.
use Rattle.std.specs.Prelude.{◌≡◌, Bool, true, false, not, List, [], ◌∷◌, Option, Some, None, map, if◌then◌else◌}
use Rattle.std.specs.Option.{option_map}
use Rattle.std.specs.Ordering.{nat_cmp}
use Rattle.std.specs.Cmp.Lexicographic.{slice_cmp}
use Rattle.std.specs.FinMap as finite
use Rattle.txt_core.specs.Names.{Bytes, Pairs}
use Rattle.tcl_frame.specs.declared.base.Base.{Base}
use Rattle.tcl_frame.specs.declared.keep.Keep.{Keep}
use Rattle.tcl_frame.specs.declared.fault.VarFault.{VarFault}
use Rattle.tcl_frame.specs.declared.fault.VarFault.TheVariants.{NotArray}
use Rattle.tcl_frame.specs.Names.{Named, is_element}
use Rattle.tcl_frame.specs.Variables.{Table, Scalars}
use Rattle.tcl_frame.specs.Stack.{Kept}
use Rattle.tcl_frame.specs.Base.{with_scalars}

-- the global variables, and the keeps that stand, the first one first
pub record Globals : Type 0 where
  pub table : Table
  pub keeps : List Kept

-- base scalars by name
abbrev pub Bases : Type 0
Bases = finite.FinMap (slice_cmp nat_cmp) Base

-- whether a base scalar is there and isn't set aside
abbrev pub stands : Option Base → Bool
stands None = false
stands (Some base) = not base.aside

-- the value of a base scalar that isn't set aside
abbrev pub standing_value : Option Base → Option Bytes
standing_value None = None
standing_value (Some base) = if base.aside then None else Some base.value

-- names with base values
abbrev pub valued : List (Bytes × Base) → Pairs
valued entries = map (λ entry. (entry.0, entry.1.value)) entries

-- the base values
abbrev pub values_of : Bases → Scalars
values_of bases = finite.from_entries (valued (finite.entries bases))

-- the base scalars that aren't set aside
abbrev pub standing : Bases → Pairs
standing bases = valued (finite.entries (finite.retain_keys bases (λ name. stands (finite.get bases name))))

-- the variables: the base scalars that aren't set aside, and else what stands beside them
abbrev pub together : Bases → Table → Table
together bases own = with_scalars (standing bases) own

-- a base scalar that is set aside, and one that isn't
abbrev pub set_aside : Base → Base
set_aside base = record { value = base.value; aside = true }

abbrev pub standing_again : Base → Base
standing_again base = record { value = base.value; aside = false }

-- with the base scalar of this name set aside, where there is one
abbrev pub with_aside_one : Bases → Bytes → Option Base → Bases
with_aside_one bases name None = bases
with_aside_one bases name (Some base) = finite.insert bases name (set_aside base)

abbrev pub with_aside : Bases → Bytes → Bases
with_aside bases name = with_aside_one bases name (finite.get bases name)

-- the keeps, without what was there before each
abbrev pub keeps_of : List Keep → List Kept
keeps_of keeps = map (λ keep. (keep.name, keep.value)) keeps

-- the value that a base scalar had
abbrev pub value_before : Option Base → Option Bytes
value_before before = option_map (λ base. base.value) before

-- each keep knows the value that its name had before it, where these base scalars were there before the first one
abbrev pub KnowBefore : Scalars → List Keep → Type 0
KnowBefore base [] = Unit {0}
KnowBefore base (keep ∷ keeps) = (value_before keep.before ≡ finite.get base keep.name) × KnowBefore (finite.insert base keep.name keep.value) keeps

-- why a name can't be meant where its variable is this scalar, if there is one: it is an element's
abbrev pub base_fault : Option Bytes → Named → Option VarFault
base_fault None name = None
base_fault (Some value) name = if is_element name then Some NotArray else None
