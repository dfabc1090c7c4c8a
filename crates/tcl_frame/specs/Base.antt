-- Base scalars: global scalars that are there whenever an interpreter's variables are cleared.
use Rattle.std.specs.Prelude.{◌≡◌, ℕ, ◌++◌, List, [], ◌∷◌, fold, take}
use Rattle.std.specs.FinMap as map
use Rattle.txt_core.specs.Names.{Bytes, Pairs}
use Rattle.tcl_frame.specs.declared.variable.Variable.TheVariants.{Scalar}
use Rattle.tcl_frame.specs.Variables.{Table, Scalars}
use Rattle.tcl_frame.specs.Stack.{Stack, Kept}

-- the values of the base scalars by their names: of several keeps of one name the last stands
abbrev pub base_of : List Kept → Scalars
base_of keeps = fold (λ base keep. map.insert base keep.0 keep.1) map.empty keeps

-- the variables, in which these scalars have these values, whatever stood there
abbrev pub with_scalars : Pairs → Table → Table
with_scalars [] table = table
with_scalars (scalar ∷ scalars) table = map.insert (with_scalars scalars table) scalar.0 (Scalar scalar.1)

-- these scalars as variables, and no other variables
abbrev pub as_variables : Scalars → Table
as_variables scalars = with_scalars (map.entries scalars) map.empty

-- the global frame alone, with exactly the base scalars of these keeps and their base values
abbrev pub at_base : List Kept → Stack
at_base keeps = record { global = as_variables (base_of keeps); above = []; keeps = keeps }

-- only the global frame is there, and it holds exactly the base scalars with their base values
abbrev pub IsAtBase : Stack → Type 0
IsAtBase stack = (stack.global ≡ as_variables (base_of stack.keeps)) × (stack.above ≡ [])

-- after all else was cleared away
abbrev pub cleared : Stack → Stack
cleared stack = at_base stack.keeps

-- after one more keep, of frames that are at their base
abbrev pub kept : Stack → Bytes → Bytes → Stack
kept stack name value = at_base (stack.keeps ++ (name, value) ∷ [])

-- after all keeps but the first ones, so many, were taken back, of frames that are at their base
abbrev pub unkept : Stack → ℕ → Stack
unkept stack count = at_base (take count stack.keeps)
