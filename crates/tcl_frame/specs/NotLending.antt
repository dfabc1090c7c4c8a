-- Of which names no scalar's text is lent to be changed.
use Rattle.std.specs.Prelude.{◌≡◌, true, ◌⊎◌, List, None, IsSome}
use Rattle.std.specs.FinMap as map
use Rattle.txt_core.specs.Names.{Bytes}
use Rattle.tcl_frame.specs.Names.{is_closed}
use Rattle.tcl_frame.specs.Variables.{Table}
use Rattle.tcl_frame.specs.Stack.{Stack, Kept}
use Rattle.tcl_frame.specs.Base.{base_of}
use Rattle.tcl_frame.specs.Frames.{links_name, table_of}
use Rattle.tcl_frame.specs.Texts.{text_of_scalar}

-- no scalar of this name is among these variables
abbrev pub IsNoScalar : Table → Bytes → Type 0
IsNoScalar table name = text_of_scalar (map.get table name) ≡ None

-- a base scalar has this name: a keep of it stands
abbrev pub IsBase : List Kept → Bytes → Type 0
IsBase keeps name = IsSome (map.get (base_of keeps) name)

-- among the variables among which the name is looked up there is no scalar of it, or these are the global ones, and the name is that
-- of a base scalar
abbrev pub IsPlainNotLent : Stack → Bytes → Type 0
IsPlainNotLent stack name =
    IsNoScalar (table_of stack name) name ⊎ ((links_name stack.above name ≡ true) × IsBase stack.keeps name)

-- The same of any name. A name that ends in `)` may be an element's.
abbrev pub IsNotLent : Stack → Bytes → Type 0
IsNotLent stack name = (is_closed name ≡ true) ⊎ IsPlainNotLent stack name
