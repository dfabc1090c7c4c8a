-- How variables by name are kept: a few in a list, in front of others.
use Rattle.std.specs.Prelude.{Bool, List, [], ◌∷◌}
use Rattle.std.specs.Str.{bytes_eq}
use Rattle.std.specs.FinMap as map
use Rattle.txt_core.specs.Names.{Bytes}
use Rattle.tcl_frame.specs.declared.few.Entry.{Entry}
use Rattle.tcl_frame.specs.Variables.{Table}

-- whether this is a variable of the name
abbrev pub is_named : Bytes → Entry → Bool
is_named name entry = bytes_eq name entry.name

-- the variables of a list and those behind it: of several of one name the first one is there
abbrev pub in_front : List Entry → Table → Table
in_front [] table = table
in_front (entry ∷ few) table = map.insert (in_front few table) entry.name entry.variable
