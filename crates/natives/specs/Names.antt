-- Natives by their names.
use Rattle.std.specs.Prelude.{map, Bool, bytes_eq}
use Rattle.std.specs.List.{list_any}
use Rattle.txt_core.specs.Names.{Bytes, Names}
use Rattle.natives.specs.declared.native.Native.{Native}
use Rattle.natives.specs.declared.natives.Natives.{Natives}

-- the name of a native
abbrev pub name_of : {z : _} {g : _} → Native z g → Bytes
name_of native = native.name

-- the names of natives, in the order in which they were added
abbrev pub names_of : {z : _} {g : _} → Natives z g → Names
names_of natives = map (λ native. native.name) natives.list.items

-- whether a name is among others
abbrev pub has_name : Names → Bytes → Bool
has_name names name = list_any (λ other. bytes_eq other name) names
