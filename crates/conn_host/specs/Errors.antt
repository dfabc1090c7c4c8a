-- The texts of errors that only commands of a connection give.
use Rattle.std.specs.Prelude.{ℤ, ◌++◌, codes}
use Rattle.std.specs.Fmt.{signed_decimal}
use Rattle.txt_core.specs.Names.{Bytes}
use Rattle.txt_core.specs.ErrorTexts.{naming}

-- no set stands under this id
abbrev pub no_set : Bytes → Bytes
no_set id = naming (codes "no set \"") id (codes "\"")

-- the set of this id has no field at this place
abbrev pub no_field : ℤ → Bytes → Bytes
no_field place id = naming (codes "no field ") (signed_decimal place) (naming (codes " in set \"") id (codes "\""))

-- no channel is open under this id
abbrev pub no_channel : Bytes → Bytes
no_channel id = naming (codes "no channel \"") id (codes "\"")

-- as many channels are open as may be
abbrev pub too_many_channels : Bytes
too_many_channels = codes "too many channels"
