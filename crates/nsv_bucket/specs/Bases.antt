-- What the pairs of a list are written over.
use Rattle.std.specs.FinMap as map
use Rattle.txt_core.specs.Names.{Bytes}
use Rattle.nsv_bucket.specs.declared.lists.Base.{Base}
use Rattle.nsv_bucket.specs.declared.lists.Base.TheVariants.{Standing, Nothing}
use Rattle.nsv_bucket.specs.Arrays.{Array, Arrays, array_of}

-- the array that has the name, or one that holds no key
abbrev pub base_of : Arrays → Bytes → Base → Array
base_of arrays name Standing = array_of arrays name
base_of arrays name Nothing = map.empty
