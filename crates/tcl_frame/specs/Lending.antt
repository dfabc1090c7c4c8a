-- What becomes of a dictionary once a borrow of one of its values ends.
use Rattle.std.specs.Prelude.{◌≡◌, Option, OnSome}
use Rattle.std.specs.Ordering.{nat_cmp}
use Rattle.std.specs.Cmp.Lexicographic.{slice_cmp}
use Rattle.std.specs.FinMap as map
use Rattle.std.specs.Borrow.{RattleType, MutBor, Fml, LendsSo}
use Rattle.txt_core.specs.Names.{Bytes}
use Rattle.tcl_frame.specs.contracts.dictionary.Dictionary.{the_row}

-- the dictionary has at the key what is written last through the result, and is as it was where there is none
abbrev pub lends_value : (V : RattleType) → MutBor (map.FinMap (slice_cmp nat_cmp) V.Denot) → Bytes → Option (MutBor V.Denot) → Fml
lends_value V s key r = LendsSo (the_row V) V s r (λ n w. OnSome r (n ≡ map.insert s.now key w)) (λ n. n ≡ s.now)
