-- What becomes of the global variables once a borrow of a scalar's text ends.
use Rattle.std.specs.Prelude.{◌≡◌, Option, OnSome}
use Rattle.std.specs.FinMap as map
use Rattle.std.specs.Borrow.{MutBor, Fml, LendsSo}
use Rattle.txt_core.specs.Names.{Bytes}
use Rattle.txt_core.specs.contracts.text.Text as text
use Rattle.tcl_frame.specs.declared.variable.Variable.TheVariants.{Scalar}
use Rattle.tcl_frame.specs.Globals.{Globals}
use Rattle.tcl_frame.specs.contracts.globals.Globals as globals

-- the scalar of the name has the text that is written last through the result, and all are as they were where no text is lent
abbrev pub lends_global : MutBor Globals → Bytes → Option (MutBor Bytes) → Fml
lends_global s name r =
    LendsSo globals.the_row text.the_row s r
    (λ n w. OnSome r (n ≡ record s.now { table = map.insert s.now.table name (Scalar w) })) (λ n. n ≡ s.now)
