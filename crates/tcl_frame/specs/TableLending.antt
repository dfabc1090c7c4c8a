-- What becomes of variables by name once a borrow of one of them ends.
use Rattle.std.specs.Prelude.{◌≡◌, Option, OnSome}
use Rattle.std.specs.FinMap as map
use Rattle.std.specs.Borrow.{MutBor, Fml, LendsSo}
use Rattle.txt_core.specs.Names.{Bytes}
use Rattle.txt_core.specs.contracts.text.Text as text
use Rattle.tcl_frame.specs.Variables.{Table}
use Rattle.tcl_frame.specs.declared.variable.Variable.{Variable}
use Rattle.tcl_frame.specs.declared.variable.Variable.TheVariants.{Scalar}
use Rattle.tcl_frame.specs.contracts.table.Table as table
use Rattle.tcl_frame.specs.contracts.variable.Variable as variable

-- the variable of the name is what is written last through the result, and all are as they were where there is none
abbrev pub lends_variable : MutBor Table → Bytes → Option (MutBor Variable) → Fml
lends_variable s name r = LendsSo table.the_row variable.the_row s r (λ n w. OnSome r (n ≡ map.insert s.now name w)) (λ n. n ≡ s.now)

-- the scalar of the name has the text that is written last through the result, and all are as they were where no text is lent
abbrev pub lends_scalar : MutBor Table → Bytes → Option (MutBor Bytes) → Fml
lends_scalar s name r = LendsSo table.the_row text.the_row s r (λ n w. OnSome r (n ≡ map.insert s.now name (Scalar w))) (λ n. n ≡ s.now)
