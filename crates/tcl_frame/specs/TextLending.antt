-- What becomes of a variable once a borrow of its text ends.
use Rattle.std.specs.Prelude.{Option}
use Rattle.std.specs.Borrow.{MutBor, Fml, LendsIf}
use Rattle.txt_core.specs.Names.{Bytes}
use Rattle.txt_core.specs.contracts.text.Text as text
use Rattle.tcl_frame.specs.declared.variable.Variable.{Variable}
use Rattle.tcl_frame.specs.declared.variable.Variable.TheVariants.{Scalar}
use Rattle.tcl_frame.specs.contracts.variable.Variable as variable

-- the variable is a scalar with what is written last through the result, and is as it was where no text is lent
abbrev pub lends_text : MutBor Variable → Option (MutBor Bytes) → Fml
lends_text s r = LendsIf variable.the_row text.the_row s r Scalar s.now
