-- What becomes of the frames once a borrow of a scalar's value ends.
use Rattle.std.specs.Prelude.{◌≡◌, Option, OnSome}
use Rattle.std.specs.Borrow.{MutBor, Fml, LendsSo}
use Rattle.txt_core.specs.Names.{Bytes}
use Rattle.txt_core.specs.contracts.text.Text as text
use Rattle.tcl_frame.specs.Stack.{Stack}
use Rattle.tcl_frame.specs.Frames.{written}
use Rattle.tcl_frame.specs.contracts.frames.Frames as frames

-- what is left behind the result is written to the name. Where nothing is lent the frames are as they were
abbrev pub lends_written : MutBor Stack → Bytes → Option (MutBor Bytes) → Fml
lends_written s name r = LendsSo frames.the_row text.the_row s r (λ n w. OnSome r (n ≡ written s.now name w)) (λ n. n ≡ s.now)
