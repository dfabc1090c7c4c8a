-- The variables that the topmost frame has for its own, and what becomes of the frames once a borrow of these, or of a
-- scalar's text, ends.
use Rattle.std.specs.Prelude.{◌≡◌, List, Option, Some, None, OnSome, if◌then◌else◌}
use Rattle.std.specs.FinMap as map
use Rattle.std.specs.Borrow.{MutBor, Fml, LendsSo}
use Rattle.txt_core.specs.Names.{Bytes}
use Rattle.txt_core.specs.contracts.text.Text as text
use Rattle.tcl_frame.specs.declared.variable.Variable.TheVariants.{Scalar}
use Rattle.tcl_frame.specs.Variables.{Table}
use Rattle.tcl_frame.specs.Stack.{Stack}
use Rattle.tcl_frame.specs.declared.frame.Frame.{Frame}
use Rattle.tcl_frame.specs.Frames.{links_name, top_variables, table_of, with_table}
use Rattle.tcl_frame.specs.contracts.frames.Frames as frames
use Rattle.tcl_frame.specs.contracts.table.Table as table

-- the variables of the topmost of these frames, where a variable of this name is one of them
abbrev pub own_variables : List Frame → Bytes → Option Table
own_variables frames name = if links_name frames name then None else Some (top_variables frames)

-- what is written last through the result is the variables among which the variable of this name is looked up. Where nothing is
-- lent the frames are as they were
abbrev pub lends_own : MutBor Stack → Bytes → Option (MutBor Table) → Fml
lends_own s name r =
    LendsSo frames.the_row table.the_row s r
    (λ n w. OnSome r (n ≡ with_table s.now name w)) (λ n. n ≡ s.now)

-- among the variables among which the name is looked up, it is a scalar with the text that is written last through the result. Where
-- nothing is lent the frames are as they were
abbrev pub lends_plain : MutBor Stack → Bytes → Option (MutBor Bytes) → Fml
lends_plain s name r =
    LendsSo frames.the_row text.the_row s r
    (λ n w. OnSome r (n ≡ with_table s.now name (map.insert (table_of s.now name) name (Scalar w)))) (λ n. n ≡ s.now)
