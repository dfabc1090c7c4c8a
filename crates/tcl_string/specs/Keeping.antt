-- What is kept of a text under way.
use Rattle.std.specs.Prelude.{◌≡◌, true, false}
use Rattle.txt_core.specs.Names.{Bytes}
use Rattle.txt_core.specs.Limits.{is_long}
use Rattle.tcl_string.specs.declared.output.Output.{Output}
use Rattle.tcl_string.specs.declared.output.Output.TheVariants.{Whole, TooLong}

-- all of it where it isn't over the limit of a value, else only that it is
abbrev pub Keeps : Output → Bytes → Type 0
Keeps (Whole kept) text = (kept ≡ text) × (is_long text ≡ false)
Keeps TooLong text = is_long text ≡ true
