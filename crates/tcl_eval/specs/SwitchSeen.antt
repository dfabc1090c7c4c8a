-- What the program reads of the options of `switch`.
use Rattle.std.specs.Prelude.{◌≡◌, Bool, Result, Ok, Err}
use Rattle.txt_core.specs.Names.{Bytes, Words}
use Rattle.tcl_eval.specs.declared.switch.Options.{Options}
use Rattle.tcl_eval.specs.declared.switch.Options.TheVariants.{Read, Bad}

abbrev pub OptionsAre : Options → Result (Bool × Words) Bytes → Type 0
OptionsAre (Read globs behind) meant = meant ≡ Ok (globs, behind.now)
OptionsAre (Bad word) meant = meant ≡ Err word.now
