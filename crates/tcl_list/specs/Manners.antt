-- How an element is written, by the manner that was chosen for it.
use Rattle.std.specs.Prelude.{[], ◌∷◌, ◌++◌}
use Rattle.txt_core.specs.Names.{Bytes}
use Rattle.txt_core.specs.Quoting.{escaped}
use Rattle.tcl_list.specs.declared.writing.Manner.{Manner}
use Rattle.tcl_list.specs.declared.writing.Manner.TheVariants.{Itself, InBraces, WithBackslashes}

abbrev pub written_by : Manner → Bytes → Bytes
written_by Itself x = x
written_by InBraces x = 123 ∷ (x ++ (125 ∷ []))
written_by WithBackslashes x = escaped x
