-- Natives: commands that look at their words alone.
use Rattle.std.specs.Prelude.{Bool, length, nat_le, ◌&&◌, if◌then◌else◌, Result, Ok, Err}
use Rattle.txt_core.specs.Names.{Bytes, Words}
use Rattle.natives.specs.Ranges.{range_of}
use Rattle.natives.specs.Pure.{pure_of}
use Rattle.tcl_host.specs.Codes as code_of
use Rattle.tcl_eval.specs.Words.{arg}
use Rattle.tcl_eval.specs.Results.{wrong_words_end}
use Rattle.tcl_eval.specs.Going.{give}
use Rattle.tcl_eval.specs.State.{Rest, Next}

-- whether the number of words is one that the native of this name takes
abbrev pub is_in_range : Bytes → Words → Bool
is_in_range name words = nat_le (range_of name).least (length words) && nat_le (length words) (range_of name).most

module _ {H : Type 0} where
  -- a result, or the text of an error
  abbrev pub replied : Result Bytes Bytes → Next H → Rest H
  replied (Ok result) k = k code_of.ok result
  replied (Err message) k = k code_of.error message

  -- A native, whose own name is the first word. Where the number of words is outside its range, it isn't called.
  abbrev pub call_native : Words → Next H → Rest H
  call_native words k =
      if is_in_range (arg words 0) words then replied (pure_of (arg words 0) words) k else give (wrong_words_end words) k
