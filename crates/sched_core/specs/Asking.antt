-- What the words of a script may ask of a schedule.
use Rattle.std.specs.Prelude.{ℤ, pos, negsuc, Bool, false, ◌&&◌, nat_le, bytes_eq, codes}
use Rattle.txt_core.specs.Names.{Bytes}
use Rattle.sched_core.specs.Entries.{most_seconds}

-- so many seconds from one run to the next may be: from 1 to those of a year
abbrev pub is_period : ℤ → Bool
is_period (pos n) = nat_le 1 n && nat_le n most_seconds
is_period (negsuc n) = false

-- the word is the option by which a script runs once
abbrev pub is_once_option : Bytes → Bool
is_once_option word = bytes_eq word (codes "-once")
