-- What the program answers, in the words of the rules. Want of memory says nothing.
pub use Rattle.tcl_host.specs.Outcomes.{FailsWith, Comes, Refused, Passes}
